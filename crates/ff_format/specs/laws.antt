pub mod Bodies
pub mod Patched
pub mod Patches
