pub mod Bases
pub mod CommonBases
pub mod Heads
pub mod Options
pub mod Shapes
pub mod Stacks
