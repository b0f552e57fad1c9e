pub mod net
pub mod network
pub mod sched
