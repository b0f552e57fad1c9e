pub mod SelfRun
pub mod generated
