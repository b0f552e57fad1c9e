pub mod LineLaws
pub mod Lines
pub mod Many
pub mod SpreadLaws
pub mod Valid
