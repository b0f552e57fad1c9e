pub mod AnyCoders
pub mod ChoiceLaws
pub mod Coders
pub mod FlacLaws
pub mod Made
pub mod PcmLaws
pub mod Props
pub mod RawLaws
