pub mod Leads
pub mod Outlook
pub mod Part
pub mod Plan
pub mod rice
