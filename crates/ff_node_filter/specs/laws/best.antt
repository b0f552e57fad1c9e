pub mod Ends
pub mod Examples
pub mod Laws
pub mod LeadLaws
pub mod Leaders
pub mod Leads
pub mod Views
