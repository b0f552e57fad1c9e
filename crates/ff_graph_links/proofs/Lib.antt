pub mod OrdersLemmas
pub mod PadsLemmas
mod LabelsLemmas
