mod Few
mod FewOuts
mod Given
mod Had
pub mod Holds
pub mod Keeping
mod KeptHeads
mod Labelled
mod Lists
mod Making
mod ReadMaps
pub mod SomeFilters
mod OpenPads
