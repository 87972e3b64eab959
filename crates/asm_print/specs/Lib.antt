pub mod Listing
pub mod Views
pub mod Laws
pub mod Targets
pub mod Printing
