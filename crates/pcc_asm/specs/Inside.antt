pub mod Views
pub mod Held
