pub mod Counting
pub mod Raising
pub mod Putting
pub mod Meaning
pub mod Parts
pub mod Scopes
pub mod Used
