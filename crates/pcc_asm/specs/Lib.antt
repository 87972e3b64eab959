pub mod Words
pub mod Assembling
pub mod Faults
pub mod Names
pub mod Views
pub mod Limits
pub mod Inside
