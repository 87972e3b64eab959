pub mod Conditions
pub mod Inside
