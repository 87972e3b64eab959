pub mod Goals
pub mod Rows
pub mod Laws
pub mod Inside
