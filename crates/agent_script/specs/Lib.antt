pub mod Lines
pub mod Statements
pub mod Scripts
pub mod Texts
pub mod Names
pub mod Inside
