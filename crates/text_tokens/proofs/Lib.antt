pub mod Lexing
pub mod Fronts
pub mod Known
pub mod Rows
pub mod Endings
pub mod Cutting
