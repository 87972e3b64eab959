pub mod Tokens
pub mod Parens
pub mod Registers
pub mod Numbers
pub mod Answers
pub mod Inside
pub mod Lines
