pub mod Rules
pub mod PlainForms
pub mod Decided
pub mod Lasting
pub mod Inside
