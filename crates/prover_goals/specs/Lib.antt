pub mod Provers
pub mod Answers
pub mod Search
pub mod Contexts
pub mod Inside
pub mod Lasting
