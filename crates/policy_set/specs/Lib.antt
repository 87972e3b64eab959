pub mod Views
pub mod Names
pub mod Policies
pub mod Satisfies
pub mod PolicyText
pub mod Digest
pub mod Inside
