pub mod Entries
pub mod SourceLines
pub mod Sizes
pub mod Short
pub mod Inside
