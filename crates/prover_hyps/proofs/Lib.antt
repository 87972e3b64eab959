mod Index
pub mod Known
pub mod Growing
pub mod Raised
mod Compared
mod Splits
mod Refuted
pub mod AlignmentRows
