pub mod NormalForms
pub mod Sums
pub mod Inside
pub mod Occurrences
pub mod Lasting
