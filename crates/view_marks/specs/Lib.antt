pub mod Marks
pub mod Inside
pub mod Hints
pub mod Halves
pub mod Looking
pub mod Answers
