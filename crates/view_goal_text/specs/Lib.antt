pub mod Styles
pub mod Hints
pub mod Listing
pub mod Answers
pub mod Laws
pub mod Inside
