pub mod BoundIds
pub mod Candidates
pub mod Choices
pub mod KeptBounds
pub mod Lasting
