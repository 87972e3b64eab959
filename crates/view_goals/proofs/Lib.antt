pub mod Appending
pub mod Asked
pub mod Marks
pub mod Outlines
pub mod Shown
