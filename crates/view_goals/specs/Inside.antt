-- Words of the private functions.
pub mod Reading
pub mod Outlines
pub mod Appended
pub mod Parts
