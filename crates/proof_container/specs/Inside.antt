-- The words of private functions.
pub mod Cursor
pub mod Fronts
pub mod Walked
