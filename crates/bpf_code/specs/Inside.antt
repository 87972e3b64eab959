-- Words of private functions.
pub mod Bounds
