-- Words of the private functions.
pub mod Bounds
pub mod Joined
