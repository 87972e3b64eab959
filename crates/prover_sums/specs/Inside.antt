-- Words of the private functions and of what is kept.
pub mod Rewrites
pub mod Rounds
pub mod Sums
