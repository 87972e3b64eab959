-- Words of the private functions.
pub mod Splits
pub mod Refutations
