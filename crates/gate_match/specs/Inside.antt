-- Words of the private functions and of the proofs.
pub mod Goals
pub mod Uses
pub mod Comparisons
