-- Words of the private functions and of the proofs.
pub mod Walks
