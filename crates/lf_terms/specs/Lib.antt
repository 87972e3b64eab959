pub mod Plain
pub mod Instance
pub mod Named
pub mod Encoding
pub mod ProofTerms
