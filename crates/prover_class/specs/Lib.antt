pub use Rattle.lf_terms.specs.ProofTerms
pub mod Hypotheses
pub mod Bounds
pub mod NormalForms
pub mod Goals
pub mod Parts
pub mod Access
pub mod Repeats
