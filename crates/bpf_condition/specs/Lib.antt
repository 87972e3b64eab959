pub mod Invariants
pub mod PartForms
pub mod Condition
pub mod Parts
