-- Words of invariants.
pub mod Fields
