pub mod Lists
pub mod TypeSubst
pub mod Formed
pub mod Absent
pub mod ProofFree
pub mod Moves
pub mod Citing
pub mod Inlined
pub mod WrittenOut
pub mod Prefixes
pub mod WordLemmas
pub mod LemmaRows
pub mod SimpleSubst
mod SimpleTotal
mod Substitution
