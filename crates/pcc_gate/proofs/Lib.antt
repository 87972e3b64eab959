pub mod ForPolicy
pub mod WrittenOut
pub mod Safe
pub mod CodeBytes
pub mod Searches
pub mod Conditions
pub mod Flags
pub mod Deciding
pub mod Rows
pub mod ByClause
pub mod Exactly
mod Ready
pub mod Digests
mod Witness
mod LemmaWitness
mod DigestWitness
mod BoundWitness
pub mod Kept
pub mod Refusing
pub mod Stages
