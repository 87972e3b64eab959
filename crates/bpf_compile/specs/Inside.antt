pub mod Ids
pub mod Insns
