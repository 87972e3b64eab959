pub mod Names
pub mod Proving
pub mod ProvedLaws
