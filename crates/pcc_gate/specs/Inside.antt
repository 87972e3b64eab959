pub mod Stages
pub mod Passed
pub mod Acceptance
