pub mod Jumps
pub mod Pairs
pub mod Checks
