pub mod Growing
mod Relations
mod Rewrites
pub mod Rounds
mod Summing
