pub mod Growing
pub mod Parts
pub mod Rounds
mod Choosing
mod Decided
