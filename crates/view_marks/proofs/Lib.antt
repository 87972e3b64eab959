pub mod Wholes
mod Pushing
mod Descending
mod Growing
pub mod Gathering
mod Leading
mod Conjuncts
mod Ahead
mod Granting
mod Opening
