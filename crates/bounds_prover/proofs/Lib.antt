mod Measures
mod Writable
pub mod SmallTerms
mod Making
