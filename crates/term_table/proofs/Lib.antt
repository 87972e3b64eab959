pub mod Options
pub mod Equality
pub mod Shifts
pub mod Agree
pub mod Trees
pub mod Reached
pub mod Measured
mod Rows
