pub mod Sides
pub mod Lacking
pub mod Growing
mod Spending
