pub mod Object
pub mod Standing
