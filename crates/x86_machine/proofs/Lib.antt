pub mod Spans
pub mod Standing
pub mod Keeping
pub mod Orders
