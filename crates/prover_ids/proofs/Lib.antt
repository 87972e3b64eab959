pub mod Heads
pub mod Others
pub mod PutRows
pub mod KeptRows
mod Moving
pub mod Standing
pub mod HypRows
