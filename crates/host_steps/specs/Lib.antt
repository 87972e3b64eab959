pub mod Slots
pub mod Operations
pub mod Stepping
pub mod RunEnds
pub mod Parts
