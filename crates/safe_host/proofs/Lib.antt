pub mod Counting
pub mod Running
pub mod Packets
pub mod Reloaded
pub mod StepCounts
