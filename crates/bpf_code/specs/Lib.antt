pub mod Blocks
pub mod Simulation
pub mod Inside
