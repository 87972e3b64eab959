pub mod Heads
pub mod Lives
pub mod Blocks
pub mod Layout
pub mod Calls
pub mod Ends
