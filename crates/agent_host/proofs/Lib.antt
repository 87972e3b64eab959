pub mod Running
pub mod Building
pub mod Seeing
