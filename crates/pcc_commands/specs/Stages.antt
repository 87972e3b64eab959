pub mod Writing
pub mod Judging
pub mod Assembling
pub mod Proving
pub mod Upgrading
pub mod Compiling
pub mod Hosting
