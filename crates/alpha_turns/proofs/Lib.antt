pub mod Members
pub mod Running
pub mod Turning
pub mod Depending
pub mod Parting
