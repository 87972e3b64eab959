pub mod List
pub mod Goals
pub mod Packet
pub mod Faults
