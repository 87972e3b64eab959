pub mod Sources
pub mod Packets
