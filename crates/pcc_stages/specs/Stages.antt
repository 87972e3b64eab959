pub mod Common
pub mod Policies
pub mod Containers
pub mod Packets
