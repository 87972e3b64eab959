pub mod Agents
pub mod Hosts
pub mod Turns
pub mod Worlds
pub mod Inside
