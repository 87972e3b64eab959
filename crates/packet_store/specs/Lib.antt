pub mod Packets
pub mod PacketDecoding
pub mod Yields
pub mod PolicyStarts
pub mod StartMeets
pub mod Results
pub mod Runners
pub mod Names
