pub mod ChangeLemmas
pub mod TextLemmas
pub mod RunLemmas
pub mod PacketLemmas
