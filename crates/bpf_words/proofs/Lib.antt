pub mod Effects
pub mod Exactly
pub mod Insns
pub mod Meanings
pub mod Soundness
