pub mod Places
pub mod Sequences
pub mod Straight
pub mod Agreement
pub mod Compares
