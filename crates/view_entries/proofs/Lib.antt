pub mod Places
pub mod Sized
pub mod Texts
