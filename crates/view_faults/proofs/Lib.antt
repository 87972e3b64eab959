pub mod Backwards
pub mod Places
pub mod PolicySaid
