pub mod Codes
pub mod Encoding
pub mod Decoding
