pub mod Translated
pub mod Calls
