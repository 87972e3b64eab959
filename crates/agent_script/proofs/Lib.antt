pub mod Cuts
pub mod Sayings
pub mod Adding
pub mod Spelling
pub mod Said
pub mod Meanings
