pub mod Keeping
pub mod Unmetered
pub mod Answering
pub mod Compiled
