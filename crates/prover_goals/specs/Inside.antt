-- Words of the private functions.
pub mod Words
pub mod Connectives
