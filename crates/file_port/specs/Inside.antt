-- Words of private functions.
pub mod Streams
pub mod Takes
