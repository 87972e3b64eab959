-- Words of private functions.
pub mod Words
pub mod Reading
