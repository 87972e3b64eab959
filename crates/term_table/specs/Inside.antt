-- Words of the private functions and of the invariant of a table.
pub mod Code
pub mod Reach
pub mod Entries
pub mod Keys
