pub mod Failing
pub mod Citing
pub mod Searching
pub mod Backwards
pub mod Longer
