-- Words of the private functions, and what kept results say.
pub mod Spare
