-- Words of the private functions, and what kept judgements say.
pub mod Families
pub mod Introductions
