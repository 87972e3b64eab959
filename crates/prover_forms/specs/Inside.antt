-- Words of the private functions and of rounds.
pub mod Summands
pub mod Rounds
pub mod Deciding
