-- Words of private clauses.
pub mod Written
pub mod Ends
