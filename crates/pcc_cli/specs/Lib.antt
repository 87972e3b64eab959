pub mod Headline
pub mod Clauses
pub mod Means
