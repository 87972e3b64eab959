pub mod Kept
pub mod AnswerRows
pub mod WordRows
mod Rounds
pub mod Connecting
