pub mod SameTokens
pub mod Assembled
pub mod FaultLines
pub mod SourceSaid
pub mod WrongFound
pub mod Marked
pub mod Codes
