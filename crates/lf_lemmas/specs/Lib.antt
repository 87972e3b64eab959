pub mod Lemmas
pub mod WrittenOut
pub mod Checking
pub mod Orderly
pub mod Tables
pub mod Laws
pub mod Overflow
