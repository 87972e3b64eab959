-- Theorems on the definitions, which the laws of the signature stand on.
pub mod Lawful
