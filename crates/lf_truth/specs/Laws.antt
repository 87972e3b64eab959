-- Theorems on the definitions, which the laws of signatures stand on.
pub mod Lemmas
