pub mod Places
pub mod Inside
pub mod Alignments
pub mod Lasting
