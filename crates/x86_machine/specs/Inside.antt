-- Words of the invariant of `X86Machine` and of its private functions.
pub mod Fields
pub mod Places
