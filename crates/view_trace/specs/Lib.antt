pub mod Accesses
pub mod Changes
pub mod Texts
pub mod Traces
pub mod Tracers
pub mod Inside
