pub mod Frames
pub mod Readings
pub mod StartLemmas
pub mod Grammar
pub mod Meeting
pub mod ResultLemmas
