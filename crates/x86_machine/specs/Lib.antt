pub mod Flags
pub mod Machine
pub mod States
pub mod Inside
