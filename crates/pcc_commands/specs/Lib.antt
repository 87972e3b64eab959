pub mod Stages
pub mod Commands
pub mod Tasks
pub mod Turns
pub mod Reports
pub mod Inside
