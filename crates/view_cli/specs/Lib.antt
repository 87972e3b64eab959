pub mod Texts
pub mod Inside
pub mod Commands
pub mod Tasks
pub mod Reports
pub mod Headline
pub mod Invocations
pub mod Arguments
