pub mod Invocations
pub mod Arguments
pub mod Texts
pub mod Reports
pub mod Tasks
pub mod Headline
pub mod Inside
