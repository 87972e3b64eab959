pub mod Arguments
pub mod Texts
pub mod Drafts
pub mod Tasks
pub mod Reports
pub mod Headline
pub mod Inside
