pub mod StageLemmas
pub mod ReadingLemmas
pub mod DecisionLemmas
pub mod AccountLemmas
pub mod RunLemmas
pub mod Splitting
pub mod PureStages
pub mod Suiting
