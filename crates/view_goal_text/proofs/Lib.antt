pub mod Growing
pub mod FormTerms
pub mod HintLines
pub mod RowLines
pub mod PartLists
pub mod Answering
