pub mod SourceLines
pub mod WrongOperands
pub mod Spans
pub mod SourceReports
pub mod SourceCode
pub mod Answers
pub mod Laws
pub mod Inside
