pub mod Marking
pub mod Lines
pub mod Views
pub mod FormReports
pub mod PolicyReports
