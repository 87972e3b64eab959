pub mod BoundRows
pub mod Relating
pub mod Scans
pub mod Choosing
