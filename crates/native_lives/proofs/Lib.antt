pub mod Scanning
pub mod Certified
