pub mod Certificates
pub mod Inside
