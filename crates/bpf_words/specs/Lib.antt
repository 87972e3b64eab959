pub mod Flaws
pub mod Names
pub mod Programs
pub mod Reading
pub mod Values
