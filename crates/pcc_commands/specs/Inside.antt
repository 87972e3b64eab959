pub mod Writes
pub mod Shows
pub mod Behind
pub mod Turning
pub mod Standing
