pub mod Hosts
pub mod Runs
pub mod Runners
pub mod Counts
pub mod Inside
