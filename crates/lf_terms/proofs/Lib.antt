pub mod Room
pub mod Shifts
pub mod Walks
pub mod Putting
pub mod Typed
mod Slots
mod Giving
pub mod Given
pub mod Use
pub mod Slices
pub mod Grown
pub mod Encoded
