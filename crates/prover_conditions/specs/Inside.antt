-- Words of the private functions.
pub mod Parts
pub mod Instances
pub mod AccessIds
