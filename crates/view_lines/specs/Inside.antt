-- Words of the private functions.
pub mod Nodes
pub mod Copies
