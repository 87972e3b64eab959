-- Words of the private functions.
pub mod NodeSizes
