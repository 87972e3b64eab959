-- Words of the private functions.
pub mod Shapes
pub mod Marking
pub mod Known
pub mod Conjuncts
pub mod Nearness
pub mod Halves
pub mod Lasting
