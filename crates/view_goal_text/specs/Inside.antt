-- Words of the private functions.
pub mod Printed
pub mod FormTerms
