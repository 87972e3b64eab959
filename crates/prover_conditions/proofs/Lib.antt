pub mod AccessRows
pub mod Heights
pub mod AllOperators
pub mod WholeProof
