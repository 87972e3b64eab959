pub mod Nodes
pub mod Operands
pub mod Hypotheses
pub mod Kept
pub mod Puts
pub mod Inside
pub mod PutRows
pub mod Lasting
