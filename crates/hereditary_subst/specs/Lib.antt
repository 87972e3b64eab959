pub use Rattle.term_table.specs.Tree
pub use Rattle.term_table.specs.Subst
pub use Rattle.term_table.specs.Table
pub mod Simples
pub mod Inside
pub mod Heads
pub mod Kept
pub mod Limits
