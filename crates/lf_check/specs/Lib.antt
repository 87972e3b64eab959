pub use Rattle.lf_signature.specs.Typing
pub mod Inside
pub mod Kept
pub mod Lists
pub mod Uses
