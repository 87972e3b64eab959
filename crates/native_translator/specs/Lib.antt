pub mod Translation
pub mod Inside
