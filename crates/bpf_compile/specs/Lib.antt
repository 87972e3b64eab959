pub mod Compilation
pub mod Inside
pub mod Contents
pub mod Compiled
