pub mod Formulas
pub mod Lines
pub mod Texts
pub mod Shown
pub mod Inside
