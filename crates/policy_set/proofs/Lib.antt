pub mod EachKind
pub mod AllOperators
pub mod Closed
pub mod Numbers
pub mod Heights
pub mod Spelled
pub mod PolicyFlaws
pub mod Texts
