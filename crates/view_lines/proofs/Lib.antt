pub mod Adding
pub mod Copying
pub mod ShownTexts
pub mod Nodes
pub mod Encoded
