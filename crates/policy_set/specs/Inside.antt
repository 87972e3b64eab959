-- What no clause of a public function cites.
pub mod Held
pub mod Code
