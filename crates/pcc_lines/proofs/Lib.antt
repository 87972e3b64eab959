pub mod PrintLemmas
mod HexBytes
