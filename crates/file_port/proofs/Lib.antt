pub mod FileMaps
pub mod LogWalks
pub mod PutLemmas
pub mod StreamLemmas
pub mod WriteLemmas
