mod Lemmas
mod LineNumbers
mod SourceCodes
mod Always
mod PureStages
mod CommandStages
mod Suited
mod Shown
pub mod Reading
