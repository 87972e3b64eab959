pub mod Judged
pub mod LaterWords
mod Values
mod ValueSubst
mod TypeMeaning
mod Soundness
mod WordValues
mod WordRules
mod RuleMeaning
mod FormMeaning
mod DeclaredModel
mod Closed
pub mod Proved
