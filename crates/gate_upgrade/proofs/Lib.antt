pub mod Renamed
pub mod Exactly
pub mod Acceptance
pub mod Profiles
pub mod Weights
pub mod UpgradeFlaws
