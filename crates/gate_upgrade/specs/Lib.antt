pub mod Upgrading
pub mod Upgrades
pub mod UpgradeTests
pub mod Laws
