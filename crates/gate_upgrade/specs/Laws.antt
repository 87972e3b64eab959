-- What holds of what containers are upgraded to.
use Rattle.std.specs.Prelude.{◌≡◌, ◌↔◌, ℕ, List, Ok, Err}
use Rattle.policy_set.specs.Views.{PolicyView, IsPolicy}
use Rattle.term_table.specs.Bytes.{IsBytes}
use Rattle.pcc_gate.specs.Accepted.{IsAccepted}
use Rattle.gate_upgrade.specs.Upgrading.{upgraded_container}
use Rattle.gate_upgrade.specs.Upgrades.{IsUpgrade}
use Rattle.gate_upgrade.specs.UpgradeTests.{IsUpgradeFlaw}
use Rattle.gate_upgrade.specs.declared.fault.UpgradeFlaw.{UpgradeFlaw}

-- bytes are upgraded to others exactly where the relation says so
abbrev pub UpgradedExactly : Type 0
UpgradedExactly =
    (bytes out : List ℕ) → IsBytes bytes
    → (upgraded_container bytes ≡ Ok out) ↔ IsUpgrade bytes out

-- bytes are refused with a flaw exactly where it is the first of their tests that fails
abbrev pub UpgradeRefused : Type 0
UpgradeRefused =
    (bytes : List ℕ) (flaw : UpgradeFlaw) → IsBytes bytes
    → (upgraded_container bytes ≡ Err flaw) ↔ IsUpgradeFlaw bytes flaw

-- What an accepted container is upgraded to is accepted, under the policy that it is for.
abbrev pub UpgradedAccepted : Type 0
UpgradedAccepted =
    (policy : PolicyView) (bytes out : List ℕ) → IsPolicy policy → IsUpgrade bytes out
    → IsAccepted policy bytes → IsAccepted policy out
