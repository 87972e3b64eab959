-- Why a container isn't upgraded: the tests of its bytes in their order, the first of which that fails is told.
use Rattle.std.specs.Prelude.{◌≡◌, ◌≢◌, ℕ, ◌+◌, ◌≤◌, List, [], ◌∷◌, length}
use Rattle.word_ops.specs.Tests.{TestFor, test, FirstFails}
use Rattle.policy_set.specs.declared.kind.PolicyKind.{PolicyKind}
use Rattle.policy_set.specs.Names.{kind_number}
use Rattle.proof_container.specs.declared.container.Head.TheVariants.{Number}
use Rattle.proof_container.specs.declared.fault.Flaw.{Flaw}
use Rattle.proof_container.specs.declared.limits.TheConstants.{MAX_BYTES}
use Rattle.proof_container.specs.Contents.{Contents}
use Rattle.proof_container.specs.Encoding.{EncodesContents}
use Rattle.proof_container.specs.FieldTests.{IsFirstFault}
use Rattle.gate_upgrade.specs.declared.fault.UpgradeFlaw.{UpgradeFlaw}
use Rattle.gate_upgrade.specs.declared.fault.UpgradeFlaw.TheVariants as flaw
use Rattle.gate_upgrade.specs.declared.limits.TheConstants.{GROWTH, OLD_VERSION}

module _ (bytes : List ℕ) where
  -- the bytes encode a container, or have a first fault
  abbrev pub is_container : TestFor UpgradeFlaw
  is_container = record {
    passes = (c : Contents) × EncodesContents bytes c;
    fails = λ found. (at : ℕ) × (what : Flaw) × IsFirstFault bytes at what × (found ≡ flaw.Malformed at what);
  }

  -- the container is of version 1
  abbrev pub is_first_version : TestFor UpgradeFlaw
  is_first_version = record {
    passes = (c : Contents) × EncodesContents bytes c × (c.version ≡ OLD_VERSION);
    fails = λ found. (c : Contents) × EncodesContents bytes c × (c.version ≢ OLD_VERSION) × (found ≡ flaw.Already);
  }

  -- the number that it names is a built-in policy's
  abbrev pub is_built_in : TestFor UpgradeFlaw
  is_built_in = record {
    passes = (c : Contents) × (kind : PolicyKind) × EncodesContents bytes c × (c.head ≡ Number (kind_number kind));
    fails = λ found. (c : Contents) × (n : ℕ) × EncodesContents bytes c × (c.head ≡ Number n)
        × ((kind : PolicyKind) → n ≢ kind_number kind) × (found ≡ flaw.OtherPolicy n);
  }

  -- the tests: neither the container nor what it would be upgraded to is too long
  abbrev pub upgrade_tests : List (TestFor UpgradeFlaw)
  upgrade_tests =
      test (length bytes ≤ MAX_BYTES) (flaw.TooLong (length bytes))
      ∷ is_container
      ∷ is_first_version
      ∷ is_built_in
      ∷ test (length bytes + GROWTH ≤ MAX_BYTES) (flaw.TooBig (length bytes + GROWTH))
      ∷ []

  -- The first reason why the bytes have no upgrade.
  abbrev pub IsUpgradeFlaw : UpgradeFlaw → Type 0
  IsUpgradeFlaw found = FirstFails upgrade_tests found
