-- Containers of version 1 as containers of version 2: the digest of the policy stands in place of
-- its number, and all else stays. The tests stand in their order, and the first that fails is the
-- answer.
use Rattle.std.specs.Prelude.{◌≡◌, ℕ, ◌+◌, nat_lt, if◌then◌else◌, List, [], length, Option, Some, None, Result, Ok, Err}
use Rattle.term_table.specs.Steps.{◌>>=◌}
use Rattle.policy_set.specs.declared.kind.PolicyKind.{PolicyKind}
use Rattle.policy_set.specs.Views.{PolicyView, built_in}
use Rattle.policy_set.specs.Names.{kind_numbered}
use Rattle.policy_set.specs.Digest.{digest_of}
use Rattle.proof_container.specs.declared.container.Head.{Head}
use Rattle.proof_container.specs.declared.container.Head.TheVariants.{Number, Digest}
use Rattle.proof_container.specs.declared.limits.TheConstants.{MAX_BYTES}
use Rattle.proof_container.specs.Contents.{Contents}
use Rattle.proof_container.specs.Encoding.{encoding_of}
use Rattle.proof_container.specs.Decoding.{contents_within}
use Rattle.gate_upgrade.specs.declared.fault.UpgradeFault.{UpgradeFault}
use Rattle.gate_upgrade.specs.declared.fault.UpgradeFault.TheVariants as fault
use Rattle.gate_upgrade.specs.declared.fault.UpgradeFlaw.{UpgradeFlaw}
use Rattle.gate_upgrade.specs.declared.fault.UpgradeFlaw.TheVariants as flaw
use Rattle.gate_upgrade.specs.declared.limits.TheConstants.{GROWTH, NEW_VERSION}

-- ---- the contents

-- the contents as those of version 2, with the digest of the policy as head
abbrev pub with_digest : PolicyView → Contents → Contents
with_digest policy c = record {
  version = NEW_VERSION;
  head = Digest (digest_of policy);
  bound = None;
  code = c.code;
  invs = c.invs;
  lemmas = [];
  proof = c.proof;
}

-- ---- the tests

-- what the bytes hold, where they aren't too many
abbrev pub contents_in : List ℕ → Result Contents UpgradeFlaw
contents_in bytes = contents_within flaw.TooLong (λ at what. flaw.Malformed at what) bytes

-- the number that a container names its policy by, which those of version 1 do, and no others
abbrev pub number_in : Head → Result ℕ UpgradeFlaw
number_in (Number n) = Ok n
number_in (Digest d) = Err flaw.Already

-- the kind of the number, where there is one
abbrev pub kind_found : ℕ → Option PolicyKind → Result PolicyKind UpgradeFlaw
kind_found n (Some kind) = Ok kind
kind_found n None = Err (flaw.OtherPolicy n)

-- a size that a container may have
abbrev pub size_within : ℕ → Result ℕ UpgradeFlaw
size_within n = if nat_lt MAX_BYTES n then Err (flaw.TooBig n) else Ok n

-- ---- the whole

-- the container of version 2 with the contents of the one that the bytes are, or the first reason
-- why there is none
unfoldable pub upgraded_container : List ℕ → Result (List ℕ) UpgradeFlaw
upgraded_container bytes = do
  contents ← contents_in bytes
  number ← number_in contents.head
  kind ← kind_found number (kind_numbered number)
  size ← size_within (length bytes + GROWTH)
  Ok (encoding_of (with_digest (built_in kind) contents))

-- ---- what answers of calls say

-- an answer, seen by view, is what upgrading gives, unless memory ran out
abbrev pub IsUpgraded : {X Y : Type 0} → (X → Y) → Result Y UpgradeFlaw → Result X UpgradeFault
    → Type 0
IsUpgraded view made (Ok x) = made ≡ Ok (view x)
IsUpgraded view made (Err (fault.At e)) = made ≡ Err e
IsUpgraded view made (Err fault.Memory) = Unit {0}
