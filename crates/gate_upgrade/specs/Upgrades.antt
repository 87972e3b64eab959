-- What a container of version 1 is upgraded to, as a relation between the two.
use Rattle.std.specs.Prelude.{◌≡◌, ℕ, ◌+◌, ◌≤◌, List, length}
use Rattle.policy_set.specs.declared.kind.PolicyKind.{PolicyKind}
use Rattle.policy_set.specs.Views.{built_in}
use Rattle.policy_set.specs.Names.{kind_number}
use Rattle.proof_container.specs.declared.container.Head.TheVariants.{Number}
use Rattle.proof_container.specs.declared.limits.TheConstants.{MAX_BYTES}
use Rattle.proof_container.specs.Contents.{Contents}
use Rattle.proof_container.specs.Encoding.{EncodesContents}
use Rattle.gate_upgrade.specs.Upgrading.{with_digest}
use Rattle.gate_upgrade.specs.declared.limits.TheConstants.{GROWTH}

-- The bytes are a container that names a built-in policy by its number, and out is one of the same
-- code, invariants and proof that names it by its digest.
pub record IsUpgrade (bytes out : List ℕ) : Type 0 where
  pub contents : Contents
  pub kind : PolicyKind
  pub old : EncodesContents bytes contents
  pub number : contents.head ≡ Number (kind_number kind)
  pub new : EncodesContents out (with_digest (built_in kind) contents)
  pub size : length out ≡ length bytes + GROWTH
  pub short : length out ≤ MAX_BYTES
