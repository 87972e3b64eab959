-- What native code of a container is.
use Rattle.std.specs.Prelude.{ℕ, ◌<◌, ◌^◌, Bool, true, false, List, length, Option, Some, None}
use Rattle.policy_set.specs.Views.{PolicyView}
use Rattle.pcc_gate.specs.Accepted.{IsAccepted}
use Rattle.native_translator.specs.Translation.{IsTranslation}

-- fuel is counted unless the container bounds the steps
abbrev pub is_metered : Option ℕ → Bool
is_metered None = true
is_metered (Some bound) = false

-- The bytes are accepted under the policy, and the text is a translation of their code.
pub record IsNativeOf (policy : PolicyView) (bytes text : List ℕ) : Type 0 where
  pub accepted : IsAccepted policy bytes
  pub translated : IsTranslation (is_metered accepted.contents.bound) accepted.code text
  pub short : length text < 2 ^ 30
