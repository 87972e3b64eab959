-- Every formula's operators are those of each signature of the last profile.
use Rattle.std.proofs.Common.{◌≡◌, ◌∙◌, ap}
use Rattle.word_ops.specs.declared.Op.{Op}
use Rattle.word_ops.specs.Operators.{Last, has_op}
use Rattle.word_ops.proofs.EachOp.{last_has}
use Rattle.lf_signature.specs.declared.editions.WordSignature.{WordSignature}
use Rattle.lf_signature.specs.Constants.{operators_of, declared}
use Rattle.lf_signature.specs.Known.{HasOp}
use Rattle.lf_signature.specs.Laws.Within.{has-declared}

-- a signature of the last profile has every operator
pub all-declared : (s : WordSignature) → operators_of s ≡ Last → (o : Op) → HasOp (declared s) o
all-declared s e o = has-declared s o (ap (λ p. has_op p o) e ∙ last_has o)
