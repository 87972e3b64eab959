-- What a test that is 0, or isn't, is split into.
use Rattle.std.proofs.Common.{◌≡◌, ℕ, ◌+◌, Bool, not, Some, None, [], ◌∷◌, refl}
use Rattle.term_table.specs.Tree.{Tree}
use Rattle.word_ops.specs.declared.Op.{Op}
use Rattle.word_ops.specs.declared.Op.TheVariants.{Cmpeq, Cmplt, Cmple, Cmpult, Cmpule}
use Rattle.word_ops.specs.declared.Rel.{Rel}
use Rattle.formula_tree.specs.Formulas.{Exp, EOp}
use Rattle.lf_terms.specs.ProofTerms.{word_rule}
use Rattle.prover_class.specs.Hypotheses.{compared, test_rule, comparison_hyps, tested_hyps}

pub tested-split : (zero : Bool) (o : Op) (p : Rel) (j : ℕ) (a b : Exp) (h : Tree) → compared o ≡ Some (p, j) →
    comparison_hyps (tested_hyps a) (not zero) p a b (word_rule (test_rule zero + j) (a ∷ b ∷ []) (h ∷ [])) ≡ tested_hyps (EOp o a b) zero h
tested-split zero o p j a b h q = rw q refl

-- an operator that is none of the compares
pub not_compared : (o : Op) → (o ≡ Cmpeq → ⊥) → (o ≡ Cmplt → ⊥) → (o ≡ Cmple → ⊥) → (o ≡ Cmpult → ⊥) → (o ≡ Cmpule → ⊥) → compared o ≡ None
not_compared Cmpeq a b c d e = absurd (a refl)
not_compared Cmplt a b c d e = absurd (b refl)
not_compared Cmple a b c d e = absurd (c refl)
not_compared Cmpult a b c d e = absurd (d refl)
not_compared Cmpule a b c d e = absurd (e refl)
not_compared o a b c d e = refl
