-- Relations that words alone prove, on ids.
use Rattle.std.specs.Prelude.{◌≡◌, ℕ, Bool, Option, Some, None, List, [], ◌∷◌}
use Rattle.term_table.specs.Tree.{Tree}
use Rattle.term_table.specs.Table.{TableView, tree_at, Stands}
use Rattle.word_ops.specs.declared.Rel.{Rel}
use Rattle.word_ops.specs.declared.Rel.TheVariants.{Ult, Ule}
use Rattle.formula_tree.specs.Formulas.{Exp, ELit, Form, FRel}
use Rattle.lf_terms.specs.Encoding.{exp_encoding}
use Rattle.prover_ids.specs.Hypotheses.{AreHyps}
use Rattle.prover_ids.specs.declared.hypotheses.Hypothesis.{Hypothesis}
use Rattle.lf_terms.specs.ProofTerms.{word_rule, fact}
use Rattle.lf_signature.specs.declared.numbers.TheConstants.{LE_LT, LT_LE, ULE_TRANS}
use Rattle.prover_class.specs.Hypotheses.{Hyps}
use Rattle.prover_class.specs.Bounds.{WordBound, upper_bound, lower_bound}
use Rattle.prover_class.specs.Goals.{aligned_form}

-- (ule a b) by a's upper bound v and b's lower bound w
abbrev pub at_most_tree : Exp → Exp → WordBound → WordBound → Tree
at_most_tree a b v w =
    word_rule ULE_TRANS (a ∷ ELit v.value ∷ b ∷ [])
    (v.proof ∷ word_rule ULE_TRANS (ELit v.value ∷ ELit w.value ∷ b ∷ []) (fact Ule v.value w.value ∷ w.proof ∷ []) ∷ [])

-- (ult a b) by the same bounds
abbrev pub less_tree : Exp → Exp → WordBound → WordBound → Tree
less_tree a b v w =
    word_rule LT_LE (a ∷ ELit w.value ∷ b ∷ [])
    (word_rule LE_LT (a ∷ ELit v.value ∷ ELit w.value ∷ []) (v.proof ∷ fact Ult v.value w.value ∷ []) ∷ w.proof ∷ [])

-- what is given of the relation of whatever expressions the ids stand for, or none
abbrev pub IsRelationProof : (Hyps → Form → Option Tree) → TableView → TableView → List Hypothesis → Rel → ℕ → ℕ → Option ℕ → Type 0
IsRelationProof prove t u hyps rel a b o =
    (Γ : Hyps) (x y : Exp) → AreHyps t hyps Γ → tree_at t a ≡ exp_encoding x → tree_at t b ≡ exp_encoding y → Stands u (prove Γ (FRel rel x y)) o

-- what is given by bounds of whatever expressions the ids stand for, or none
abbrev pub IsBoundsProof : Bool → (Exp → Exp → WordBound → WordBound → Option Tree) → TableView → TableView → List Hypothesis → ℕ → ℕ → Option ℕ → Type 0
IsBoundsProof counted prove t u hyps a b o =
    (Γ : Hyps) (x y : Exp) → AreHyps t hyps Γ → tree_at t a ≡ exp_encoding x → tree_at t b ≡ exp_encoding y → Stands u (prove x y (upper_bound Γ x) (lower_bound counted Γ y)) o

-- an expression that a formula says to be a multiple of 8
pub record IsAlignedOf (t : TableView) (A : Form) (id : ℕ) : Type 0 where
  pub exp : Exp
  pub is : A ≡ aligned_form exp
  pub exp_is : tree_at t id ≡ exp_encoding exp

-- the expression that it says so of; none where it doesn't
abbrev pub IsAlignedPart : TableView → Form → Option ℕ → Type 0
IsAlignedPart t A None = (e : Exp) → A ≡ aligned_form e → ⊥
IsAlignedPart t A (Some id) = IsAlignedOf t A id
