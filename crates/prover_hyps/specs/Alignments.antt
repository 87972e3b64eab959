-- What is kept of alignments, and the steps of the proof of a masked word.
use Rattle.std.specs.Prelude.{◌≡◌, ℕ, Option, IfSome, List, [], ◌∷◌}
use Rattle.term_table.specs.Tree.{Tree}
use Rattle.term_table.specs.Table.{TableView, IsKnown, tree_at, Stands}
use Rattle.word_ops.specs.declared.Op.TheVariants.{Band}
use Rattle.word_ops.specs.declared.Rel.TheVariants.{Eq}
use Rattle.formula_tree.specs.Formulas.{Exp, EVar, EOp, FRel}
use Rattle.lf_terms.specs.Encoding.{exp_encoding}
use Rattle.prover_ids.specs.Kept.{AreRight}
use Rattle.prover_ids.specs.declared.kept.Kept.{Kept}
use Rattle.prover_ids.specs.Hypotheses.{AreHyps}
use Rattle.prover_ids.specs.declared.hypotheses.Hypothesis.{Hypothesis}
use Rattle.lf_terms.specs.ProofTerms.{word_rule, eq_refl, move, up, calc}
use Rattle.lf_signature.specs.declared.numbers.TheConstants.{AND_ASSOC, AND_ZERO}
use Rattle.prover_class.specs.Hypotheses.{Hyps, find_hyp}
use Rattle.prover_class.specs.Goals.{first_of, aligned_form, alignment_proof}
use Rattle.prover_hyps.specs.declared.alignments.Aligned.{Aligned}
use Rattle.prover_hyps.specs.contracts.alignments.AlignedOrd.TheImpl as block

-- from (eq e e) to (eq e (band x i))
abbrev pub masked_first : Exp → Exp → Exp → Exp → Exp → Tree
masked_first x y s i e = move (FRel Eq (up e) (EVar 0)) e (EOp Band x i) (word_rule AND_ASSOC (x ∷ y ∷ s ∷ []) []) (eq_refl e)

-- from there to (eq e (band x z))
abbrev pub masked_second : Exp → Exp → Exp → Exp → ℕ → Tree → Tree
masked_second x i e z w p = move (FRel Eq (up e) (EOp Band (up x) (EVar 0))) i z (calc Band w 7) p

-- from there to (eq e z)
abbrev pub masked_third : Exp → Exp → Exp → Tree → Tree
masked_third x e z p = move (FRel Eq (up e) (EVar 0)) (EOp Band x z) z (word_rule AND_ZERO (x ∷ []) []) p

-- the alignment of whatever expression the id stands for, or none
abbrev pub IsAlignmentOf : TableView → TableView → List Hypothesis → ℕ → Option ℕ → Type 0
IsAlignmentOf t u hyps e o = (Γ : Hyps) (x : Exp) → AreHyps t hyps Γ → tree_at t e ≡ exp_encoding x → Stands u (alignment_proof Γ x) o

-- the same, a hypothesis first
abbrev pub IsPartOf : TableView → TableView → List Hypothesis → ℕ → Option ℕ → Type 0
IsPartOf t u hyps e o =
    (Γ : Hyps) (x : Exp) → AreHyps t hyps Γ → tree_at t e ≡ exp_encoding x → Stands u (first_of (find_hyp Γ (aligned_form x)) (alignment_proof Γ x)) o

-- the answer is right of the expression
pub record IsFoundAlignment (t : TableView) (hyps : List Hypothesis) (e : ℕ) (o : Option ℕ) : Type 0 where
  pub of : IsKnown t e
  pub known : IfSome o (IsKnown t)
  pub is : IsAlignmentOf t t hyps e o

-- the answer is right of the question
abbrev pub IsAlignment : TableView → List Hypothesis → Aligned → Option ℕ → Type 0
IsAlignment t hyps q o = IsFoundAlignment t hyps q.exp o

-- each kept answer is right
abbrev pub AreAlignments : TableView → List Hypothesis → Kept Aligned (Option ℕ) → Type 0
AreAlignments t hyps kept = AreRight block.ghosts.cmp (λ u. IsAlignment u hyps) t kept
