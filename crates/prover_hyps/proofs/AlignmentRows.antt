-- Kept alignments as the table grows, and an alignment by those of the parts.
use Rattle.std.proofs.Common.{◌≡◌, ℕ, Option, Some, None, IfSome, List, [], ◌∷◌, option_map, refl, sym, ◌∙◌, ap, subst, arith}
use Rattle.term_table.specs.Tree.{Tree}
use Rattle.term_table.specs.Subst.{bind}
use Rattle.term_table.specs.Table.{TableView, IsKnown, Extends, Stands}
use Rattle.word_ops.specs.declared.Op.{Op}
use Rattle.word_ops.specs.declared.Op.TheVariants.{Add, Band, Sll}
use Rattle.formula_tree.specs.Formulas.{Exp, EOp}
use Rattle.lf_terms.specs.ProofTerms.{word_rule}
use Rattle.prover_class.specs.Hypotheses.{Hyps, find_hyp}
use Rattle.hereditary_subst.proofs.Rows.{memo-more}
use Rattle.prover_ids.specs.declared.hypotheses.Hypothesis.{Hypothesis}
use Rattle.prover_ids.specs.Hypotheses.{AreKnownHyps}
use Rattle.prover_class.specs.Goals.{first_of, aligned_form, alignment_proof}
use Rattle.prover_ids.proofs.HypRows.{known_hyps-more, hyps-before}
use Rattle.prover_hyps.specs.Alignments.{IsAlignmentOf, IsFoundAlignment, IsAlignment, AreAlignments}
use Rattle.prover_hyps.specs.Lasting.{alignment-lasts}
use Rattle.prover_hyps.specs.declared.alignments.Aligned.{Aligned}
use Rattle.prover_ids.specs.declared.kept.Kept.{Kept}
use Rattle.prover_ids.proofs.KeptRows.{right-more}
use Rattle.lf_signature.specs.declared.numbers.TheConstants.{ADD_AL}

pub alignments-more : (kept : Kept Aligned (Option ℕ)) (t u : TableView) (l : List Hypothesis) → AreAlignments t l kept → AreKnownHyps t l → Extends t u → AreAlignments u l kept
alignments-more kept t u l h k x = right-more (λ v. IsAlignment v l) t u (λ q o i. alignment-lasts t u l q.exp o k x i) h

-- what was answered in a later table of an id of an earlier one
pub made_answer : (t u : TableView) (l : List Hypothesis) (e : ℕ) (o p : Option ℕ) → o ≡ p → AreKnownHyps t l → IsKnown t e → Extends t u → IfSome o (IsKnown u) → IsAlignmentOf t u l e o → IsFoundAlignment u l e p
made_answer t u l e o p same k ke x known h =
    let made : IsFoundAlignment u l e o = record {
      of = omega (arith, ke, x.longer);
      known = known;
      is = λ Γ y g q. h Γ y (hyps-before t u l Γ k x g) (sym (x.same e ke) ∙ q);
    } in
    subst (λ (z : Option ℕ). IsFoundAlignment u l e z) same made

-- as it is asked for and kept
pub asked_answer : (u : TableView) (l m : List Hypothesis) (e q : ℕ) (o : Option ℕ) → m ≡ l → q ≡ e → IsFoundAlignment u l e o → IsFoundAlignment u m q o
asked_answer u l m e q o hyps exp h = subst (λ (k : List Hypothesis). IsFoundAlignment u k q o) (sym hyps) (subst (λ (n : ℕ). IsFoundAlignment u l n o) (sym exp) h)

-- the answer by another name
pub stands_at : (u : TableView) (z : Option Tree) (o p : Option ℕ) → o ≡ p → Stands u z o → Stands u z p
stands_at u z o p same h = subst (λ (k : Option ℕ). Stands u z k) same h

-- an addend, a hypothesis first
abbrev pub part : Hyps → Exp → Option Tree
part Γ x = first_of (find_hyp Γ (aligned_form x)) (alignment_proof Γ x)

-- a sum of which the second isn't proved
pub sum_none : (Γ : Hyps) (l r : Exp) → part Γ r ≡ None → alignment_proof Γ (EOp Add l r) ≡ None
sum_none Γ l r h = go (part Γ l)
  where
    go : (o : Option Tree) → bind o (λ p. option_map (λ q. word_rule ADD_AL (l ∷ r ∷ []) (p ∷ q ∷ [])) (part Γ r)) ≡ None
    go None = refl
    go (Some p) = ap (option_map (λ q. word_rule ADD_AL (l ∷ r ∷ []) (p ∷ q ∷ []))) h

-- a sum of which both are
pub sum_some : (Γ : Hyps) (l r : Exp) (p q : Tree) → part Γ l ≡ Some p → part Γ r ≡ Some q → alignment_proof Γ (EOp Add l r) ≡ Some (word_rule ADD_AL (l ∷ r ∷ []) (p ∷ q ∷ []))
sum_some Γ l r p q hp hq = λ i. bind (hp i) (λ p. option_map (λ q. word_rule ADD_AL (l ∷ r ∷ []) (p ∷ q ∷ [])) (hq i))

-- an operator of which no alignment is known
pub no_alignment : (Γ : Hyps) (o : Op) (l r : Exp) → (o ≡ Sll → ⊥) → (o ≡ Band → ⊥) → (o ≡ Add → ⊥) → alignment_proof Γ (EOp o l r) ≡ None
no_alignment Γ Sll l r a b c = absurd (a refl)
no_alignment Γ Band l r a b c = absurd (b refl)
no_alignment Γ Add l r a b c = absurd (c refl)
no_alignment Γ o l r a b c = refl

pub ruleset rows = (memo-more, known_hyps-more, alignments-more)
