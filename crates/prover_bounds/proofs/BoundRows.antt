-- Kept bounds as the table grows.
use Rattle.std.proofs.Common.{◌≡◌, ℕ, Option, Result, Ok, Err, IfOk, IfSome, List, sym, ◌∙◌, ap, arith}
use Rattle.term_table.specs.Table.{TableView, IsKnown, tree_at, Extends}
use Rattle.hereditary_subst.proofs.Rows.{memo-more}
use Rattle.formula_tree.specs.Formulas.{Exp}
use Rattle.lf_terms.specs.Encoding.{exp_encoding}
use Rattle.prover_ids.specs.Hypotheses.{AreKnownHyps, AreHyps}
use Rattle.prover_ids.specs.declared.hypotheses.Hypothesis.{Hypothesis}
use Rattle.prover_ids.proofs.HypRows.{known_hyps-more}
use Rattle.prover_ids.proofs.KeptRows.{right-more}
use Rattle.prover_class.specs.Hypotheses.{Hyps}
use Rattle.prover_class.specs.Bounds.{WordBound}
use Rattle.prover_bounds.specs.Lasting.{row-lasts}
use Rattle.prover_bounds.specs.BoundIds.{IsWordBound, bound_by_ids}
use Rattle.prover_bounds.specs.KeptBounds.{IsBoundRow, IsKept, AreBounds}
use Rattle.prover_bounds.specs.declared.bounds.Bound.{Bound}
use Rattle.prover_bounds.specs.declared.bounds.Side.{Side}
use Rattle.prover_bounds.specs.declared.choices.Choice.{Choice}
use Rattle.prover_bounds.specs.declared.kept_bounds.KeptBounds.{KeptBounds}

-- a bound stays one
pub bound-more : {t u : TableView} {w : WordBound} {b : Bound} → IsWordBound t w b → Extends t u → IsWordBound u w b
bound-more h e = record { known = omega (arith, h.known, e.longer); value = h.value; is = e.same _ h.known ∙ h.is }

-- a bound is its word and its proof
pub bound_is : {u : TableView} {w : WordBound} {b : Bound} → IsWordBound u w b → bound_by_ids u b ≡ w
bound_is h = λ i. record { value = h.value i; proof = h.is i }

-- what is kept lasts as the table grows
pub bounds-more : (kept : KeptBounds) (t u : TableView) (l : List Hypothesis) → AreBounds t l kept → AreKnownHyps t l → Extends t u → AreBounds u l kept
bounds-more kept t u l h k e = right-more (λ v. IsBoundRow v l) t u (λ s r i. row-lasts t u l s r k e i) h

-- the row of a choice
pub bound-row : (t : TableView) (l : List Hypothesis) (side : Side) (s e : ℕ) (c : Choice) (o : Option ℕ) → s ≡ e → IsKnown t e → IfSome o (IsKnown t) → ((Γ : Hyps) (x : Exp) → AreHyps t l Γ → tree_at t e ≡ exp_encoding x → IsKept t side Γ x c o) →
    IsBoundRow t l (record { side = side; exp = s }) (record { choice = c; proof = o })
bound-row t l side s e c o se ke ko h = record { of = omega (arith, se, ke); known = ko; is = λ Γ x g q. h Γ x g (ap (tree_at t) (sym se) ∙ q) }

-- what holds in any case holds where there is an answer
pub if_ok : {A E P : Type 0} (r : Result A E) → P → IfOk r (λ _. P)
if_ok (Ok x) p = p
if_ok (Err e) p = tt

pub ruleset rows = (memo-more, known_hyps-more, bounds-more)
