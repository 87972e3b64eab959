-- Kept bounds stay right as the table grows.
use Rattle.std.proofs.Common.{◌≡◌, ℕ, Option, Some, None, IfSome, List, sym, ◌∙◌, arith}
use Rattle.term_table.specs.Table.{TableView, IsKnown, tree_at, Extends}
use Rattle.prover_ids.specs.Hypotheses.{AreKnownHyps}
use Rattle.prover_ids.specs.declared.hypotheses.Hypothesis.{Hypothesis}
use Rattle.prover_ids.proofs.HypRows.{hyps-before}
use Rattle.prover_ids.proofs.Standing.{if_known-more}
use Rattle.prover_class.specs.Bounds.{WordBound}
use Rattle.prover_bounds.specs.KeptBounds.{bound_from, IsBoundRow}
use Rattle.prover_bounds.specs.declared.kept_bounds.Row.{Row}
use Rattle.prover_bounds.specs.declared.kept_bounds.Subject.{Subject}

made-more : (t u : TableView) (w : WordBound) (o : Option ℕ) → IfSome o (IsKnown t) → Extends t u → IfSome o (λ p. tree_at t p ≡ w.proof) → IfSome o (λ p. tree_at u p ≡ w.proof)
made-more t u w None k e h = tt
made-more t u w (Some p) k e h = e.same p k ∙ h

-- a row that is one of a bound stays it as the table grows
pub row-lasts : (t u : TableView) (l : List Hypothesis) (s : Subject) (r : Row) → AreKnownHyps t l → Extends t u → IsBoundRow t l s r → IsBoundRow u l s r
row-lasts t u l s r k e h = record {
  of = omega (arith, h.of, e.longer);
  known = if_known-more t u r.proof h.known e;
  is = λ Γ x g q.
      let i = h.is Γ x (hyps-before t u l Γ k e g) (sym (e.same s.exp h.of) ∙ q) in
      record { chosen = i.chosen; made = made-more t u (bound_from s.side Γ x) r.proof h.known e i.made };
}
