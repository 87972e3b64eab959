use Rattle.std.proofs.Common.{◌≡◌}
use Rattle.term_table.specs.Table.{AllKnown, tree_at, Extends}
use Rattle.formula_tree.specs.Formulas.{Exp}
use Rattle.lf_terms.specs.Encoding.{exp_encoding}
use Rattle.prover_ids.specs.Hypotheses.{AreHyps}
use Rattle.prover_class.specs.Hypotheses.{Hyps}
use Rattle.prover_goals.specs.Search.{IsSearch}
use Rattle.view_marks.specs.Inside.Nearness.{access_at, AreReached}
use Rattle.view_marks.proofs.Gathering.{AreFound}
use Rattle.view_marks.proofs.nearness.near.Given as goal

abbrev pub invariant-loop-i : goal.invariant-loop-i
invariant-loop-i l = record {
  extends : Extends l.fn.table l.table;
  search : IsSearch l.table l.search;
  kept : AreReached l.table l.kept;
  found_known : AllKnown l.table l.found.items;
  exact : (Γ : Hyps) (a : Exp) → AreHyps l.fn.table l.hyps Γ
      → tree_at l.fn.table l.asked.address ≡ exp_encoding a
      → AreFound l.table l.found.items (access_at l.asked.store) a Γ l.i;
}
