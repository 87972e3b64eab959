use Rattle.std.proofs.Common.{◌≡◌, ◌≤◌, drop}
use Rattle.term_table.specs.Table.{tree_at, Extends}
use Rattle.hereditary_subst.specs.Limits.{is_limited, left_of}
use Rattle.formula_tree.specs.Formulas.{Exp}
use Rattle.lf_terms.specs.Encoding.{exp_encoding}
use Rattle.prover_ids.specs.Hypotheses.{AreHyps}
use Rattle.prover_class.specs.Hypotheses.{Hyps}
use Rattle.prover_class.specs.Access.{without_access, by_hyps}
use Rattle.prover_goals.specs.Search.{IsAfter}
use Rattle.prover_conditions.specs.Inside.AccessIds.{access_of}
use Rattle.prover_conditions.proofs.access.by_hyps.Given as goal

abbrev pub invariant-loop-i : goal.invariant-loop-i
invariant-loop-i l = record {
  extends : Extends l.fn.table l.table;
  after : IsAfter l.table l.search l.fn.context l.context;
  limited : is_limited l.search.memo ≡ is_limited l.fn.search.memo;
  left : left_of l.search.memo ≤ left_of l.fn.search.memo;
  none : (Γ : Hyps) (a : Exp) → AreHyps l.fn.table l.fn.context.hyps Γ → tree_at l.fn.table l.asked.address ≡ exp_encoding a →
      by_hyps (without_access l.asked.counted) l.fn.context.outside Γ (access_of l.asked.access) a Γ ≡ by_hyps (without_access l.asked.counted) l.fn.context.outside Γ (access_of l.asked.access) a (drop l.i Γ);
}
