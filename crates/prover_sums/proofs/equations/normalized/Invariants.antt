use Rattle.std.proofs.Common.{◌≡◌, ◌≤◌, ◌-◌}
use Rattle.term_table.specs.Table.{tree_at, Extends}
use Rattle.hereditary_subst.specs.Kept.{IsMemo}
use Rattle.hereditary_subst.specs.Limits.{is_limited, left_of}
use Rattle.formula_tree.specs.Formulas.{Exp}
use Rattle.lf_terms.specs.Encoding.{exp_encoding}
use Rattle.lf_terms.specs.ProofTerms.{up}
use Rattle.prover_class.specs.NormalForms.{normalized}
use Rattle.prover_forms.specs.Inside.Rounds.{LeadsTo}
use Rattle.prover_sums.specs.NormalForms.{pair_of, RewrittenExp, IsKnownRewritten, IsRewritten}
use Rattle.prover_sums.proofs.equations.normalized.Given as goal

abbrev pub invariant-loop-round : goal.invariant-loop-round
invariant-loop-round l = record {
  extends : Extends l.fn.table l.table;
  memo : IsMemo l.table l.memo;
  limited : is_limited l.memo ≡ is_limited l.fn.memo;
  left : left_of l.memo ≤ left_of l.fn.memo;
  known : IsKnownRewritten l.table (pair_of l.now l.proof);
  leads : (x : Exp) (r : RewrittenExp) → tree_at l.fn.table l.above ≡ exp_encoding (up x) → IsRewritten l.fn.table l.fn.start r
      → LeadsTo (IsRewritten l.table (pair_of l.now l.proof)) l.outside (l.rounds - l.round) x (normalized l.outside l.rounds x r);
}
