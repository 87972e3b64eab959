use Rattle.std.proofs.Common.{true, take, ◌≡◌, ◌+◌, ◌≤◌}
use Rattle.term_table.specs.Table.{Extends}
use Rattle.hereditary_subst.specs.Kept.{IsMemo}
use Rattle.hereditary_subst.specs.Limits.{is_limited, left_of}
use Rattle.prover_ids.specs.Hypotheses.{AreKnownHyps, AreHyps}
use Rattle.prover_class.specs.Hypotheses.{Hyps, raised_hyps}
use Rattle.prover_hyps.proofs.raising.raised_hyps.Given as goal

abbrev pub invariant-loop-i : goal.invariant-loop-i
invariant-loop-i l = record {
  known : AreKnownHyps l.table l.under;
  extends : Extends l.fn.table l.table;
  memo : IsMemo l.table l.memo;
  limited : is_limited l.memo ≡ is_limited l.fn.memo;
  less : left_of l.memo ≤ left_of l.fn.memo;
  left : is_limited l.fn.memo ≡ true → left_of l.memo + l.i ≤ left_of l.fn.memo;
  exact : (Γ : Hyps) → AreHyps l.fn.table (take l.i l.list) Γ → AreHyps l.table l.under (raised_hyps Γ);
}
