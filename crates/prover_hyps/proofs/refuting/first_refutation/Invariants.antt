use Rattle.std.proofs.Common.{◌≡◌, drop}
use Rattle.prover_ids.specs.Hypotheses.{AreHyps}
use Rattle.prover_class.specs.Hypotheses.{Hyps}
use Rattle.prover_class.specs.Goals.{refuted}
use Rattle.prover_hyps.proofs.refuting.first_refutation.Given as goal

abbrev pub invariant-loop-i : goal.invariant-loop-i
invariant-loop-i l = (Γ : Hyps) → AreHyps l.table l.hyps Γ → refuted Γ (drop l.i Γ) ≡ refuted Γ Γ
