use Rattle.std.proofs.Common.{List, sym, subst}
use Rattle.prover_ids.specs.Hypotheses.{AreHyps}
use Rattle.prover_ids.specs.declared.hypotheses.Hypothesis.{Hypothesis}
use Rattle.view_marks.proofs.hints.bounds_hint.Goals as goal

pub returns-clause-exact : goal.returns-clause-exact
returns-clause-exact c = λ Γ x y g qa qb.
    let h = subst (λ (l : List Hypothesis). AreHyps c.args.table.now l Γ) (sym c.as_slice-hyps.ensures) g in
    c.in_ok-words.ensures.exact Γ x y h qa qb
