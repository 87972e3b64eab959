use Rattle.std.proofs.Common.{◌≤◌, ◌+◌, Some, None, drop, length, sym, ◌∙◌, ap, subst, arith}
use Rattle.prover_ids.specs.Hypotheses.{AreKnownHyps, AreHyps}
use Rattle.prover_class.specs.Goals.{first_of, refuted}
use Rattle.prover_hyps.specs.Inside.Refutations.{IsRefutation}
use Rattle.prover_hyps.proofs.Raised.{known-at}
use Rattle.prover_hyps.proofs.Refuted.{refuted-at, refuted-here, refuted-end}
use Rattle.prover_hyps.proofs.refuting.first_refutation.Goals as goal

pub refute_by-requires-clause-form : goal.refute_by-requires-clause-form
refute_by-requires-clause-form c =
    (known-at c.args.table.now c.as_slice-list.result.now c.loop-i.i c.index-list-i.result (subst (AreKnownHyps c.args.table.now) (sym c.as_slice-list.ensures) c.requires) c.loop-i-test.true).0

pub refute_by-requires-clause-denial : goal.refute_by-requires-clause-denial
refute_by-requires-clause-denial c =
    (known-at c.args.table.now c.as_slice-list.result.now c.loop-i.i c.index-list-i-in-loop-i.result (subst (AreKnownHyps c.args.table.now) (sym c.as_slice-list.ensures) c.requires) c.loop-i-test.true).1

pub returns-in-Some-clause-exact : goal.returns-in-Some-clause-exact
returns-in-Some-clause-exact c = λ Γ h.
    let t = c.args.table.now in
    let l = c.as_slice-list.result.now in
    let at = refuted-at t l Γ c.loop-i.i c.index-list-i.result c.index-list-i-in-loop-i.result (Some c.in-Some.first) (subst (λ z. AreHyps t z Γ) (sym c.as_slice-list.ensures) h) c.loop-i-test.true (λ A q. c.in-Some.ensures.exact Γ A h q) in
    subst (λ z. IsRefutation t z c.in-Some.first) (sym at.2 ∙ c.loop-i.invariant Γ h) (refuted-here t at.0 (refuted Γ (drop (c.loop-i.i + 1) Γ)) c.in-Some.first at.1)

pub loop-i-preserved : goal.loop-i-preserved
loop-i-preserved c = λ Γ h.
    let t = c.args.table.now in
    let l = c.as_slice-list.result.now in
    let at = refuted-at t l Γ c.loop-i.i c.index-list-i.result c.index-list-i-in-loop-i.result None (subst (λ z. AreHyps t z Γ) (sym c.as_slice-list.ensures) h) c.loop-i-test.true (λ A q. c.in_default.ensures.exact Γ A h q) in
    sym (at.2 ∙ ap (λ z. first_of z (refuted Γ (drop (c.loop-i.i + 1) Γ))) at.1) ∙ c.loop-i.invariant Γ h

pub returns-clause-exact : goal.returns-clause-exact
returns-clause-exact c = λ Γ h.
    let n : length c.args.hyps.now ≤ c.loop-i.i = omega (arith, c.loop-i-test.false, ap length c.as_slice-list.ensures) in
    sym (c.loop-i.invariant Γ h) ∙ refuted-end c.args.table.now c.args.hyps.now Γ c.loop-i.i h n
