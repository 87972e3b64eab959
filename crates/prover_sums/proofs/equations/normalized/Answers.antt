use Rattle.std.proofs.Common.{IfSome, ◌∙◌, subst, arith}
use Rattle.hereditary_subst.proofs.Rows.{grows_more}
use Rattle.prover_class.specs.NormalForms.{redex, normalized}
use Rattle.prover_forms.proofs.Rounds.{leads_next, leads_stop, leads_end}
use Rattle.prover_sums.specs.Inside.Rounds.{IsRound}
use Rattle.prover_sums.specs.Lasting.{rewritten-more}
use Rattle.prover_sums.specs.NormalForms.{pair_of, IsKnownRewritten, IsRewritten}
use Rattle.prover_sums.proofs.Rounds.{next_goes}
use Rattle.prover_sums.proofs.equations.normalized.Goals as goal

pub returns-in-None-clause-exact : goal.returns-in-None-clause-exact
returns-in-None-clause-exact c =
    λ x r q h.
    let t = c.loop-round.table in
    let u = c.next.new.table in
    let out = c.args.outside in
    let i = c.loop-round.invariant in
    let here = pair_of c.loop-round.now c.loop-round.proof in
    let aim = normalized out c.args.rounds x r in
    let above = i.extends.same c.args.above c.requires.above ∙ q in
    let done = leads_stop (IsRewritten t here) out c.args.rounds c.loop-round.round x aim c.loop-round-test.true (i.leads x r q h)
    (λ p s. subst (IsRound u x (redex out p.now) p) c.in-None.is (c.in_ok-next.ensures.exact x p above s)) in
    rewritten-more t u here aim i.known c.in_ok-next.ensures.extends done

pub loop-round-preserved : goal.loop-round-preserved
loop-round-preserved c =
    let t = c.loop-round.table in
    let u = c.next.new.table in
    let out = c.args.outside in
    let i = c.loop-round.invariant in
    let here = pair_of c.loop-round.now c.loop-round.proof in
    let next = c.in-Some.next in record {
      extends = grows_more c.args.table.now t u i.extends c.in_ok-next.ensures.extends;
      memo = c.in_ok-next.ensures.memo;
      limited = c.in_ok-next.ensures.spends.0 ∙ i.limited;
      left = omega (arith, c.in_ok-next.ensures.spends.1, i.left);
      known = subst (λ o. IfSome o (IsKnownRewritten u)) c.in-Some.is c.in_ok-next.ensures.known;
      leads = λ x r q h.
          let above = i.extends.same c.args.above c.requires.above ∙ q in
          let aim = normalized out c.args.rounds x r in
          leads_next (IsRewritten t here) (IsRewritten u next) out c.args.rounds c.loop-round.round x aim c.loop-round-test.true (i.leads x r q h)
          (λ p s. next_goes u x (redex out p.now) p next (subst (IsRound u x (redex out p.now) p) c.in-Some.is (c.in_ok-next.ensures.exact x p above s)));
    }

pub returns-clause-exact : goal.returns-clause-exact
returns-clause-exact c =
    λ x r q h.
    let out = c.args.outside in
    let here = pair_of c.loop-round.now c.loop-round.proof in
    leads_end (IsRewritten c.loop-round.table here) out c.args.rounds c.loop-round.round x (normalized out c.args.rounds x r) c.loop-round-test.false
    (c.loop-round.invariant.leads x r q h)
