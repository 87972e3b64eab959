use Rattle.std.proofs.Common.{IfSome, ◌∙◌, subst}
use Rattle.term_table.specs.Table.{IsKnown}
use Rattle.hereditary_subst.proofs.Rows.{grows_more}
use Rattle.prover_class.specs.NormalForms.{redex, normalized}
use Rattle.prover_forms.specs.Inside.Rounds.{IsRoundOf, StandsFor}
use Rattle.prover_forms.proofs.Rounds.{next_goes, leads_next, leads_stop, leads_end}
use Rattle.prover_forms.proofs.plain_forms.after_rounds.Goals as goal

pub returns-in-None-clause-exact : goal.returns-in-None-clause-exact
returns-in-None-clause-exact c =
    λ x r h.
    let t = c.loop-round.table in
    let u = c.after_round.new.table in
    let out = c.args.outside in
    let i = c.loop-round.invariant in
    let id = c.loop-round.now in
    let aim = normalized out c.args.rounds x r in
    let done = leads_stop (λ q. StandsFor t q id) out c.args.rounds c.loop-round.round x aim c.loop-round-test.true (i.leads x r h)
    (λ q s. subst (IsRoundOf u q.now (redex out q.now)) c.in-None.is (c.in_ok-after_round.ensures.exact q.now s)) in
    c.in_ok-after_round.ensures.extends.same id i.known ∙ done

pub loop-round-preserved : goal.loop-round-preserved
loop-round-preserved c =
    let t = c.loop-round.table in
    let u = c.after_round.new.table in
    let out = c.args.outside in
    let i = c.loop-round.invariant in
    let id = c.loop-round.now in
    let next = c.in-Some.next in record {
      extends = grows_more c.args.table.now t u i.extends c.in_ok-after_round.ensures.extends;
      known = subst (λ o. IfSome o (IsKnown u)) c.in-Some.is c.in_ok-after_round.ensures.known;
      leads = λ x r h.
          leads_next (λ q. StandsFor t q id) (λ q. StandsFor u q next) out c.args.rounds c.loop-round.round x (normalized out c.args.rounds x r)
          c.loop-round-test.true (i.leads x r h)
          (λ q s. next_goes u x (redex out q.now) q next (subst (IsRoundOf u q.now (redex out q.now)) c.in-Some.is (c.in_ok-after_round.ensures.exact q.now s)));
    }

pub returns-clause-exact : goal.returns-clause-exact
returns-clause-exact c =
    λ x r h.
    let out = c.args.outside in
    let t = c.loop-round.table in
    leads_end (λ q. StandsFor t q c.loop-round.now) out c.args.rounds c.loop-round.round x (normalized out c.args.rounds x r) c.loop-round-test.false
    (c.loop-round.invariant.leads x r h)
