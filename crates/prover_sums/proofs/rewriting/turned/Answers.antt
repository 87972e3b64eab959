use Rattle.prover_sums.proofs.Rewrites.{known_rewrite-more, turned_is}
use Rattle.hereditary_subst.proofs.Rows.{known-more, memo-more}
use Rattle.prover_ids.proofs.Standing.{twice}
use Rattle.prover_sums.proofs.rewriting.turned.Goals as goal

pub returns-clause-exact : goal.returns-clause-exact
returns-clause-exact c =
    turned_is c.args.table.now c.ungrouped.new.table c.raised.new.table c.oper.new.table c.commuted.new.table c.under_left.new.table c.regrouped.new.table c.args.e c.args.a c.args.b c.args.c c.in_ok-above.above c.in_ok-sum.sum c.in_ok-first.first
    c.in_ok-step.step c.in_ok-second.second c.in_ok-third.third c.requires.a c.requires.b c.requires.c c.in_ok-first.ensures.extends c.in_ok-above.ensures.extends c.in_ok-sum.ensures.extends c.in_ok-step.ensures.extends c.in_ok-second.ensures.extends
    c.in_ok-third.ensures.extends c.in_ok-first.ensures.known c.in_ok-second.ensures.known c.in_ok-first.ensures.exact c.in_ok-above.ensures.id c.in_ok-sum.ensures.id c.in_ok-step.ensures.exact c.in_ok-second.ensures.exact c.in_ok-third.ensures.exact

pub returns-in_err-above-clause-extends : goal.returns-in_err-above-clause-extends
returns-in_err-above-clause-extends c = twice c.in_ok-first.ensures.extends c.raised.ensures.extends

pub returns-in_err-sum-clause-extends : goal.returns-in_err-sum-clause-extends
returns-in_err-sum-clause-extends c = twice (twice c.in_ok-first.ensures.extends c.in_ok-above.ensures.extends) c.oper.ensures.extends

pub returns-in_err-sum-clause-memo : goal.returns-in_err-sum-clause-memo
returns-in_err-sum-clause-memo c = memo-more _ _ _ c.in_ok-above.ensures.memo c.oper.ensures.extends

pub returns-in_err-step-clause-extends : goal.returns-in_err-step-clause-extends
returns-in_err-step-clause-extends c = twice (twice (twice c.in_ok-first.ensures.extends c.in_ok-above.ensures.extends) c.in_ok-sum.ensures.extends) c.commuted.ensures.extends

pub returns-in_err-step-clause-memo : goal.returns-in_err-step-clause-memo
returns-in_err-step-clause-memo c = memo-more _ _ _ c.in_ok-above.ensures.memo (twice c.in_ok-sum.ensures.extends c.commuted.ensures.extends)

pub returns-in_err-second-clause-extends : goal.returns-in_err-second-clause-extends
returns-in_err-second-clause-extends c = twice (twice (twice (twice c.in_ok-first.ensures.extends c.in_ok-above.ensures.extends) c.in_ok-sum.ensures.extends) c.in_ok-step.ensures.extends) c.under_left.ensures.extends

pub returns-in_err-second-clause-memo : goal.returns-in_err-second-clause-memo
returns-in_err-second-clause-memo c = memo-more _ _ _ c.in_ok-above.ensures.memo (twice (twice c.in_ok-sum.ensures.extends c.in_ok-step.ensures.extends) c.under_left.ensures.extends)

pub returns-in_err-third-clause-extends : goal.returns-in_err-third-clause-extends
returns-in_err-third-clause-extends c = twice (twice (twice (twice (twice c.in_ok-first.ensures.extends c.in_ok-above.ensures.extends) c.in_ok-sum.ensures.extends) c.in_ok-step.ensures.extends) c.in_ok-second.ensures.extends) c.regrouped.ensures.extends

pub returns-in_err-third-clause-memo : goal.returns-in_err-third-clause-memo
returns-in_err-third-clause-memo c = memo-more _ _ _ c.in_ok-above.ensures.memo (twice (twice (twice c.in_ok-sum.ensures.extends c.in_ok-step.ensures.extends) c.in_ok-second.ensures.extends) c.regrouped.ensures.extends)

pub oper-requires-clause-a : goal.oper-requires-clause-a
oper-requires-clause-a c = known-more _ _ _ c.requires.a (twice c.in_ok-first.ensures.extends c.in_ok-above.ensures.extends)

pub oper-requires-clause-b : goal.oper-requires-clause-b
oper-requires-clause-b c = known-more _ _ _ c.requires.b (twice c.in_ok-first.ensures.extends c.in_ok-above.ensures.extends)

pub commuted-requires-clause-e : goal.commuted-requires-clause-e
commuted-requires-clause-e c = c.in_ok-sum.ensures.id.known

pub commuted-requires-clause-a : goal.commuted-requires-clause-a
commuted-requires-clause-a c = known-more _ _ _ c.requires.a (twice (twice c.in_ok-first.ensures.extends c.in_ok-above.ensures.extends) c.in_ok-sum.ensures.extends)

pub commuted-requires-clause-b : goal.commuted-requires-clause-b
commuted-requires-clause-b c = known-more _ _ _ c.requires.b (twice (twice c.in_ok-first.ensures.extends c.in_ok-above.ensures.extends) c.in_ok-sum.ensures.extends)

pub under_left-requires-clause-right : goal.under_left-requires-clause-right
under_left-requires-clause-right c = known-more _ _ _ c.requires.c (twice (twice (twice c.in_ok-first.ensures.extends c.in_ok-above.ensures.extends) c.in_ok-sum.ensures.extends) c.in_ok-step.ensures.extends)

pub under_left-requires-clause-above : goal.under_left-requires-clause-above
under_left-requires-clause-above c = known-more _ _ _ c.in_ok-above.ensures.id.known (twice c.in_ok-sum.ensures.extends c.in_ok-step.ensures.extends)

pub regrouped-requires-clause-e : goal.regrouped-requires-clause-e
regrouped-requires-clause-e c = c.in_ok-second.ensures.known.after

pub regrouped-requires-clause-a : goal.regrouped-requires-clause-a
regrouped-requires-clause-a c = known-more _ _ _ c.requires.b (twice (twice (twice (twice c.in_ok-first.ensures.extends c.in_ok-above.ensures.extends) c.in_ok-sum.ensures.extends) c.in_ok-step.ensures.extends) c.in_ok-second.ensures.extends)

pub regrouped-requires-clause-b : goal.regrouped-requires-clause-b
regrouped-requires-clause-b c = known-more _ _ _ c.requires.a (twice (twice (twice (twice c.in_ok-first.ensures.extends c.in_ok-above.ensures.extends) c.in_ok-sum.ensures.extends) c.in_ok-step.ensures.extends) c.in_ok-second.ensures.extends)

pub regrouped-requires-clause-c : goal.regrouped-requires-clause-c
regrouped-requires-clause-c c = known-more _ _ _ c.requires.c (twice (twice (twice (twice c.in_ok-first.ensures.extends c.in_ok-above.ensures.extends) c.in_ok-sum.ensures.extends) c.in_ok-step.ensures.extends) c.in_ok-second.ensures.extends)

pub returns-clause-known : goal.returns-clause-known
returns-clause-known c = (known_rewrite-more c.in_ok-first.ensures.known (twice (twice (twice (twice c.in_ok-above.ensures.extends c.in_ok-sum.ensures.extends) c.in_ok-step.ensures.extends) c.in_ok-second.ensures.extends) c.in_ok-third.ensures.extends), known_rewrite-more c.in_ok-second.ensures.known c.in_ok-third.ensures.extends, c.in_ok-third.ensures.known)

pub returns-clause-extends : goal.returns-clause-extends
returns-clause-extends c = twice (twice (twice (twice (twice c.in_ok-first.ensures.extends c.in_ok-above.ensures.extends) c.in_ok-sum.ensures.extends) c.in_ok-step.ensures.extends) c.in_ok-second.ensures.extends) c.in_ok-third.ensures.extends

pub returns-clause-memo : goal.returns-clause-memo
returns-clause-memo c = memo-more _ _ _ c.in_ok-above.ensures.memo (twice (twice (twice c.in_ok-sum.ensures.extends c.in_ok-step.ensures.extends) c.in_ok-second.ensures.extends) c.in_ok-third.ensures.extends)
