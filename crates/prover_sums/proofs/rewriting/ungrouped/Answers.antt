use Rattle.prover_sums.proofs.Rewrites.{ungrouped_is}
use Rattle.hereditary_subst.proofs.Rows.{known-more, memo-more}
use Rattle.prover_ids.proofs.Standing.{twice}
use Rattle.hereditary_subst.proofs.Limits.{never-spent}
use Rattle.prover_sums.proofs.rewriting.ungrouped.Goals as goal

pub returns-clause-exact : goal.returns-clause-exact
returns-clause-exact c =
    ungrouped_is c.args.table.now c.oper.new.table c.oper-2.new.table c.rule_term.new.table c.swapped.new.table c.whole.new.table c.args.e c.args.a c.args.b c.args.c c.in_ok-sum.sum c.in_ok-grouped.grouped c.in_ok-equal.equal c.in_ok-proof.proof
    c.whole.result c.requires.e c.requires.a c.requires.b c.requires.c c.in_ok-sum.ensures.extends c.in_ok-grouped.ensures.extends c.in_ok-equal.ensures.extends c.in_ok-proof.ensures.extends c.in_ok-sum.ensures.id c.in_ok-grouped.ensures.id
    c.in_ok-equal.ensures.id c.in_ok-proof.ensures.is c.whole.ensures.exact

pub returns-in_err-sum-clause-memo : goal.returns-in_err-sum-clause-memo
returns-in_err-sum-clause-memo c = memo-more _ _ _ c.requires.memo c.oper.ensures.extends

pub returns-in_err-grouped-clause-extends : goal.returns-in_err-grouped-clause-extends
returns-in_err-grouped-clause-extends c = twice c.in_ok-sum.ensures.extends c.oper-2.ensures.extends

pub returns-in_err-grouped-clause-memo : goal.returns-in_err-grouped-clause-memo
returns-in_err-grouped-clause-memo c = memo-more _ _ _ c.requires.memo (twice c.in_ok-sum.ensures.extends c.oper-2.ensures.extends)

pub returns-in_err-equal-clause-extends : goal.returns-in_err-equal-clause-extends
returns-in_err-equal-clause-extends c = twice (twice c.in_ok-sum.ensures.extends c.in_ok-grouped.ensures.extends) c.rule_term.ensures.extends

pub returns-in_err-equal-clause-memo : goal.returns-in_err-equal-clause-memo
returns-in_err-equal-clause-memo c = memo-more _ _ _ c.requires.memo (twice (twice c.in_ok-sum.ensures.extends c.in_ok-grouped.ensures.extends) c.rule_term.ensures.extends)

pub returns-in_err-proof-clause-extends : goal.returns-in_err-proof-clause-extends
returns-in_err-proof-clause-extends c = twice (twice (twice c.in_ok-sum.ensures.extends c.in_ok-grouped.ensures.extends) c.in_ok-equal.ensures.extends) c.swapped.ensures.extends

pub oper-requires-2-clause-a : goal.oper-requires-2-clause-a
oper-requires-2-clause-a c = c.in_ok-sum.ensures.id.known

pub oper-requires-2-clause-b : goal.oper-requires-2-clause-b
oper-requires-2-clause-b c = known-more _ _ _ c.requires.c c.in_ok-sum.ensures.extends

pub rule_term-requires : goal.rule_term-requires
rule_term-requires c = (known-more _ _ _ c.requires.a (twice c.in_ok-sum.ensures.extends c.in_ok-grouped.ensures.extends), (known-more _ _ _ c.requires.b (twice c.in_ok-sum.ensures.extends c.in_ok-grouped.ensures.extends), (known-more _ _ _ c.requires.c (twice c.in_ok-sum.ensures.extends c.in_ok-grouped.ensures.extends), tt)))

pub swapped-requires-clause-a : goal.swapped-requires-clause-a
swapped-requires-clause-a c = known-more _ _ _ c.in_ok-grouped.ensures.id.known c.in_ok-equal.ensures.extends

pub swapped-requires-clause-b : goal.swapped-requires-clause-b
swapped-requires-clause-b c = known-more _ _ _ c.requires.e (twice (twice c.in_ok-sum.ensures.extends c.in_ok-grouped.ensures.extends) c.in_ok-equal.ensures.extends)

pub swapped-requires-clause-memo : goal.swapped-requires-clause-memo
swapped-requires-clause-memo c = memo-more _ _ _ c.requires.memo (twice (twice c.in_ok-sum.ensures.extends c.in_ok-grouped.ensures.extends) c.in_ok-equal.ensures.extends)

pub whole-requires-clause-from : goal.whole-requires-clause-from
whole-requires-clause-from c = known-more _ _ _ c.requires.e (twice (twice (twice c.in_ok-sum.ensures.extends c.in_ok-grouped.ensures.extends) c.in_ok-equal.ensures.extends) c.in_ok-proof.ensures.extends)

pub whole-requires-clause-to : goal.whole-requires-clause-to
whole-requires-clause-to c = known-more _ _ _ c.in_ok-grouped.ensures.id.known (twice c.in_ok-equal.ensures.extends c.in_ok-proof.ensures.extends)

pub returns-clause-extends : goal.returns-clause-extends
returns-clause-extends c = twice (twice (twice (twice c.in_ok-sum.ensures.extends c.in_ok-grouped.ensures.extends) c.in_ok-equal.ensures.extends) c.in_ok-proof.ensures.extends) c.whole.ensures.extends

pub returns-clause-memo : goal.returns-clause-memo
returns-clause-memo c = memo-more _ _ _ c.in_ok-proof.ensures.memo c.whole.ensures.extends

pub returns-clause-spends : goal.returns-clause-spends
returns-clause-spends c =
    let s = c.in_ok-proof.ensures.spends in
    (s.0, s.1, never-spent c.whole.new.table c.swapped.new.memo c.whole.result c.whole.ensures.memory)
