use Rattle.std.proofs.Common.{arith}
use Rattle.term_table.specs.Table.{tree_at}
use Rattle.lf_check.specs.Inside.Introductions.{IsRaisable, IsRuleApplied}
use Rattle.lf_check.proofs.Quantifiers.{introduction}
use Rattle.lf_check.proofs.introductions.introduction_on.Goals as goal

pub returns-clause-introduces : goal.returns-clause-introduces
returns-clause-introduces g c =
    let t = c.rule_on.new.table in
    let sig = g.S.Signature.declares c.args.sig.now c.args.table.now in
    let h : IsRuleApplied sig t c.args.f c.in-Some.rule c.in-Some.predicate c.in-Some.body = rw c.in-Some.is at c.in_ok-rule.ensures.rule in
    let ready : IsRaisable (tree_at t c.args.m) (tree_at t c.in-Some.predicate) = c.is_ready.ensures c.if-not-is_ready.false in
    introduction sig t c.fitted_on.new.table c.args.f c.args.m c.in-Some.predicate c.in-Some.body c.in-Some.rule c.in_ok-fitted_on.field-0 h ready
    (omega (arith, c.requires.f, c.in_ok-rule.ensures.extends.longer)) (omega (arith, c.requires.m, c.in_ok-rule.ensures.extends.longer)) c.in_ok-fitted_on.ensures.extends c.in_ok-fitted_on.ensures.fits
