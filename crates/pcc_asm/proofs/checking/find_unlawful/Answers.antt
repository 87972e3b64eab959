use Rattle.std.proofs.Common.{arith, sym, ◌∙◌}
use Rattle.pcc_asm.proofs.Walking.{unlawful_here, unlawful_more}
use Rattle.pcc_asm.proofs.checking.find_unlawful.Goals as goal

pub returns-in-Some : goal.returns-in-Some
returns-in-Some c =
    sym (unlawful_here c.args.profile c.args.said.now c.args.code.now c.loop-i.i c.line_of.result
    c.index-code-i.result c.in-Some.bad (omega (arith, c.requires)) c.loop-i-test.true
    c.line_of.ensures c.index-code-i.is (sym c.refusal.ensures ∙ c.in-Some.is)) ∙ c.loop-i.invariant

pub loop-i-preserved : goal.loop-i-preserved
loop-i-preserved c =
    unlawful_more c.args.profile c.args.said.now c.args.code.now c.loop-i.i c.index-code-i.result
    (omega (arith, c.requires)) c.loop-i-test.true c.index-code-i.is
    (sym c.refusal.ensures ∙ c.in_default.is) ∙ c.loop-i.invariant
