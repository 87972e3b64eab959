use Rattle.std.proofs.Common.{◌+◌, sym, subst, arith}
use Rattle.alpha_cfg.specs.CodeBytes.{EncodesFirst}
use Rattle.alpha_cfg.proofs.Readings.{first_more, flaw-first, fault-answers}
use Rattle.alpha_cfg.proofs.code.decode_all.Goals as goal

pub loop-i-preserved : goal.loop-i-preserved
loop-i-preserved c =
    subst (λ l. EncodesFirst c.args.profile c.args.code.now (c.loop-i.i + 1) l) (sym c.in_ok-push.ensures.items)
    (first_more c.args.profile c.args.code.now c.loop-i.insns.items c.in_ok-decode_at.field-0 c.loop-i.i c.loop-i.invariant c.in_ok-decode_at.ensures.encodes)

pub returns-in_err-decode_at-clause-fault : goal.returns-in_err-decode_at-clause-fault
returns-in_err-decode_at-clause-fault c =
    fault-answers c.args.profile c.args.code.now c.in_err-decode_at.field-0.0 c.from_residual.result
    (flaw-first c.args.profile c.args.code.now c.loop-i.i c.loop-i.insns.items c.in_err-decode_at.field-0.0 c.loop-i.invariant
    (omega (arith, c.loop-i-test.true)) c.in_err-decode_at.ensures.flaw)
    c.from_residual.ensures.1
