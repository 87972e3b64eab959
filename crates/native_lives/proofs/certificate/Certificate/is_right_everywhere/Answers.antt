use Rattle.std.proofs.Common.{arith}
use Rattle.native_lives.specs.Certificates.{lean_of}
use Rattle.native_lives.proofs.Certified.{right-next, right-all}
use Rattle.native_lives.proofs.certificate.Certificate.is_right_everywhere.Goals as goal

pub loop-i-preserved : goal.loop-i-preserved
loop-i-preserved c =
    right-next (lean_of c.args.self.now.forms.items c.args.self.now.live.items) c.args.code.now c.loop-i.i c.loop-i.invariant
    (c.is_right_at.ensures c.if-not-is_right_at.false)

pub returns : goal.returns
returns c is =
    right-all (lean_of c.args.self.now.forms.items c.args.self.now.live.items) c.args.code.now c.loop-i.i
    (omega (arith, c.loop-i-test.false, c.count-i-end.ensures.value)) c.loop-i.invariant
