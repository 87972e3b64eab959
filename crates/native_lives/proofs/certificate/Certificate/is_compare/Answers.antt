use Rattle.std.proofs.Common.{sym, ◌∙◌}
use Rattle.native_lives.proofs.Certified.{compare-of}
use Rattle.native_lives.proofs.certificate.Certificate.is_compare.Goals as goal

pub returns-then-is_same : goal.returns-then-is_same
returns-then-is_same c dead =
    compare-of c.args.self.now.forms.items c.args.self.now.live.items c.args.code.now c.args.i c.in-Some.pair.to c.number.result c.in-Some.pair.jump
    c.in-Joined.jump c.is_live.result c.in-Some.ensures (sym c.form.ensures ∙ c.in-Joined.is)
    (c.is_same.ensures c.if-is_same.true) c.is_live.ensures c.number.ensures.value dead
