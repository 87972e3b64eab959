use Rattle.native_lives.specs.Certificates.{lean_of}
use Rattle.native_lives.proofs.Certified.{right-at}
use Rattle.native_lives.proofs.certificate.Certificate.is_right_at.Goals as goal

pub returns-then-fits : goal.returns-then-fits
returns-then-fits c leads =
    right-at (lean_of c.args.self.now.forms.items c.args.self.now.live.items) c.args.code.now c.args.i (c.fits.ensures c.if-fits.true)
    (c.leads_right.ensures leads)
