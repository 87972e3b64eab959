use Rattle.std.proofs.Common.{ℕ, ◌<◌}
use Rattle.native_lives.specs.Certificates.{lean_of}
use Rattle.native_lives.specs.Inside.Checks.{IsRightAt}
use Rattle.native_lives.proofs.certificate.Certificate.is_right_everywhere.Given as goal

abbrev pub invariant-loop-i : goal.invariant-loop-i
invariant-loop-i l = (k : ℕ) → k < l.i → IsRightAt (lean_of l.self.forms.items l.self.live.items) l.code k
