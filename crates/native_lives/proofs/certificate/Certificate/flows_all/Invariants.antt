use Rattle.std.proofs.Common.{ℕ, ◌<◌}
use Rattle.native_lives.specs.Certificates.{lean_of}
use Rattle.native_lives.specs.Inside.Checks.{Flows}
use Rattle.native_lives.proofs.certificate.Certificate.flows_all.Given as goal

abbrev pub invariant-loop-r : goal.invariant-loop-r
invariant-loop-r l = (k : ℕ) → k < l.r → Flows (lean_of l.self.forms.items l.self.live.items) l.i l.insn l.j k
