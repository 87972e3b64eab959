use Rattle.native_lives.specs.Certificates.{lean_of}
use Rattle.native_translator.proofs.Translated.{AreFirst}
use Rattle.native_translator.proofs.plan.Plan.layout.Given as goal

abbrev pub invariant-loop-i : goal.invariant-loop-i
invariant-loop-i l =
    AreFirst l.self.places (lean_of l.self.lives.forms.items l.self.lives.live.items) l.self.metered l.code l.i l.insns.items l.starts.items l.at
