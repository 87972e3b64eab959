use Rattle.native_lives.specs.Certificates.{lean_of}
use Rattle.native_translator.proofs.Choices.{PlacedBelow}
use Rattle.native_translator.proofs.choosing.choose.Given as goal

abbrev pub invariant-loop-i : goal.invariant-loop-i
invariant-loop-i l = PlacedBelow l.places (lean_of l.lives.forms.items l.lives.live.items) l.code l.i
