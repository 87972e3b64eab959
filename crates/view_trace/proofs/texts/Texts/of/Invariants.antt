use Rattle.std.proofs.Common.{◌≡◌, ℕ, take, map}
use Rattle.std.specs.Global.{Global}
use Rattle.std.specs.declared.vec.Vec.{Vec}
use Rattle.view_trace.specs.Texts.{code_texts}
use Rattle.view_trace.proofs.texts.Texts.of.Given as goal

abbrev pub invariant-loop-i : goal.invariant-loop-i
invariant-loop-i l = map (λ (t : Vec ℕ Global). t.items) l.texts.items ≡ take l.i (code_texts l.code)
