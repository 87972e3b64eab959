use Rattle.std.proofs.Common.{◌≡◌, ◌≤◌, ◌+◌, length}
use Rattle.formula_text.specs.Bindings.{nearest_binding}
use Rattle.formula_text.specs.Parsing.{bindings_of}
use Rattle.formula_text.specs.Inside.Views.{frames_view}
use Rattle.formula_text.proofs.Stacks.{binding_from}
use Rattle.formula_text.proofs.parsing.nearest_binding.Given as goal

abbrev pub invariant-loop-i : goal.invariant-loop-i
invariant-loop-i l = record {
  near : l.number + l.i ≤ length l.frames;
  rest : binding_from l.frames l.name l.number l.i ≡ nearest_binding (bindings_of (frames_view l.frames)) l.name;
}

abbrev pub decreases-loop-i : goal.decreases-loop-i
decreases-loop-i l = l.i
