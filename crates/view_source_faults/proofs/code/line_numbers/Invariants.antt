use Rattle.std.proofs.Common.{◌≡◌, map, take}
use Rattle.view_source_faults.proofs.code.line_numbers.Given as goal

abbrev pub invariant-loop-line : goal.invariant-loop-line
invariant-loop-line l = l.lines.items ≡ map (λ p. p.0) (take l.line-index l.insns)
