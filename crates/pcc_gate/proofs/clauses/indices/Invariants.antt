use Rattle.std.proofs.Common.{◌≡◌, map, take}
use Rattle.pcc_gate.proofs.clauses.indices.Given as goal

abbrev pub invariant-loop-index : goal.invariant-loop-index
invariant-loop-index l = l.indices.items ≡ map (λ p. p.0) (take l.index-index l.invs)
