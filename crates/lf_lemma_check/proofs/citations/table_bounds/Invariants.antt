use Rattle.std.proofs.Common.{◌≡◌, map, take}
use Rattle.lf_lemma_check.specs.Inside.Bounds.{cited}
use Rattle.lf_lemma_check.proofs.citations.table_bounds.Given as goal

abbrev pub invariant-loop-index : goal.invariant-loop-index
invariant-loop-index l = l.bounds.items ≡ map cited (take l.index l.table.trees)
