use Rattle.std.proofs.Common.{◌≡◌, map, take}
use Rattle.view_entries.specs.Sizes.{tree_size}
use Rattle.view_entries.proofs.tree_sizes.sizes.Given as goal

abbrev pub invariant-loop-index : goal.invariant-loop-index
invariant-loop-index l = l.sizes.items ≡ map tree_size (take l.index l.table.trees)
