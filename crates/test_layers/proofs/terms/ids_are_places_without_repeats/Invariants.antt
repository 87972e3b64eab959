use Rattle.term_table.specs.Table.{IsKnown}
use Rattle.test_layers.proofs.terms.ids_are_places_without_repeats.Given as goal

abbrev pub invariant-loop-k : goal.invariant-loop-k
invariant-loop-k g l = IsKnown l.table l.last
