use Rattle.term_table.specs.Table.{Extends}
use Rattle.test_inputs.proofs.term_text.whole_tree.Given as goal

abbrev pub invariant-loop : goal.invariant-loop
invariant-loop l = Extends l.initial.table l.table
