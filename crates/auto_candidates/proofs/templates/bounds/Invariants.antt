use Rattle.term_table.specs.Table.{Extends}
use Rattle.auto_candidates.proofs.templates.bounds.Given as goal

abbrev pub invariant-loop-i : goal.invariant-loop-i
invariant-loop-i l = record { extends : Extends l.fn.table l.table }

abbrev pub invariant-loop-k : goal.invariant-loop-k
invariant-loop-k l = record { extends : Extends l.fn.table l.table }
