use Rattle.term_table.specs.Table.{Extends}
use Rattle.auto_candidates.proofs.templates.alignments.Given as goal

abbrev pub invariant-loop-i : goal.invariant-loop-i
invariant-loop-i l = record { extends : Extends l.fn.table l.table }
