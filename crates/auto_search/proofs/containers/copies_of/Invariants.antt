use Rattle.std.proofs.Common.{◌≡◌, length}
use Rattle.term_table.specs.Table.{Extends}
use Rattle.auto_search.specs.Inside.Terms.{ArePlain}
use Rattle.auto_search.proofs.containers.copies_of.Given as goal

abbrev pub invariant-loop-i : goal.invariant-loop-i
invariant-loop-i l = record {
  plain : ArePlain l.table l.copies.items;
  size : length l.copies.items ≡ l.i;
  extends : Extends l.fn.table l.table;
}
