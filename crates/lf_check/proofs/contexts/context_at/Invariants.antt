use Rattle.std.proofs.Common.{◌≡◌, take}
use Rattle.term_table.specs.Table.{IsKnown, tree_at, ctx_of, Extends}
use Rattle.lf_check.specs.Lists.{types_of}
use Rattle.lf_check.proofs.contexts.context_at.Given as goal

abbrev pub invariant-loop-id : goal.invariant-loop-id
invariant-loop-id l = record {
  known : IsKnown l.table l.c;
  extends : Extends l.fn.table l.table;
  types : types_of (tree_at l.table l.c) ≡ ctx_of l.fn.table (take l.id-index l.ctx);
}
