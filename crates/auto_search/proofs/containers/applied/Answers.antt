use Rattle.std.proofs.Common.{sym, ◌∙◌}
use Rattle.term_table.specs.Table.{tree_at}
use Rattle.auto_search.proofs.Copies.{applicable}
use Rattle.auto_search.proofs.containers.applied.Goals as goal

pub added-requires-clause-plain : goal.added-requires-clause-plain
added-requires-clause-plain c = (
  c.requires.function.1,
  applicable (tree_at c.args.to.now c.args.function)
      (sym c.is_applicable.ensures ∙ c.if-is_applicable.true),
  c.requires.argument.1,
)
