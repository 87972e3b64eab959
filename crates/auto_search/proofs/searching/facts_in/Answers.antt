use Rattle.std.proofs.Common.{arith}
use Rattle.auto_search.proofs.searching.facts_in.Goals as goal

pub of-requires-clause-whole : goal.of-requires-clause-whole
of-requires-clause-whole c = omega (arith, c.requires.contents.whole)

pub of-requires-clause-some : goal.of-requires-clause-some
of-requires-clause-some c = c.requires.contents.some

pub of-requires-clause-short : goal.of-requires-clause-short
of-requires-clause-short c = c.requires.contents.short
