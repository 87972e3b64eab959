use Rattle.std.proofs.Common.{refl}
use Rattle.prover_goals.proofs.AnswerRows.{context_made}
use Rattle.prover_goals.proofs.search.Context.new.Goals as goal

pub returns-clause-context : goal.returns-clause-context
returns-clause-context c =
    let t = c.args.table.now in
    let u = c.absurdity.new.table in
    let h = c.args.hyps in
    context_made t u _ h c.requires c.in_ok-absurd.ensures.extends refl (c.new.ensures u h) c.in_ok-absurd.ensures.known c.in_ok-absurd.ensures.exact (c.new-2.ensures h u)
