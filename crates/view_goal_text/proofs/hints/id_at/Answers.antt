use Rattle.std.proofs.Common.{sym, subst}
use Rattle.term_table.specs.Table.{IsKnown}
use Rattle.proof_container.proofs.Ordering.{known-get}
use Rattle.view_goal_text.proofs.hints.id_at.Goals as goal

pub returns-clause-known : goal.returns-clause-known
returns-clause-known c =
    let t = c.args.table.now in
    let id = c.index-ids-index.result in
    subst (IsKnown t) (sym c.index-ids-index.is)
    (known-get t c.args.ids.now c.args.index id c.requires.ids c.requires.within)
