use Rattle.std.proofs.Common.{sym, subst}
use Rattle.proof_container.specs.Encoding.{IsEntryTerm}
use Rattle.auto_search.proofs.containers.added.Goals as goal

pub returns-clause-plain : goal.returns-clause-plain
returns-clause-plain c =
    let id = c.in_ok-id.ensures.id in (id.0, subst (IsEntryTerm 1) (sym id.1) c.requires.plain)
