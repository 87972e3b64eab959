use Rattle.pcc_cli.proofs.HeadlineLemmas.{runs_safely, stays_in_parts, bounded_returns}
use Rattle.pcc_cli.proofs.top_call.accepted_laws.Goals as goal

pub returns-clause-sound : goal.returns-clause-sound
returns-clause-sound c = c.laws.ensures.safe

pub returns-clause-safe : goal.returns-clause-safe
returns-clause-safe c =
    runs_safely c.laws.ensures.safe c.laws-2.ensures.state c.laws-2.ensures.meets
    c.isolation_laws.ensures.changes c.isolation_laws.ensures.depends

pub returns-clause-apart : goal.returns-clause-apart
returns-clause-apart c =
    stays_in_parts c.laws.ensures.safe c.isolation_laws.ensures.changes
    c.isolation_laws.ensures.depends (c.part_laws.ensures.apart 65536 65552)
    c.part_laws.ensures.spans

pub returns-clause-returns : goal.returns-clause-returns
returns-clause-returns c =
    bounded_returns c.laws.ensures.returns c.laws-2.ensures.state c.laws-2.ensures.meets
