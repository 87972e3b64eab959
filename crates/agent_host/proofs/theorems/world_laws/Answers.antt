use Rattle.agent_host.specs.Worlds.{world_of}
use Rattle.alpha_turns.specs.Parts.{turns_in}
use Rattle.agent_host.proofs.Seeing.{some-rights, host-seen, turns-seen, parts-held}
use Rattle.agent_host.proofs.theorems.world_laws.Goals as goal

pub returns-clause-some : goal.returns-clause-some
returns-clause-some c = some-rights

pub returns-clause-seen : goal.returns-clause-seen
returns-clause-seen c = λ host rights hosted. host-seen rights host hosted

pub returns-clause-turns : goal.returns-clause-turns
returns-clause-turns c = turns-seen

pub returns-clause-memory : goal.returns-clause-memory
returns-clause-memory c =
    λ turns old new rights hosted takes.
    parts-held new rights (turns_in turns (world_of rights old))
    (turns-seen turns old new rights (world_of rights old) takes (host-seen rights old hosted))
