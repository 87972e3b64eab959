use Rattle.pcc_commands.proofs.AgentLemmas.{told-memory}
use Rattle.pcc_commands.proofs.commands.host.told_of.Goals as goal

pub returns-in_default : goal.returns-in_default
returns-in_default c = told-memory c.args.agent c.args.stop.now c.requires c.in_default.not-Refused
