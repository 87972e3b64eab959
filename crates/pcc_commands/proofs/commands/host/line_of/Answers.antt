use Rattle.pcc_commands.proofs.AgentLemmas.{told-line}
use Rattle.pcc_commands.proofs.commands.host.line_of.Goals as goal

pub returns-in_default : goal.returns-in_default
returns-in_default c = told-line c.args.agent c.args.line c.requires c.in_default.not-Container
