use Rattle.agent_script.proofs.Meanings.{reads_script, reads_fault}
use Rattle.agent_script.proofs.theorems.laws.Goals as goal

pub returns-clause-reads : goal.returns-clause-reads
returns-clause-reads c = reads_script

pub returns-clause-means : goal.returns-clause-means
returns-clause-means c = reads_fault
