use Rattle.auto_cli.proofs.Written.{writes, finds, refuses}
use Rattle.auto_cli.proofs.top_call.pcc_auto.Goals as goal

pub returns-clause-runs : goal.returns-clause-runs
returns-clause-runs g c = c.run.ensures.runs

pub returns-clause-writes : goal.returns-clause-writes
returns-clause-writes g c = writes _ _ _ _ _ _ _ _ c.run.ensures.runs

pub returns-clause-finds : goal.returns-clause-finds
returns-clause-finds g c = finds _ _ _ _ _ _ _ _ c.run.ensures.runs

pub returns-clause-refuses : goal.returns-clause-refuses
returns-clause-refuses g c = refuses _ _ _ _ _ _ _ _ c.run.ensures.runs
