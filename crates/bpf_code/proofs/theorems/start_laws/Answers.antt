use Rattle.bpf_code.proofs.FilterStarts.{starts, returns-value, outcome, short, safe}
use Rattle.bpf_code.proofs.theorems.start_laws.Goals as goal

pub returns-clause-starts : goal.returns-clause-starts
returns-clause-starts c = starts

pub returns-clause-returns : goal.returns-clause-returns
returns-clause-returns c = returns-value

pub returns-clause-outcome : goal.returns-clause-outcome
returns-clause-outcome c = outcome

pub returns-clause-short : goal.returns-clause-short
returns-clause-short c = short

pub returns-clause-safe : goal.returns-clause-safe
returns-clause-safe c = safe
