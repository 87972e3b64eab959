use Rattle.alpha_turns.proofs.Running.{ended, joined, answer}
use Rattle.alpha_turns.proofs.Turning.{alone, order, others}
use Rattle.alpha_turns.proofs.theorems.laws.Goals as goal

pub returns-clause-alone : goal.returns-clause-alone
returns-clause-alone c = alone

pub returns-clause-order : goal.returns-clause-order
returns-clause-order c = order

pub returns-clause-others : goal.returns-clause-others
returns-clause-others c = others

pub returns-clause-joined : goal.returns-clause-joined
returns-clause-joined c = joined

pub returns-clause-ended : goal.returns-clause-ended
returns-clause-ended c = ended

pub returns-clause-answer : goal.returns-clause-answer
returns-clause-answer c = answer
