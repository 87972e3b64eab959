use Rattle.alpha_turns.proofs.Parting.{turn_as_alone, turns_as_alone, each_alone, spans_lie}
use Rattle.alpha_turns.proofs.theorems.part_laws.Goals as goal

pub returns-clause-turn : goal.returns-clause-turn
returns-clause-turn c = λ part turn world alone apart held. turn_as_alone part apart turn world alone held

pub returns-clause-turns : goal.returns-clause-turns
returns-clause-turns c = λ part turns world alone apart held. turns_as_alone part apart turns world alone held

pub returns-clause-each : goal.returns-clause-each
returns-clause-each c = λ part turns world i apart lie. each_alone part apart turns world i lie

pub returns-clause-spans : goal.returns-clause-spans
returns-clause-spans c = spans_lie
