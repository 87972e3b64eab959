use Rattle.bpf_condition.proofs.Whole.{program-annotated, program-flags, program-cut, program-unfolded, program-condition, program-count, program-known, program-easy, program-proved, heights-low}
use Rattle.bpf_condition.proofs.theorems.laws.Goals as goal

pub returns-clause-annotated : goal.returns-clause-annotated
returns-clause-annotated c = program-annotated

pub returns-clause-flags : goal.returns-clause-flags
returns-clause-flags c = program-flags

pub returns-clause-cut : goal.returns-clause-cut
returns-clause-cut c = program-cut

pub returns-clause-unfolded : goal.returns-clause-unfolded
returns-clause-unfolded c = program-unfolded

pub returns-clause-parts : goal.returns-clause-parts
returns-clause-parts c = program-condition

pub returns-clause-count : goal.returns-clause-count
returns-clause-count c = program-count

pub returns-clause-known : goal.returns-clause-known
returns-clause-known c = program-known

pub returns-clause-easy : goal.returns-clause-easy
returns-clause-easy c = program-easy

pub returns-clause-proved : goal.returns-clause-proved
returns-clause-proved c = program-proved

pub returns-clause-low : goal.returns-clause-low
returns-clause-low c = heights-low
