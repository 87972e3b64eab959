use Rattle.std.proofs.Common.{refl}
use Rattle.lf_encode.specs.Contexts.{machine_names}
use Rattle.vcgen.specs.Assignments.{unchanged}
use Rattle.vcgen.proofs.theorems.worked_conditions.Goals as goal

pub returns-clause-filter_ret : goal.returns-clause-filter_ret
unfolding machine_names unchanged
returns-clause-filter_ret c = refl

pub returns-clause-tag_ret : goal.returns-clause-tag_ret
unfolding machine_names unchanged
returns-clause-tag_ret c = refl

pub returns-clause-table_ret : goal.returns-clause-table_ret
unfolding machine_names unchanged
returns-clause-table_ret c = refl

pub returns-clause-counting : goal.returns-clause-counting
unfolding machine_names unchanged
returns-clause-counting c = refl

pub returns-clause-guarded : goal.returns-clause-guarded
unfolding machine_names unchanged
returns-clause-guarded c = refl

pub returns-clause-twice : goal.returns-clause-twice
unfolding machine_names unchanged
returns-clause-twice c = refl

pub returns-clause-computing : goal.returns-clause-computing
unfolding machine_names unchanged
returns-clause-computing c = refl

pub returns-clause-bounded_ret : goal.returns-clause-bounded_ret
unfolding machine_names unchanged
returns-clause-bounded_ret c = refl

pub returns-clause-bounded_store : goal.returns-clause-bounded_store
unfolding machine_names unchanged
returns-clause-bounded_store c = refl

pub returns-clause-bounded_branch : goal.returns-clause-bounded_branch
unfolding machine_names unchanged
returns-clause-bounded_branch c = refl

pub returns-clause-bounded_loop : goal.returns-clause-bounded_loop
unfolding machine_names unchanged
returns-clause-bounded_loop c = refl

pub returns-clause-bounded_entry : goal.returns-clause-bounded_entry
unfolding machine_names unchanged
returns-clause-bounded_entry c = refl

pub returns-clause-bounded_zero : goal.returns-clause-bounded_zero
unfolding machine_names unchanged
returns-clause-bounded_zero c = refl

pub returns-clause-bounded_access : goal.returns-clause-bounded_access
unfolding machine_names unchanged
returns-clause-bounded_access c = refl
