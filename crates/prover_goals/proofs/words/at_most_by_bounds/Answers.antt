use Rattle.std.proofs.Common.{◌∙◌, arith}
use Rattle.hereditary_subst.proofs.Limits.{never-spent}
use Rattle.prover_goals.proofs.words.at_most_by_bounds.Goals as goal

pub returns-clause-spends : goal.returns-clause-spends
returns-clause-spends c =
    let w = c.in_ok-words.ensures.spends in
    let b = c.in_ok-bounds.ensures.spends in
    (b.0 ∙ w.0, omega (arith, w.1, b.1), never-spent c.ule_by.new.table c.bounds_of.new.search.memo c.ule_by.result c.ule_by.ensures.memory)
