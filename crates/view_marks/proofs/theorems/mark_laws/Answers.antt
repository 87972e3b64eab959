use Rattle.lf_encode.specs.Contexts.{machine_names}
use Rattle.formula_tree.specs.Substitution.{subst_form}
use Rattle.view_goals.specs.Goals.{Under}
use Rattle.std.proofs.Common.{[], true}
use Rattle.view_marks.proofs.Wholes.{part-marked, first-marked, marks-length}
use Rattle.view_marks.proofs.theorems.mark_laws.Goals as goal

pub returns-clause-part : goal.returns-clause-part
returns-clause-part c =
    let r = c.round_laws.ensures in part-marked r.found r.absurd r.shape

pub returns-clause-first : goal.returns-clause-first
returns-clause-first c =
    let r = c.round_laws.ensures in first-marked r.found r.absurd r.shape

pub returns-clause-length : goal.returns-clause-length
returns-clause-length c = λ counted p.
    marks-length counted 33 [] (λ F. subst_form F machine_names) (Under p.at true p.known p.goals)
