use Rattle.std.proofs.Common.{Bool, List, subst}
use Rattle.view_goals.specs.declared.rows.Row.{Row}
use Rattle.view_marks.specs.Inside.Marking.{IsPartMarked}
use Rattle.view_marks.proofs.Descending.{part-of}
use Rattle.view_marks.proofs.marking.marks_of.Goals as goal

pub returns-clause-exact : goal.returns-clause-exact
returns-clause-exact c = λ bound p e.
    let a = c.args in
    let t = a.table.now in
    let inner = c.under_quantifiers-inner in
    let new = c.push_part.new.marks.items in
    let given = subst (λ (l : List Row). IsPartMarked a.counted t inner.result l c.new-marks.result.items new) c.as_slice.ensures.value c.in_ok-push_part.ensures.exact in
    let marked = subst (λ (l : List Bool). IsPartMarked a.counted t inner.result a.part.now.rows.items l new) c.new-marks.ensures.items given in
    part-of a.counted t a.part.now inner.result new bound p inner.ensures.exact marked e
