use Rattle.std.proofs.Common.{◌≡◌, ◌++◌, List, ℕ, OnOk, subst}
use Rattle.view_faults.proofs.Backwards.{placed}
use Rattle.view_faults.proofs.formulas.push_place.Goals as goal

pub returns : goal.returns
returns c =
    let line = c.line_start-start in
    subst (λ (l : List ℕ). OnOk c.push_marked_line.result (c.push_marked_line.new.out.items ≡ c.args.out.now.items ++ l))
    (placed c.args.text.now c.args.at line.result c.before_lf.result c.requires
    line.ensures.exact line.ensures.column line.ensures.within c.before_lf.ensures.exact)
    c.push_marked_line.ensures
