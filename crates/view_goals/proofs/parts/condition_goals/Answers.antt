use Rattle.std.proofs.Common.{◌≡◌, ℕ, List, length, map, IfOk, ◌∙◌, ap, subst}
use Rattle.std.specs.declared.vec.Vec.{Vec}
use Rattle.std.specs.declared.alloc.Global.{Global}
use Rattle.term_table.specs.Table.{tree_at}
use Rattle.vcgen.proofs.Parts.{invs-inside}
use Rattle.view_goals.specs.declared.rows.PartRows.{PartRows}
use Rattle.view_goals.specs.Rows.{PartRowsView, part_view}
use Rattle.view_goals.specs.Inside.Parts.{parts_by}
use Rattle.view_goals.proofs.Shown.{shown}
use Rattle.view_goals.proofs.parts.condition_goals.Goals as goal

pub parts_of-requires-clause-inside : goal.parts_of-requires-clause-inside
parts_of-requires-clause-inside c =
    λ k d lt. invs-inside c.args.invs.now (length c.args.cut.now.code) c.args.cut.now.marks c.requires.marks k d lt

pub returns-clause-exact : goal.returns-clause-exact
returns-clause-exact c =
    λ code is e.
    let t = c.args.table.now in
    let cut = c.args.cut.now in
    let indices = map (λ (p : ℕ × ℕ). p.0) c.args.invs.now in
    let tree = tree_at t c.args.condition in
    let counted = ap (λ b. parts_by cut.code cut.marks b indices tree) c.is_some.ensures in
    let same = counted ∙ shown code cut.code cut.marks indices c.args.bound tree is c.requires.marks e in
    subst (λ (z : List PartRowsView). IfOk c.parts_of.result (λ (v : Vec PartRows Global). map (part_view t) v.items ≡ z)) same c.parts_of.ensures.exact
