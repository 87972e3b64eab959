use Rattle.std.proofs.Common.{◌≡◌, suc, ◌+◌, List, ◌∷◌, drop, cond, Some, sym, ◌∙◌, ap, subst, arith}
use Rattle.std.proofs.lemmas.List.{drop_more}
use Rattle.view_goals.specs.declared.rows.PartRows.{PartRows}
use Rattle.view_goal_text.specs.Styles.{style_view}
use Rattle.view_goal_text.specs.Inside.Printed.{ArePartsPrinted}
use Rattle.view_goal_text.proofs.Growing.{parts-more, parts-behind}
use Rattle.view_goal_text.proofs.PartLists.{parts-some}
use Rattle.view_goal_text.proofs.parts.+push_parts.Goals as goal

pub returns-clause-exact : goal.returns-clause-exact
returns-clause-exact t c =
    let table = c.args.table.now in
    let u = c.push_part.new.table in
    let v = c.push_parts.new.table in
    let s = style_view c.args.manner.now.style.now in
    let bound = c.args.manner.now.bound in
    let parts : List PartRows = c.args.parts.now in
    let from = c.args.from in
    let x : PartRows = c.index-parts-from.result in
    let rest = drop (from + 1) parts in
    let split : drop from parts ≡ x ∷ rest = drop_more parts from x (omega arith)
    ∙ ap (λ (p : PartRows). p ∷ rest) (sym c.index-parts-from.is) in
    let next : from + 1 ≡ suc from = omega arith in
    let old = c.args.lines.now.items in
    let new = c.push_parts.new.lines.items in
    let easy = c.in_ok-easy.easy in
    let later = c.in_ok-later.later in
    let same = parts-more table u c.in_ok-easy.ensures.extends rest (parts-behind table (from + 1) parts c.requires.parts) in
    let made = parts-some s bound from (from + 1) table u v x rest old c.push_part.new.lines.items new easy later next
    c.in_ok-easy.ensures.exact c.in_ok-later.ensures.exact same in
    subst (λ h. ArePartsPrinted s bound from table v (drop from parts) old new h) (sym c.first_of.ensures)
    (subst (λ (l : List PartRows). ArePartsPrinted s bound from table v l old new (cond easy later (Some from))) (sym split) made)
