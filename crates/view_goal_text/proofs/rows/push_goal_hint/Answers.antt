use Rattle.std.proofs.Common.{◌≡◌, ◌+◌, List, map, take, sym, ◌∙◌, ap, subst}
use Rattle.std.proofs.lemmas.List.{take-map}
use Rattle.term_table.specs.Tree.{Tree}
use Rattle.term_table.specs.Table.{AllKnown, tree_at}
use Rattle.view_goal_text.specs.Hints.{goal_hint}
use Rattle.view_goal_text.specs.Inside.FormTerms.{IsFormTerm, AreFormTerms}
use Rattle.view_lines.specs.Shown.{AreAdded}
use Rattle.view_goal_text.proofs.FormTerms.{all-taken}
use Rattle.view_goal_text.proofs.RowLines.{first-known}
use Rattle.view_goal_text.proofs.rows.push_goal_hint.Goals as goal

pub push_hint-requires-clause-known : goal.push_hint-requires-clause-known
push_hint-requires-clause-known c =
    subst (AllKnown c.args.table.now) (sym c.first-here.ensures)
    (first-known c.args.table.now c.args.known.now (c.args.depth + 1) c.requires.known)

pub returns-clause-exact : goal.returns-clause-exact
returns-clause-exact c forms aim =
    let t = c.args.table.now in
    let trees : List Tree = map (tree_at t) c.args.known.now in
    let n = c.args.depth + 1 in
    let here : map (tree_at t) c.first-here.result.now ≡ take n trees =
    ap (map (tree_at t)) c.first-here.ensures ∙ sym (take-map (tree_at t) n c.args.known.now) in
    let m = c.args.manner.now in
    subst (λ l. AreAdded m.bound t c.push_hint.new.table c.args.lines.now.items
    (goal_hint m.style.now.all m.bound l (tree_at t c.args.goal)) c.push_hint.new.lines.items) here
    (c.in_ok-push_hint.ensures.exact (subst AreFormTerms (sym here) (all-taken IsFormTerm n trees forms)) aim)
