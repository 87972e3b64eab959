use Rattle.std.proofs.Common.{◌≡◌, ℕ, ◌+◌, List, [], ◌∷◌, ◌++◌, map, take, sym, ◌∙◌, ap, subst}
use Rattle.term_table.specs.Table.{AllKnown, tree_at}
use Rattle.view_goal_text.proofs.RowLines.{learnt, learnt-known}
use Rattle.view_goal_text.proofs.rows.learn_at.Goals as goal

pub returns-clause-known : goal.returns-clause-known
returns-clause-known c =
    let id = c.args.id in
    let n = c.args.depth + 1 in
    let items : c.push.new.self.items ≡ take n c.args.known.now.items ++ id ∷ [] =
    c.in_ok-push.ensures.items ∙ ap (λ (l : List ℕ). l ++ id ∷ []) c.truncate.ensures.items in
    subst (AllKnown c.args.table.now) (sym items)
    (learnt-known c.args.table.now c.args.known.now.items n id c.requires.known c.requires.id)

pub returns-clause-exact : goal.returns-clause-exact
returns-clause-exact c =
    let t = c.args.table.now in
    let id = c.args.id in
    let n = c.args.depth + 1 in
    let items : c.push.new.self.items ≡ take n c.args.known.now.items ++ id ∷ [] =
    c.in_ok-push.ensures.items ∙ ap (λ (l : List ℕ). l ++ id ∷ []) c.truncate.ensures.items in
    ap (map (tree_at t)) items ∙ learnt t c.args.known.now.items n id
