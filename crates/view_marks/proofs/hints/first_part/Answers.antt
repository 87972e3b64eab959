use Rattle.std.proofs.Common.{[], ◌∷◌, map, sym, ◌∙◌, ap, subst}
use Rattle.term_table.specs.Table.{AllKnown, tree_at}
use Rattle.view_marks.proofs.hints.first_part.Goals as goal

pub returns-clause-known : goal.returns-clause-known
returns-clause-known c =
    subst (AllKnown c.missing_part.new.table) (sym c.in_ok-parts.ensures) (c.in_ok-part.ensures.known, tt)

pub returns-clause-exact : goal.returns-clause-exact
returns-clause-exact c = λ Γ A g q.
    let part_is = c.in_ok-part.ensures.exact Γ A g q in
    ap (map (tree_at c.missing_part.new.table)) c.in_ok-parts.ensures ∙ (λ i. part_is i ∷ [])
