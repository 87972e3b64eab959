use Rattle.std.proofs.Common.{◌≡◌, ◌-◌, List, [], ◌∷◌, take, length, sym, ◌∙◌, ap, subst, arith}
use Rattle.term_table.specs.Tree.{Tree}
use Rattle.term_table.specs.Table.{IsKnown, tree_at}
use Rattle.formula_tree.specs.Formulas.{Form}
use Rattle.lf_signature.specs.Nodes.{IsIdOf}
use Rattle.lf_signature.specs.declared.numbers.TheConstants.{AND_L, AND_R}
use Rattle.lf_terms.proofs.Slices.{ended}
use Rattle.lf_terms.specs.ProofTerms.{and_l, and_r}
use Rattle.prover_class.specs.Access as class
use Rattle.prover_ids.proofs.Standing.{own, ruled}
use Rattle.prover_conditions.specs.Inside.AccessIds.{way_back}
use Rattle.prover_conditions.specs.declared.access_walks.Side.TheVariants.{Left, Right}
use Rattle.prover_conditions.proofs.AccessRows.{down-here, empty_is, way_back-push}
use Rattle.prover_conditions.proofs.access_grants.+down.Goals as goal

pub returns-in-empty-clause-exact : goal.returns-in-empty-clause-exact
returns-in-empty-clause-exact g c = λ A q.
    let t = c.args.table.now in
    let p = tree_at t c.args.proof in
    let none : c.args.way.now ≡ [] = empty_is c.args.way.now c.in-empty.len_below in
    let here : class.down A (way_back c.args.way.now []) p ≡ p = ap (λ l. class.down A (way_back l []) p) none ∙ down-here A p in
    subst (λ (z : Tree). IsIdOf t z c.args.proof) (sym here) (own t c.args.proof c.requires.proof)

pub returns-in_ok-end-in-Left-clause-exact : goal.returns-in_ok-end-in-Left-clause-exact
returns-in_ok-end-in-Left-clause-exact g c = λ A q.
    let t = c.args.table.now in
    let t1 = c.rule_term.new.table in
    let way = c.args.way.now in
    let p = tree_at t c.args.proof in
    let at = c.in-And.ensures.is A q in
    let e = c.in_ok-part-in-Left.ensures.extends in
    let ka : IsKnown t c.in-And.a = omega (arith, c.in-And.ensures.below.0, c.requires.form) in
    let part = ruled (λ z. IsIdOf t1 z c.in_ok-part-in-Left.part) AND_L (λ i. at.left_is i ∷ at.right_is i ∷ p ∷ []) c.in_ok-part-in-Left.ensures.id in
    let front = take (length way - 1) way in
    let back : way_back way [] ≡ class.Left ∷ way_back front [] = ap (λ l. way_back l []) (ended way Left Left c.in-len1-up.len_at_least (sym c.in-Left.is)) ∙ way_back-push front Left [] in
    let end = c.in_ok-end-in-Left.ensures.exact at.left (e.same c.in-And.a ka ∙ at.left_is) in
    let of : IsIdOf c.down.new.table (class.down at.left (way_back front []) (and_l at.left at.right p)) c.in_ok-end-in-Left.end = subst (λ (z : Tree). IsIdOf c.down.new.table (class.down at.left (way_back front []) z) c.in_ok-end-in-Left.end) part.is end in
    subst (λ (l : List class.Side). IsIdOf c.down.new.table (class.down A l p) c.in_ok-end-in-Left.end) (sym back)
    (subst (λ (Z : Form). IsIdOf c.down.new.table (class.down Z (class.Left ∷ way_back front []) p) c.in_ok-end-in-Left.end) (sym at.is) of)

pub returns-in_ok-end-in-Right-clause-exact : goal.returns-in_ok-end-in-Right-clause-exact
returns-in_ok-end-in-Right-clause-exact g c = λ A q.
    let t = c.args.table.now in
    let t1 = c.rule_term-in-Right.new.table in
    let u = c.down-in-Right.new.table in
    let way = c.args.way.now in
    let p = tree_at t c.args.proof in
    let at = c.in-And.ensures.is A q in
    let e = c.in_ok-part-in-Right.ensures.extends in
    let kb : IsKnown t c.in-And.b = omega (arith, c.in-And.ensures.below.1, c.requires.form) in
    let part = ruled (λ z. IsIdOf t1 z c.in_ok-part-in-Right.part) AND_R (λ i. at.left_is i ∷ at.right_is i ∷ p ∷ []) c.in_ok-part-in-Right.ensures.id in
    let front = take (length way - 1) way in
    let back : way_back way [] ≡ class.Right ∷ way_back front [] = ap (λ l. way_back l []) (ended way Left Right c.in-len1-up.len_at_least (sym c.in-Right.is)) ∙ way_back-push front Right [] in
    let end = c.in_ok-end-in-Right.ensures.exact at.right (e.same c.in-And.b kb ∙ at.right_is) in
    let of : IsIdOf u (class.down at.right (way_back front []) (and_r at.left at.right p)) c.in_ok-end-in-Right.end = subst (λ (z : Tree). IsIdOf u (class.down at.right (way_back front []) z) c.in_ok-end-in-Right.end) part.is end in
    subst (λ (l : List class.Side). IsIdOf u (class.down A l p) c.in_ok-end-in-Right.end) (sym back)
    (subst (λ (Z : Form). IsIdOf u (class.down Z (class.Right ∷ way_back front []) p) c.in_ok-end-in-Right.end) (sym at.is) of)
