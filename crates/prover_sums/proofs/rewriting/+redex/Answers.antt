use Rattle.std.proofs.Common.{◌≡◌, true, false, IfOk, sym, ◌∙◌, subst, arith}
use Rattle.term_table.specs.Table.{IsKnown}
use Rattle.hereditary_subst.proofs.Rows.{grows_more}
use Rattle.prover_class.specs.NormalForms.{first_nonempty, in_left, in_right, redex, rewrite_at}
use Rattle.prover_sums.specs.Inside.Rewrites.{AreRewrites, has_rewrites}
use Rattle.prover_sums.proofs.Rewrites.{first_of_left, first_of_right, none_is}
use Rattle.prover_sums.proofs.rewriting.+redex.Goals as goal

pub redex_of_parts-returns-then-has_rewrites-clause-exact : goal.redex_of_parts-returns-then-has_rewrites-clause-exact
redex_of_parts-returns-then-has_rewrites-clause-exact t c =
    λ x y qe qa qb.
    let out = c.args.outside in
    let op = c.args.op in
    let known : IsKnown c.args.table.now c.args.b = omega (arith, c.requires.b, c.requires.e) in
    let left = c.in_ok-left.ensures.exact x qa in
    let some : has_rewrites c.in_ok-left.left ≡ true = sym c.has_rewrites.ensures ∙ c.if-has_rewrites.true in
    let made = c.all_under_left.ensures.exact y (redex out x) (c.in_ok-left.ensures.extends.same c.args.b known ∙ qb) left in
    subst (λ l. IfOk c.all_under_left.result (λ s. AreRewrites c.all_under_left.new.table s l))
    (sym (first_of_left c.redex.new.table c.in_ok-left.left (redex out x) (first_nonempty (in_right op x (redex out y)) (rewrite_at out op x y)) op y some left)) made

pub redex_of_parts-returns-then-has_rewrites-2-clause-exact : goal.redex_of_parts-returns-then-has_rewrites-2-clause-exact
redex_of_parts-returns-then-has_rewrites-2-clause-exact t c =
    λ x y qe qa qb.
    let out = c.args.outside in
    let op = c.args.op in
    let tu = c.in_ok-left.ensures.extends in
    let known : IsKnown c.args.table.now c.args.a = omega (arith, c.requires.a, c.requires.e) in
    let known_b : IsKnown c.args.table.now c.args.b = omega (arith, c.requires.b, c.requires.e) in
    let left = c.in_ok-left.ensures.exact x qa in
    let none : has_rewrites c.in_ok-left.left ≡ false = sym c.has_rewrites.ensures ∙ c.if-has_rewrites.false in
    let right = c.in_ok-right.ensures.exact y (tu.same c.args.b known_b ∙ qb) in
    let some : has_rewrites c.in_ok-right.right ≡ true = sym c.has_rewrites-2.ensures ∙ c.if-has_rewrites-2.true in
    let tv = grows_more c.args.table.now c.redex.new.table c.redex-2.new.table tu c.in_ok-right.ensures.extends in
    let made = c.all_under_right.ensures.exact x (redex out y) (tv.same c.args.a known ∙ qa) right in
    subst (λ l. IfOk c.all_under_right.result (λ s. AreRewrites c.all_under_right.new.table s (first_nonempty (in_left op y l) (first_nonempty (in_right op x (redex out y)) (rewrite_at out op x y)))))
    (sym (none_is c.redex.new.table c.in_ok-left.left (redex out x) none left))
    (subst (λ l. IfOk c.all_under_right.result (λ s. AreRewrites c.all_under_right.new.table s l)) (sym (first_of_right c.redex-2.new.table c.in_ok-right.right (redex out y) (rewrite_at out op x y) op x some right)) made)

pub redex_of_parts-returns-clause-exact : goal.redex_of_parts-returns-clause-exact
redex_of_parts-returns-clause-exact t c =
    λ x y qe qa qb.
    let out = c.args.outside in
    let op = c.args.op in
    let tu = c.in_ok-left.ensures.extends in
    let known : IsKnown c.args.table.now c.args.a = omega (arith, c.requires.a, c.requires.e) in
    let known_b : IsKnown c.args.table.now c.args.b = omega (arith, c.requires.b, c.requires.e) in
    let left = c.in_ok-left.ensures.exact x qa in
    let none : has_rewrites c.in_ok-left.left ≡ false = sym c.has_rewrites.ensures ∙ c.if-has_rewrites.false in
    let right = c.in_ok-right.ensures.exact y (tu.same c.args.b known_b ∙ qb) in
    let none_right : has_rewrites c.in_ok-right.right ≡ false = sym c.has_rewrites-2.ensures ∙ c.if-has_rewrites-2.false in
    let tv = grows_more c.args.table.now c.redex.new.table c.redex-2.new.table tu c.in_ok-right.ensures.extends in
    let a_is = tv.same c.args.a known ∙ qa in
    let b_is = tv.same c.args.b known_b ∙ qb in
    let made = c.rewrites_by.ensures.exact out x y (tv.same c.args.e c.requires.e ∙ qe) a_is b_is (c.rule_at-rule.ensures.is x y a_is b_is) in
    subst (λ l. IfOk c.rewrites_by.result (λ s. AreRewrites c.rewrites_by.new.table s (first_nonempty (in_left op y l) (first_nonempty (in_right op x (redex out y)) (rewrite_at out op x y)))))
    (sym (none_is c.redex.new.table c.in_ok-left.left (redex out x) none left))
    (subst (λ l. IfOk c.rewrites_by.result (λ s. AreRewrites c.rewrites_by.new.table s (first_nonempty (in_right op x l) (rewrite_at out op x y)))) (sym (none_is c.redex-2.new.table c.in_ok-right.right (redex out y) none_right right)) made)
