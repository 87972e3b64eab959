use Rattle.std.proofs.Common.{◌≡◌, List, [], IfOk, sym, ◌∙◌, subst, arith}
use Rattle.term_table.specs.Table.{IsKnown}
use Rattle.hereditary_subst.proofs.Rows.{grows_more}
use Rattle.formula_tree.specs.Formulas.{EOp}
use Rattle.prover_class.specs.NormalForms.{Rewriting, rewrite_at, in_left, in_right, first_nonempty, redex}
use Rattle.prover_forms.specs.Inside.Rounds.{IsNextExp, IsRoundOf}
use Rattle.prover_forms.proofs.Parts.{left_next, right_next, none_in_parts}
use Rattle.prover_forms.proofs.plain_forms.+rounds.Goals as goal

pub after_round_in-returns-in_ok-whole-in-Some-clause-exact : goal.after_round_in-returns-in_ok-whole-in-Some-clause-exact
after_round_in-returns-in_ok-whole-in-Some-clause-exact t c =
    λ x y qa qb.
    let out = c.args.outside in
    let op = c.args.op in
    let u = c.after_round.new.table in
    let kb : IsKnown c.args.table.now c.args.b = omega (arith, c.requires.b, c.requires.e) in
    let left : IsNextExp u x (redex out x) c.in-Some.left = subst (IsRoundOf u x (redex out x)) c.in-Some.is (c.in_ok-left.ensures.exact x qa) in
    let right_is = c.in_ok-left.ensures.extends.same c.args.b kb ∙ qb in
    left_next u c.oper.new.table op x y (redex out x) (first_nonempty (in_right op x (redex out y)) (rewrite_at out op x y)) c.in-Some.left c.args.b
    c.in_ok-whole-in-Some.whole left right_is c.in_ok-whole-in-Some.ensures.id

pub after_round_in-returns-in_ok-whole-in-Some-2-clause-exact : goal.after_round_in-returns-in_ok-whole-in-Some-2-clause-exact
after_round_in-returns-in_ok-whole-in-Some-2-clause-exact t c =
    λ x y qa qb.
    let out = c.args.outside in
    let op = c.args.op in
    let s = c.args.table.now in
    let u = c.after_round.new.table in
    let v = c.after_round-in-None.new.table in
    let w = c.oper-in-Some-2.new.table in
    let su = c.in_ok-left.ensures.extends in
    let sv = grows_more s u v su c.in_ok-right-in-None.ensures.extends in
    let ka : IsKnown s c.args.a = omega (arith, c.requires.a, c.requires.e) in
    let kb : IsKnown s c.args.b = omega (arith, c.requires.b, c.requires.e) in
    let none : redex out x ≡ [] = subst (IsRoundOf u x (redex out x)) c.in-None.is (c.in_ok-left.ensures.exact x qa) in
    let right : IsNextExp v y (redex out y) c.in-Some-2.right =
    subst (IsRoundOf v y (redex out y)) c.in-Some-2.is (c.in_ok-right-in-None.ensures.exact y (su.same c.args.b kb ∙ qb)) in
    let made = right_next v w op x y (redex out y) (rewrite_at out op x y) c.args.a c.in-Some-2.right c.in_ok-whole-in-Some-2.whole right
    (sv.same c.args.a ka ∙ qa) c.in_ok-whole-in-Some-2.ensures.id in
    let rest = first_nonempty (in_right op x (redex out y)) (rewrite_at out op x y) in
    subst (λ (l : List Rewriting). IsNextExp w (EOp op x y) (first_nonempty (in_left op y l) rest) c.in_ok-whole-in-Some-2.whole) (sym none) made

pub after_round_in-returns-in-None-2-clause-exact : goal.after_round_in-returns-in-None-2-clause-exact
after_round_in-returns-in-None-2-clause-exact t c =
    λ x y qa qb.
    let out = c.args.outside in
    let op = c.args.op in
    let s = c.args.table.now in
    let u = c.after_round.new.table in
    let v = c.after_round-in-None.new.table in
    let su = c.in_ok-left.ensures.extends in
    let sv = grows_more s u v su c.in_ok-right-in-None.ensures.extends in
    let ka : IsKnown s c.args.a = omega (arith, c.requires.a, c.requires.e) in
    let kb : IsKnown s c.args.b = omega (arith, c.requires.b, c.requires.e) in
    let none : redex out x ≡ [] = subst (IsRoundOf u x (redex out x)) c.in-None.is (c.in_ok-left.ensures.exact x qa) in
    let right : redex out y ≡ [] = subst (IsRoundOf v y (redex out y)) c.in-None-2.is (c.in_ok-right-in-None.ensures.exact y (su.same c.args.b kb ∙ qb)) in
    let a_is = sv.same c.args.a ka ∙ qa in
    let b_is = sv.same c.args.b kb ∙ qb in
    let made = c.given_by.ensures.exact out x y a_is b_is (c.rule_at-rule.ensures.is x y a_is b_is) in
    subst (λ (l : List Rewriting). IfOk c.given_by.result (IsRoundOf c.given_by.new.table (EOp op x y) l)) (sym (none_in_parts out op x y none right)) made
