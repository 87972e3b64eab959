use Rattle.std.proofs.Common.{◌≡◌, true, sym, ◌∙◌, subst, arith}
use Rattle.std.proofs.lemmas.Result.{IfOk-weaker}
use Rattle.term_table.specs.Tree.{App, Var}
use Rattle.term_table.specs.Scope.{is_scoped}
use Rattle.term_table.specs.Table.{IsKnown, tree_at}
use Rattle.lf_check.specs.Uses.{member, IsUnion, Covers}
use Rattle.lf_check.proofs.Sets.{covers_one, covers_other, covers_var, covers_closed}
use Rattle.lf_check.proofs.uses.+using.Goals as goal

pub uses_of_both-returns-clause-one : goal.uses_of_both-returns-clause-one
uses_of_both-returns-clause-one g k c =
    let t = c.args.table.now in
    let v = c.uses_at-2.new.table in
    let w = c.joined.new.table in
    let one = c.in_ok-one.one in
    let other = c.in_ok-other.other in
    let hf : Covers (tree_at v one) (tree_at t c.args.f) =
    subst (λ z. Covers z (tree_at t c.args.f)) (sym (c.in_ok-other.ensures.extends.same one c.in_ok-one.ensures.known)) c.in_ok-one.ensures.covers
    in
    IfOk-weaker c.joined.result (IsUnion w (member (tree_at v one)) (member (tree_at v other))) (λ r. Covers (tree_at w r) (tree_at t c.args.f))
    (λ r h. covers_one w (tree_at t c.args.f) (member (tree_at v one)) (member (tree_at v other)) r hf h) c.joined.ensures.union

pub uses_of_both-returns-clause-other : goal.uses_of_both-returns-clause-other
uses_of_both-returns-clause-other g k c =
    let t = c.args.table.now in
    let v = c.uses_at-2.new.table in
    let w = c.joined.new.table in
    let one = c.in_ok-one.one in
    let other = c.in_ok-other.other in
    let ka : IsKnown t c.args.a = omega (arith, c.requires.m, c.requires.parts.1) in
    let ha : Covers (tree_at v other) (tree_at t c.args.a) =
    subst (Covers (tree_at v other)) (c.in_ok-one.ensures.extends.same c.args.a ka) c.in_ok-other.ensures.covers in
    IfOk-weaker c.joined.result (IsUnion w (member (tree_at v one)) (member (tree_at v other))) (λ r. Covers (tree_at w r) (tree_at t c.args.a))
    (λ r h. covers_other w (tree_at t c.args.a) (member (tree_at v one)) (member (tree_at v other)) r ha h) c.joined.ensures.union

pub uses_at-returns-then-reach-eq0-clause-covers : goal.uses_at-returns-then-reach-eq0-clause-covers
uses_at-returns-then-reach-eq0-clause-covers g k c =
    let t = c.args.table.now in
    let u = c.intern_on.new.table in
    let m = c.args.m in
    let same : tree_at u m ≡ tree_at t m = c.in_ok-none.ensures.extends.same m c.requires.m in
    let e : c.reach.result ≡ 0 = omega arith in
    covers_closed (tree_at t m) (tree_at u c.in_ok-none.none) (subst (λ z. is_scoped 0 z ≡ true) same (c.reach.ensures (omega (arith, e)) 0 (omega (arith, e))))

pub uses_at-returns-in-Var-clause-covers : goal.uses_at-returns-in-Var-clause-covers
uses_at-returns-in-Var-clause-covers g k c =
    let t = c.args.table.now in
    let u = c.intern_on.new.table in
    let v = c.with_first.new.table in
    let m = c.args.m in
    let n = c.in-Var.n in
    let none = tree_at u c.in_ok-none.none in
    let is : Var n ≡ tree_at t m = c.in-Var.ensures.tree ∙ c.in_ok-none.ensures.extends.same m c.requires.m in
    IfOk-weaker c.with_first.result (λ w. IsKnown v w × (tree_at v w ≡ App (Var n) none)) (λ w. Covers (tree_at v w) (tree_at t m))
    (λ w h. subst (Covers (tree_at v w)) is (covers_var n none (tree_at v w) h.1)) c.with_first.ensures.set
