use Rattle.std.proofs.Common.{rules, ◌≡◌, ◌-◌, false, arith}
use Rattle.std.proofs.lemmas.Result.{IfOk-weaker}
use Rattle.term_table.specs.Tree.{App, Var}
use Rattle.term_table.specs.Table.{IsKnown, tree_at}
use Rattle.lf_check.specs.Uses.{member, past, is_set, IsUnion}
use Rattle.lf_check.proofs.Sets.{union_same, union_right, union_first, union_less, union_more, union_equal}
use Rattle.lf_check.proofs.uses.+joining.Goals as goal

pub joined-returns-then-same-clause-union : goal.joined-returns-then-same-clause-union
joined-returns-then-same-clause-union g k c =
    let t = c.args.table.now in
    union_same t (tree_at t c.args.s) c.args.r (c.same.ensures.0 c.if-same.true) c.requires.r

pub joined-returns-then-not-is_set-clause-union : goal.joined-returns-then-not-is_set-clause-union
joined-returns-then-not-is_set-clause-union g k c =
    let t = c.args.table.now in
    let h : is_set (tree_at t c.args.s) ≡ false = search rules in
    union_right t (tree_at t c.args.s) c.args.r h c.requires.r

pub joined-returns-clause-union : goal.joined-returns-clause-union
joined-returns-clause-union g k c = rw c.set_parts-gap.ensures.is c.joined_past.ensures.union

pub joined_past-returns-then-not-is_set-clause-union : goal.joined_past-returns-then-not-is_set-clause-union
joined_past-returns-then-not-is_set-clause-union g k c =
    let t = c.args.table.now in
    let v = c.with_first.new.table in
    let h : is_set (tree_at t c.args.r) ≡ false = search rules in
    IfOk-weaker c.with_first.result
    (λ w. IsKnown v w × (tree_at v w ≡ App (Var c.args.gap) (tree_at t c.args.s)))
    (IsUnion v (past c.args.gap (member (tree_at t c.args.s))) (member (tree_at t c.args.r)))
    (λ w q. union_first v w c.args.gap (tree_at t c.args.s) (tree_at t c.args.r) q.0 q.1 h) c.with_first.ensures.set

pub joined_past-returns-clause-union : goal.joined_past-returns-clause-union
joined_past-returns-clause-union g k c = rw c.set_parts-other.ensures.is c.joined_both.ensures.union

pub joined_both-returns-then-g-h-clause-union : goal.joined_both-returns-then-g-h-clause-union
joined_both-returns-then-g-h-clause-union g k c =
    let t = c.args.table.now in
    let u = c.joined_past.new.table in
    let v = c.with_first.new.table in
    let one = member (tree_at t c.args.s) in
    let other = member (tree_at t c.args.r) in
    IfOk-weaker c.with_first.result
    (λ w. IsKnown v w × (tree_at v w ≡ App (Var c.args.g) (tree_at u c.in_ok-rest.rest))) (IsUnion v (past c.args.g one) (past c.args.h other))
    (λ w q. union_less u v one other c.in_ok-rest.rest w c.args.g c.args.h (c.args.h - c.args.g - 1) c.in_ok-rest.ensures.union q.0 q.1 (omega arith))
    c.with_first.ensures.set

pub joined_both-returns-then-h-g-clause-union : goal.joined_both-returns-then-h-g-clause-union
joined_both-returns-then-h-g-clause-union g k c =
    let t = c.args.table.now in
    let u = c.joined_past-then-h-g.new.table in
    let v = c.with_first-then-h-g.new.table in
    let one = member (tree_at t c.args.s) in
    let other = member (tree_at t c.args.r) in
    IfOk-weaker c.with_first-then-h-g.result
    (λ w. IsKnown v w × (tree_at v w ≡ App (Var c.args.h) (tree_at u c.in_ok-rest-2.rest))) (IsUnion v (past c.args.g one) (past c.args.h other))
    (λ w q. union_more u v one other c.in_ok-rest-2.rest w c.args.g c.args.h (c.args.g - c.args.h - 1) c.in_ok-rest-2.ensures.union q.0 q.1 (omega arith))
    c.with_first-then-h-g.ensures.set

pub joined_both-returns-clause-union : goal.joined_both-returns-clause-union
joined_both-returns-clause-union g k c =
    let t = c.args.table.now in
    let u = c.joined.new.table in
    let v = c.with_first-2.new.table in
    let one = member (tree_at t c.args.s) in
    let other = member (tree_at t c.args.r) in
    IfOk-weaker c.with_first-2.result
    (λ w. IsKnown v w × (tree_at v w ≡ App (Var c.args.g) (tree_at u c.in_ok-rest-3.rest))) (IsUnion v (past c.args.g one) (past c.args.h other))
    (λ w q. union_equal u v one other c.in_ok-rest-3.rest w c.args.g c.args.h c.in_ok-rest-3.ensures.union q.0 q.1 (omega arith)) c.with_first-2.ensures.set
