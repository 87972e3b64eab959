use Rattle.std.proofs.Common.{rules, ◌≡◌, ◌-◌, false, arith}
use Rattle.std.proofs.lemmas.Result.{IfOk-weaker}
use Rattle.term_table.specs.Tree.{App, Var}
use Rattle.term_table.specs.Table.{IsKnown, tree_at}
use Rattle.lf_check.specs.Uses.{is_set}
use Rattle.lf_check.proofs.Sets.{IsOutside, outside_none, outside_here, outside_later}
use Rattle.lf_check.proofs.uses.outside.Goals as goal

pub returns-then-not-is_set-clause-set : goal.returns-then-not-is_set-clause-set
returns-then-not-is_set-clause-set g c =
    let t = c.args.table.now in
    let h : is_set (tree_at t c.args.s) ≡ false = search rules in
    outside_none (tree_at t c.args.s) (tree_at t c.args.s) h

pub returns-then-gap-eq0-clause-set : goal.returns-then-gap-eq0-clause-set
returns-then-gap-eq0-clause-set g c =
    let t = c.args.table.now in
    outside_here (tree_at t c.args.s) (tree_at t c.set_parts-gap.result.1) c.set_parts-gap.result.0 c.set_parts-gap.ensures.is (search rules)

pub returns-clause-set : goal.returns-clause-set
returns-clause-set g c =
    let t = c.args.table.now in
    let v = c.with_first.new.table in
    let rest = c.set_parts-gap.result.1 in
    let gap = c.set_parts-gap.result.0 in
    IfOk-weaker c.with_first.result (λ w. IsKnown v w × (tree_at v w ≡ App (Var (gap - 1)) (tree_at t rest)))
    (λ w. IsOutside (tree_at t c.args.s) (tree_at v w))
    (λ w q. outside_later (tree_at t c.args.s) (tree_at t rest) (tree_at v w) gap (gap - 1) c.set_parts-gap.ensures.is (omega arith) q.1)
    c.with_first.ensures.set

pub returns-clause-known : goal.returns-clause-known
returns-clause-known g c =
    let t = c.args.table.now in
    let v = c.with_first.new.table in
    IfOk-weaker c.with_first.result (λ w. IsKnown v w × (tree_at v w ≡ App (Var (c.set_parts-gap.result.0 - 1)) (tree_at t c.set_parts-gap.result.1)))
    (IsKnown v) (λ w q. q.0) c.with_first.ensures.set
