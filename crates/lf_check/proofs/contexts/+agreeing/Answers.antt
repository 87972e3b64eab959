use Rattle.std.proofs.Common.{rules, ◌≡◌, suc, ◌-◌, ◌∷◌, false, IsTrue, sym, arith}
use Rattle.std.proofs.lemmas.Result.{IfOk-weaker}
use Rattle.term_table.specs.Table.{tree_at}
use Rattle.lf_check.specs.Lists.{types_of}
use Rattle.lf_check.specs.Uses.{member, past, is_set, AgreeOn}
use Rattle.lf_check.proofs.Sets.{agree_none, agree_later}
use Rattle.lf_check.proofs.contexts.+agreeing.Goals as goal

pub agree_on-returns-then-not-is_set-clause-agree : goal.agree_on-returns-then-not-is_set-clause-agree
agree_on-returns-then-not-is_set-clause-agree g k c =
    let t = c.args.table.now in
    let h : is_set (tree_at t c.args.s) ≡ false = search rules in
    λ _. agree_none (tree_at t c.args.s) _ _ h

pub agree_past-returns-then-gap-gt0-clause-agree : goal.agree_past-returns-then-gap-gt0-clause-agree
agree_past-returns-then-gap-gt0-clause-agree g k c =
    let t = c.args.table.now in
    let set = member (tree_at t c.args.rest) in
    let types = types_of (tree_at t c.in-TApp.p) in
    let others = types_of (tree_at t c.in-TApp-node.q) in
    let e : c.args.gap ≡ suc (c.args.gap - 1) = omega arith in
    let before = λ (b : _). IsTrue b → AgreeOn (past (c.args.gap - 1) set) types others in
    let after = λ (b : _). IsTrue b → AgreeOn (past (suc (c.args.gap - 1)) set) (tree_at t c.in-TApp.a ∷ types) (tree_at t c.in-TApp-node.b ∷ others) in
    rw (sym c.in-TApp.ensures.tree, sym c.in-TApp-node.ensures.tree, e)
    (IfOk-weaker c.agree_past.result before after
    (λ b h q. agree_later (c.args.gap - 1) set (tree_at t c.in-TApp.a) (tree_at t c.in-TApp-node.b) types others (h q)) c.agree_past.ensures.agree)
