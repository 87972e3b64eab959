use Rattle.std.proofs.Common.{IsTrue}
use Rattle.std.proofs.lemmas.Result.{IfOk-weaker}
use Rattle.term_table.specs.Table.{tree_at}
use Rattle.lf_check.specs.Lists.{types_of, IsPart}
use Rattle.lf_check.specs.Uses.{member, AgreeOn}
use Rattle.lf_check.proofs.Parts.{part_grown}
use Rattle.lf_check.proofs.contexts.is_alike.Goals as goal

pub returns-clause-part : goal.returns-clause-part
returns-clause-part g c =
    let t = c.args.table.now in
    let u = c.uses_at.new.table in
    let m = tree_at t c.args.m in
    let s = c.in_ok-uses.uses in
    IfOk-weaker c.agree_on.result (λ b. IsTrue b → AgreeOn (member (tree_at u s)) (types_of (tree_at u c.args.c)) (types_of (tree_at u c.args.d)))
    (λ b. IsTrue b → IsPart m (types_of (tree_at t c.args.c)) (types_of (tree_at t c.args.d)))
    (λ b h q. part_grown t u c.args.c c.args.d s m c.in_ok-uses.ensures.extends c.requires.c c.requires.d c.in_ok-uses.ensures.covers (h q))
    c.agree_on.ensures.agree
