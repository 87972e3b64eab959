use Rattle.std.proofs.Common.{◌≡◌, ◌∷◌, get_or, sym, ◌∙◌, ap, subst, arith}
use Rattle.term_table.specs.Tree.{Tree, TApp}
use Rattle.term_table.specs.Table.{IsKnown, tree_at, Extends}
use Rattle.lf_check.specs.Lists.{types_of}
use Rattle.lf_check.proofs.TypeLists.{ctx-take, known-at, grows_more}
use Rattle.lf_check.proofs.contexts.context_at.Goals as goal

pub intern-requires-in-loop-id : goal.intern-requires-in-loop-id
intern-requires-in-loop-id c =
    let k : IsKnown c.args.table.now c.id-item.result = subst (IsKnown c.args.table.now) (sym c.id-item.is) (known-at c.args.ctx.now c.args.table.now c.loop-id.id-index c.id-item.result c.requires c.loop-id-test.true) in
    (c.loop-id.invariant.known, omega (arith, k, c.loop-id.invariant.extends.longer))

pub loop-id-preserved : goal.loop-id-preserved
loop-id-preserved c =
    let t = c.args.table.now in
    let u = c.loop-id.table in
    let v = c.intern-in-loop-id.new.self in
    let x : Extends t u = c.loop-id.invariant.extends in
    let y : Extends u v = c.in_ok-c-2.ensures.extends in
    let k : IsKnown t c.id-item.result = subst (IsKnown t) (sym c.id-item.is) (known-at c.args.ctx.now t c.loop-id.id-index c.id-item.result c.requires c.loop-id-test.true) in
    let i = c.in_ok-c-2.ensures.id in
    let n : tree_at v c.in_ok-c-2.c ≡ TApp (tree_at u c.loop-id.c) (tree_at u c.id-item.result) = i.1 in
    let last : tree_at u c.id-item.result ≡ tree_at t (get_or c.args.ctx.now c.loop-id.id-index c.id-item.result) = x.same c.id-item.result k ∙ ap (tree_at t) c.id-item.is in
    record {
      known = i.0;
      extends = grows_more t u v x y;
      types = ap types_of n ∙ ap (λ (z : Tree). z ∷ types_of (tree_at u c.loop-id.c)) last
          ∙ ap (λ l. tree_at t (get_or c.args.ctx.now c.loop-id.id-index c.id-item.result) ∷ l) c.loop-id.invariant.types
          ∙ sym (ctx-take t c.args.ctx.now c.loop-id.id-index c.id-item.result c.loop-id-test.true);
    }
