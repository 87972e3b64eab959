use Rattle.std.proofs.Common.{◌≡◌, ◌∙◌, ap, arith}
use Rattle.term_table.specs.Table.{IsKnown, tree_at, ctx_of, Extends}
use Rattle.lf_signature.specs.Terms.{form}
use Rattle.lf_encode.specs.Contexts.{sort_types}
use Rattle.lf_encode.proofs.decode.is_form.Goals as goal

pub returns-clause-exact : goal.returns-clause-exact
returns-clause-exact g c =
    let t = c.args.table.now in
    let u = c.intern.new.self in
    let v = c.context_types.new.table in
    let s = c.args.sig.now in
    let sig = g.S.Signature.declares s in
    let tu : Extends t u = c.in_ok-form.ensures.extends in
    let uv : Extends u v = c.in_ok-types.ensures.extends in
    let known : IsKnown u c.args.id = omega (arith, c.requires.id, tu.longer) in
    let same : sig v ≡ sig t =
    g.met.S.Signature.same_types s u v uv (g.met.S.Signature.still_holds s t u tu c.requires.holds) ∙ g.met.S.Signature.same_types s t u tu c.requires.holds
    in
    let types : ctx_of v c.as_slice.result.now ≡ sort_types c.args.ctx.now = ap (ctx_of v) c.as_slice.ensures.value ∙ c.in_ok-types.ensures.types in
    let tree : tree_at v c.args.id ≡ tree_at t c.args.id = uv.same c.args.id known ∙ tu.same c.args.id c.requires.id in
    let is : tree_at v c.in_ok-form.form ≡ form = uv.same c.in_ok-form.form c.in_ok-form.ensures.id.0 ∙ c.in_ok-form.ensures.id.1 in
    rw (same, types, tree, is) at c.check_term.ensures.answer
