use Rattle.std.proofs.Common.{◌≡◌, IsTrue, sym, ◌∙◌, subst}
use Rattle.term_table.specs.Table.{tree_at}
use Rattle.lf_signature.specs.Terms.{form}
use Rattle.lf_signature.specs.Typing.{Checks}
use Rattle.formula_tree.specs.Formulas.{Form}
use Rattle.formula_tree.specs.Views.{form_view}
use Rattle.lf_encode.specs.Contexts.{sort_types, EncodesForm}
use Rattle.lf_encode.specs.Naming.{unnamed_form}
use Rattle.lf_encode.specs.Reading.{form_of}
use Rattle.lf_encode.proofs.Named.{form_encoded}
use Rattle.lf_encode.proofs.Decoded.{form_of-encoding}
use Rattle.lf_encode.proofs.decode.form_of.Goals as goal
use Rattle.lf_signature.specs.Known.{HasOp}
use Rattle.formula_tree.specs.Operators.{Uses}

pub returns-clause-exact : goal.returns-clause-exact
returns-clause-exact g c =
    let ctx = c.args.ctx.now in
    let tree = tree_at c.args.table.now c.args.id in
    let yes : IsTrue c.in_ok-is_form.field-0 = c.if-not-branch.false in
    let typed : Checks (g.S.Signature.declares c.args.sig.now c.args.table.now) (sort_types ctx) tree form = c.in_ok-is_form.ensures.exact.0 yes in
    let f = form_encoded _ (g.met.S.Known.known c.args.sig.now c.args.table.now c.requires.holds) ctx tree typed in
    let same : tree_at c.is_form.new.table c.args.id ≡ tree = c.in_ok-is_form.ensures.extends.same c.args.id c.requires.id in
    let is : form_view c.in_ok-decode_form.field-0 ≡ f.0 =
    c.in_ok-decode_form.ensures.exact
    ∙ (λ i. unnamed_form (c.bound_count-depth.ensures i) (form_of (same i)))
    ∙ form_of-encoding ctx tree f.0 f.1
    in
    (typed, subst (λ (F : Form). EncodesForm ctx F tree) (sym is) f.1, subst (λ (F : Form). Uses (HasOp (g.S.Signature.declares c.args.sig.now c.args.table.now)) F) (sym is) f.2)
