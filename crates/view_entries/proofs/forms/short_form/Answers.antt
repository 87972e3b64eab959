use Rattle.std.proofs.Common.{◌≡◌, ◌<◌, IfOk, sym, subst}
use Rattle.std.specs.Option.{option_map}
use Rattle.term_table.specs.Table.{tree_at}
use Rattle.formula_tree.specs.Formulas.{Form}
use Rattle.formula_tree.specs.Views.{form_view}
use Rattle.lf_encode.proofs.Named.{form_encoded}
use Rattle.view_entries.specs.Sizes.{tree_size}
use Rattle.view_entries.specs.Short.{short_form}
use Rattle.view_entries.proofs.Texts.{formula_is, too_large}
use Rattle.view_entries.proofs.forms.short_form.Goals as goal

pub returns-then-size-most-clause-exact : goal.returns-then-size-most-clause-exact
returns-then-size-most-clause-exact g c =
    let ctx = c.args.ctx.now in
    let tree = tree_at c.args.table.now c.args.id in
    let known = g.met.S.Known.known c.args.sig.now c.args.table.now c.requires.holds in
    let f = form_encoded _ known ctx tree c.requires.typed in
    let large : c.args.most < tree_size tree =
    subst (λ n. c.args.most < n) c.requires.size c.if-size-most.true in
    too_large c.args.most ctx tree f.0 c.requires.alone f.1 large

pub returns-in-Some-clause-exact : goal.returns-in-Some-clause-exact
returns-in-Some-clause-exact g c =
    let encodes = rw c.in-Some.is at c.in_ok-form_of.ensures.exact in
    let is = formula_is c.args.ctx.now (tree_at c.args.table.now c.args.id)
    (form_view c.in-Some.formula) c.requires.alone encodes.1 in
    subst (λ (F : Form).
    IfOk c.if_short.result (λ o. option_map form_view o ≡ short_form c.args.most F)) (sym is) c.if_short.ensures
