use Rattle.std.proofs.Common.{◌≡◌, ◌<◌, ℕ, List, length, get_or, sym, ap, ◌∙◌, subst, arith}
use Rattle.std.specs.Option.{option_map}
use Rattle.std.proofs.lemmas.List.{get_or_default, map-append}
use Rattle.term_table.specs.Tree.{Tree}
use Rattle.term_table.specs.Table.{tree_at}
use Rattle.lf_encode.specs.declared.contexts.Sort as sort
use Rattle.lf_signature.specs.Constants.{declared}
use Rattle.lf_signature.specs.Terms.{form}
use Rattle.lf_signature.specs.Typing.{Checks}
use Rattle.lf_encode.specs.Contexts.{bound_sorts, sort_types}
use Rattle.formula_tree.specs.Views.{form_view}
use Rattle.vcgen.specs.Encoded.{context_of}
use Rattle.pcc_gate.specs.First.{formula_of}
use Rattle.pcc_gate.proofs.Kept.{known-id}
use Rattle.view_entries.specs.Sizes.{tree_size}
use Rattle.view_entries.specs.Short.{short_form}
use Rattle.view_entries.proofs.Sized.{size_at}
use Rattle.asm_print.specs.Views.{invs_view}
use Rattle.asm_print.specs.declared.limits.TheConstants.{MAX_FORM_TEXT}
use Rattle.view_container.proofs.Shorts.{none-bound, known-at, form-at, is-found, is-long, none-yet, one-more, all-short, some-long}
use Rattle.view_container.proofs.forms.short_in.Goals as goal

pub loop-i-init : goal.loop-i-init
loop-i-init c = none-yet c.args.table.now c.args.invs.now _ (ap invs_view c.new-forms.ensures.items)

pub short_form-requires-clause-id : goal.short_form-requires-clause-id
short_form-requires-clause-id c =
    let d = c.index-invs-i-in-loop-i.result in
    known-id c.args.table.now c.loop-i.table _ c.loop-i.invariant.grown
    (known-at c.args.table.now c.args.invs.now c.loop-i.i d c.requires.known c.loop-i-test.true)

pub short_form-requires-clause-typed : goal.short_form-requires-clause-typed
short_form-requires-clause-typed c =
    let t = c.args.table.now in
    let u = c.loop-i.table in
    let invs = c.args.invs.now in
    let d = c.index-invs-i-in-loop-i.result in
    let id : ℕ = (get_or invs c.loop-i.i d).1 in
    let s = c.args.signature in
    let known = known-at t invs c.loop-i.i d c.requires.known c.loop-i-test.true in
    let same : tree_at u id ≡ tree_at t id = c.loop-i.invariant.grown.same id known in
    subst (λ (ctx : List sort.Sort). Checks (declared s) (sort_types ctx) (tree_at u id) form)
    (sym c.requires.context)
    (subst (λ (x : Tree). Checks (declared s) (sort_types (context_of c.args.bound)) x form) (sym same)
    (form-at s c.args.bound t invs c.loop-i.i d c.requires.forms c.loop-i-test.true))

pub short_form-requires-clause-alone : goal.short_form-requires-clause-alone
short_form-requires-clause-alone c = ap bound_sorts c.requires.context ∙ none-bound c.args.bound

pub short_form-requires-clause-size : goal.short_form-requires-clause-size
short_form-requires-clause-size c =
    let t = c.args.table.now in
    let u = c.loop-i.table in
    let invs = c.args.invs.now in
    let d = c.index-invs-i-in-loop-i.result in
    let id : ℕ = (get_or invs c.loop-i.i d).1 in
    let known = known-at t invs c.loop-i.i d c.requires.known c.loop-i-test.true in
    ap (λ n. get_or c.args.sizes.now n 0) c.index.ensures
    ∙ ap (λ l. get_or l id 0) c.requires.sizes ∙ size_at t id known
    ∙ ap tree_size (sym (c.loop-i.invariant.grown.same id known))

pub returns-in-None : goal.returns-in-None
returns-in-None c =
    let t = c.args.table.now in
    let u = c.loop-i.table in
    let invs = c.args.invs.now in
    let d = c.index-invs-i-in-loop-i.result in
    let id : ℕ = (get_or invs c.loop-i.i d).1 in
    let known = known-at t invs c.loop-i.i d c.requires.known c.loop-i-test.true in
    let same = ap formula_of (c.loop-i.invariant.grown.same id known) in
    some-long t invs c.loop-i.i d c.loop-i-test.true
    (is-long (formula_of (tree_at t id))
    (sym (ap (option_map form_view) c.in-None.is) ∙ c.in_ok-found.ensures.exact
    ∙ ap (short_form MAX_FORM_TEXT) same))

pub loop-i-preserved : goal.loop-i-preserved
loop-i-preserved c =
    let t = c.args.table.now in
    let u = c.loop-i.table in
    let invs = c.args.invs.now in
    let i = c.loop-i.i in
    let d = c.index-invs-i-in-loop-i.result in
    let e = c.index-invs-i.result in
    let lt : i < length invs = c.loop-i-test.true in
    let id : ℕ = (get_or invs i d).1 in
    let known = known-at t invs i d c.requires.known lt in
    let same = ap formula_of (c.loop-i.invariant.grown.same id known) in
    let got = is-found (formula_of (tree_at t id)) (form_view c.in-Some.form)
    (sym (ap (option_map form_view) c.in-Some.is) ∙ c.in_ok-found.ensures.exact
    ∙ ap (short_form MAX_FORM_TEXT) same) in
    one-more t u c.short_form.new.table invs i d (invs_view c.loop-i.forms.items) _
    (get_or invs i e).0 (form_view c.in-Some.form) c.loop-i.invariant c.in_ok-found.ensures.extends lt
    (ap (λ (p : ℕ × ℕ). p.0) (get_or_default invs i e d lt)) got.1 got.0
    (ap invs_view c.in_ok-push-in-Some.ensures.items
    ∙ map-append (λ v. (v.0, form_view v.1)) c.loop-i.forms.items _)

pub returns : goal.returns
returns c =
    all-short c.args.table.now c.loop-i.table c.args.invs.now c.loop-i.i _ c.loop-i.invariant
    (omega arith)
