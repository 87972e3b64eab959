use Rattle.std.proofs.Common.{◌≡◌, Some, None, sym, ◌∙◌, ap}
use Rattle.std.specs.Prelude.{is_some}
use Rattle.term_table.specs.Table.{Extends, ctx_of, id_trees}
use Rattle.pcc_gate.specs.First.{formless}
use Rattle.pcc_gate.proofs.Kept.{grown-twice, ids-more, ctx-more, trees-same}
use Rattle.view_container.specs.declared.stop.NoSource.TheVariants.{NotForm}
use Rattle.view_container.specs.Sources.{unless}
use Rattle.view_container.proofs.judging.formed.Goals as goal

pub first_formless-requires-clause-context : goal.first_formless-requires-clause-context
first_formless-requires-clause-context c =
    rw c.deref.ensures.value
    (ids-more c.context_types.new.table c.intern.new.self c.in_ok-context.context.items
    c.in_ok-form.ensures.extends c.in_ok-context.ensures.known)

pub first_formless-requires-clause-types : goal.first_formless-requires-clause-types
first_formless-requires-clause-types c =
    ap (ctx_of c.intern.new.self) c.deref.ensures.value
    ∙ ctx-more c.context_types.new.table c.intern.new.self c.in_ok-context.context.items
    c.in_ok-form.ensures.extends c.in_ok-context.ensures.known
    ∙ c.in_ok-context.ensures.types

pub first_formless-requires-clause-kept : goal.first_formless-requires-clause-kept
first_formless-requires-clause-kept c = c.new-kept.ensures.kept _ _

pub returns-in-Some-clause-answer : goal.returns-in-Some-clause-answer
returns-in-Some-clause-answer c =
    let o = c.args.table.now in
    let v = c.intern.new.self in
    let invs = c.args.invs.now in
    let grown : Extends o v =
    grown-twice o c.context_types.new.table v c.in_ok-context.ensures.extends
    c.in_ok-form.ensures.extends in
    let found : formless c.args.signature c.args.bound 0 (id_trees o invs) ≡ Some c.in-Some.field-0 =
    ap (formless c.args.signature c.args.bound 0) (trees-same o v invs grown c.requires.known)
    ∙ sym c.in_ok-first_formless.ensures.exact ∙ c.in-Some.is in
    ap (λ x. unless (is_some x) NotForm tt) found

pub returns-clause-answer : goal.returns-clause-answer
returns-clause-answer c =
    let o = c.args.table.now in
    let v = c.intern.new.self in
    let invs = c.args.invs.now in
    let grown : Extends o v =
    grown-twice o c.context_types.new.table v c.in_ok-context.ensures.extends
    c.in_ok-form.ensures.extends in
    let found : formless c.args.signature c.args.bound 0 (id_trees o invs) ≡ None =
    ap (formless c.args.signature c.args.bound 0) (trees-same o v invs grown c.requires.known)
    ∙ sym c.in_ok-first_formless.ensures.exact ∙ c.in-None.is in
    ap (λ x. unless (is_some x) NotForm tt) found
