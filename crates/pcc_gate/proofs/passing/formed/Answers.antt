use Rattle.std.proofs.Common.{◌≡◌, Some, sym, ◌∙◌, ap}
use Rattle.std.specs.Option.{option_map}
use Rattle.term_table.specs.Table.{Extends, ctx_of, id_trees}
use Rattle.pcc_gate.specs.declared.refusal.Refusal.TheVariants as refusal
use Rattle.pcc_gate.specs.First.{formless}
use Rattle.pcc_gate.proofs.Kept.{grown-twice, known-more, ids-more, ctx-more, trees-same}
use Rattle.pcc_gate.specs.declared.fault.GateFault.TheVariants as fault
use Rattle.hereditary_subst.specs.Limits.{is_limited, NeedsLimit}
use Rattle.pcc_gate.proofs.Refusing.{carries}
use Rattle.pcc_gate.specs.Shortages.{gate_shortage_of}
use Rattle.pcc_gate.proofs.Stages.{shortage-results}
use Rattle.pcc_gate.proofs.passing.formed.Goals as goal

pub first_formless-requires-clause-known : goal.first_formless-requires-clause-known
first_formless-requires-clause-known c =
    let o = c.args.table.now in
    let v = c.intern.new.self in
    let grown : Extends o v = grown-twice o c.context_types.new.table v c.in_ok-context.ensures.extends c.in_ok-form.ensures.extends in
    known-more o v c.args.invs.now grown c.requires.known

pub first_formless-requires-clause-context : goal.first_formless-requires-clause-context
first_formless-requires-clause-context c =
    rw c.deref.ensures.value (ids-more c.context_types.new.table c.intern.new.self c.in_ok-context.context.items c.in_ok-form.ensures.extends c.in_ok-context.ensures.known)

pub first_formless-requires-clause-types : goal.first_formless-requires-clause-types
first_formless-requires-clause-types c =
    ap (ctx_of c.intern.new.self) c.deref.ensures.value
    ∙ ctx-more c.context_types.new.table c.intern.new.self c.in_ok-context.context.items c.in_ok-form.ensures.extends c.in_ok-context.ensures.known ∙ c.in_ok-context.ensures.types

pub first_formless-requires-clause-kept : goal.first_formless-requires-clause-kept
first_formless-requires-clause-kept c = c.requires.kept _

pub returns-in-Some-clause-answer : goal.returns-in-Some-clause-answer
returns-in-Some-clause-answer c =
    let o = c.args.table.now in
    let v = c.intern.new.self in
    let invs = c.args.invs.now in
    let grown : Extends o v = grown-twice o c.context_types.new.table v c.in_ok-context.ensures.extends c.in_ok-form.ensures.extends in
    let s = c.args.signature in
    let most = c.args.bound in
    let found : formless s most 0 (id_trees o invs) ≡ Some c.in-Some.inv =
    ap (formless s most 0) (trees-same o v invs grown c.requires.known) ∙ sym c.in_ok-inv.ensures.exact
    ∙ c.in-Some.is in
    ap (option_map refusal.InvNotForm) found

pub returns-clause-answer : goal.returns-clause-answer
returns-clause-answer c =
    let o = c.args.table.now in
    let v = c.intern.new.self in
    let invs = c.args.invs.now in
    let grown : Extends o v = grown-twice o c.context_types.new.table v c.in_ok-context.ensures.extends c.in_ok-form.ensures.extends in
    ap (formless c.args.signature c.args.bound 0) (trees-same o v invs grown c.requires.known)
    ∙ sym c.in_ok-inv.ensures.exact ∙ c.in-None.is

pub returns-in_err-inv-clause-limit : goal.returns-in_err-inv-clause-limit
returns-in_err-inv-clause-limit c =
    let s = c.in_err-inv.ensures.spends in
    let what = c.in_err-inv.field-0.0 in
    carries (NeedsLimit (is_limited c.args.kept.now.memo) fault.Results) (gate_shortage_of what)
    (λ e. sym s.0 ∙ (s.2 (shortage-results what e)).0) c.from_residual-in_err-inv.result c.from_residual-in_err-inv.ensures.1
