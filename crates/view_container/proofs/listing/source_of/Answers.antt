use Rattle.std.proofs.Common.{◌≡◌, ℕ, List, ◌++◌, map, Result, sym, ap, ◌∙◌, subst}
use Rattle.std.specs.List.{AllByRecursion}
use Rattle.term_table.specs.Tree.{Tree}
use Rattle.term_table.specs.Table.{IsKnown, id_trees}
use Rattle.term_table.specs.Steps.{◌>>=◌}
use Rattle.vcgen.specs.Encoded.{AreForms}
use Rattle.proof_container.specs.Views.{contents_of}
use Rattle.pcc_gate.specs.First.{formulas}
use Rattle.pcc_gate.proofs.Kept.{known-more, trees-same}
use Rattle.asm_print.specs.Listing.{code_text}
use Rattle.asm_print.specs.Views.{invs_view}
use Rattle.view_container.specs.declared.stop.NoSource.{NoSource}
use Rattle.view_container.specs.Beside.{notes_beside}
use Rattle.view_container.specs.Views.{beside_view}
use Rattle.view_container.specs.Notes.{notes_of}
use Rattle.view_container.specs.Sources.{extras_of, extras_with, if_forms, if_short, if_whole, source_listing}
use Rattle.view_container.specs.Answers.{IsReason, Finds}
use Rattle.view_container.proofs.Stages.{are-forms, source-rest, reason-first, carried}
use Rattle.view_container.proofs.listing.source_of.Goals as goal

pub formed-requires-clause-known : goal.formed-requires-clause-known
formed-requires-clause-known c =
    let t = c.args.container.table in
    subst (λ (l : List (ℕ × ℕ)). AllByRecursion (λ (inv : ℕ × ℕ). IsKnown t inv.1) l)
    (sym c.deref.ensures.value) c.requires.canonical.known.0

pub short_forms-requires-clause-sizes : goal.short_forms-requires-clause-sizes
short_forms-requires-clause-sizes c = c.deref-2.ensures.value ∙ c.in_ok-sizes.ensures.exact

pub short_forms-requires-clause-known : goal.short_forms-requires-clause-known
short_forms-requires-clause-known c =
    let k = c.args.container in
    let u = c.formed.new.table in
    subst (λ (l : List (ℕ × ℕ)). AllByRecursion (λ (inv : ℕ × ℕ). IsKnown u inv.1) l)
    (sym c.deref-3.ensures.value)
    (known-more k.table u k.invs.items c.in_ok-formed.ensures.extends c.requires.canonical.known.0)

pub short_forms-requires-clause-forms : goal.short_forms-requires-clause-forms
short_forms-requires-clause-forms c =
    let k = c.args.container in
    let u = c.formed.new.table in
    let s = c.signature_of-signature.result in
    let same = trees-same k.table u k.invs.items c.in_ok-formed.ensures.extends
    c.requires.canonical.known.0 in
    let forms = are-forms s k.bound (id_trees k.table c.deref.result.now)
    c.in_ok-formed.ensures.answer in
    subst (λ (l : List (ℕ × Tree)). AreForms s k.bound l)
    (ap (id_trees k.table) c.deref.ensures.value ∙ same
    ∙ ap (id_trees u) (sym c.deref-3.ensures.value))
    forms

pub returns-in_err-invs : goal.returns-in_err-invs
returns-in_err-invs c =
    let k = c.args.container in
    let u = c.formed.new.table in
    let beside = beside_view c.args.beside in
    let code = c.in_ok-code.code in
    let e = c.in_err-invs.field-0.0 in
    let same = trees-same k.table u k.invs.items c.in_ok-formed.ensures.extends
    c.requires.canonical.known.0 in
    let back = ap (id_trees u) c.deref-3.ensures.value ∙ sym same in
    let short = subst (λ (l : List (ℕ × Tree)). IsReason (if_short (formulas l)) e) back
    c.in_err-invs.ensures in
    let forms = sym (λ i. if_forms (c.signature_of-signature.ensures.exact i) k.bound
    (id_trees k.table (c.deref.ensures.value i))) ∙ c.in_ok-formed.ensures.answer in
    let rest = source-rest (contents_of k) beside code c.in_ok-code.ensures c.in_ok-low.ensures forms in
    let reason = reason-first (if_short (formulas (contents_of k).invs))
    (λ invs. if_whole (code_text (extras_of (contents_of k) beside) code invs)) e short in
    carried (λ v. v.items) (source_listing (contents_of k) beside) e
    (subst (λ (r : Result (List ℕ) NoSource). IsReason r e) (sym rest) reason)
    c.from_residual-in_err-invs.result c.from_residual-in_err-invs.ensures.1

pub returns : goal.returns
returns c =
    let k = c.args.container in
    let u = c.formed.new.table in
    let beside = beside_view c.args.beside in
    let code = c.in_ok-code.code in
    let same = trees-same k.table u k.invs.items c.in_ok-formed.ensures.extends
    c.requires.canonical.known.0 in
    let there = same ∙ ap (id_trees u) (sym c.deref-3.ensures.value) in
    let found = ap (λ l. if_short (formulas l)) there ∙ c.in_ok-invs.ensures in
    let forms = sym (λ i. if_forms (c.signature_of-signature.ensures.exact i) k.bound
    (id_trees k.table (c.deref.ensures.value i))) ∙ c.in_ok-formed.ensures.answer in
    let rest = source-rest (contents_of k) beside code c.in_ok-code.ensures c.in_ok-low.ensures forms in
    let notes : notes_of (contents_of k) ++ notes_beside k.code.now beside ≡ map (λ v. v.items) c.deref-5.result.now =
    sym (ap (map (λ v. v.items)) c.deref-5.ensures.value ∙ c.in_ok-notes.ensures) in
    let text = rest
    ∙ ap (λ r. r >>= λ invs. if_whole (code_text (extras_of (contents_of k) beside) code invs)) found
    ∙ (λ i. if_whole (code_text (extras_with k.code.now beside.lines (notes i))
    (sym c.insns.ensures.value i) (invs_view (sym c.deref-4.ensures.value i)))) in
    subst (λ (r : Result (List ℕ) NoSource). Finds (λ v. v.items) r c.printed.result) (sym text)
    c.printed.ensures
