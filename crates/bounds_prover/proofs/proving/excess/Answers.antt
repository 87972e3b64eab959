use Rattle.std.proofs.Common.{◌∙◌, arith}
use Rattle.term_table.specs.Table.{tree_at}
use Rattle.proof_container.specs.Views.{view_contents}
use Rattle.bounds_prover.proofs.Measures.{weight-shown, too_heavy, too_high, too_many, too_long, nothing_past}
use Rattle.bounds_prover.proofs.proving.excess.Goals as goal

pub returns-then-weight-gt-MAX_WEIGHT : goal.returns-then-weight-gt-MAX_WEIGHT
returns-then-weight-gt-MAX_WEIGHT c =
    let v = c.args.view.now in
    let p = tree_at v.table.now c.args.proof in
    let weight =
    weight-shown (view_contents v) p c.signature_of.result v.table.now.places
    c.lemmas_weight-of_lemmas.result c.weight.result c.saturating_add-weight.result
    c.signature_of.ensures.exact c.requires.places c.lemmas_weight-of_lemmas.ensures
    c.weight.ensures c.saturating_add-weight.ensures in
    too_heavy (view_contents v) p c.from.result (c.from.ensures ∙ weight)
    (omega (arith, c.from.ensures))

pub returns-then-height-gt-MAX_HEIGHT : goal.returns-then-height-gt-MAX_HEIGHT
returns-then-height-gt-MAX_HEIGHT c =
    let v = c.args.view.now in
    let p = tree_at v.table.now c.args.proof in
    let weight =
    weight-shown (view_contents v) p c.signature_of.result v.table.now.places
    c.lemmas_weight-of_lemmas.result c.weight.result c.saturating_add-weight.result
    c.signature_of.ensures.exact c.requires.places c.lemmas_weight-of_lemmas.ensures
    c.weight.ensures c.saturating_add-weight.ensures in
    let shown = c.from-then-height-gt-MAX_HEIGHT in
    too_high (view_contents v) p c.saturating_add-weight.result weight (omega arith)
    shown.result (shown.ensures ∙ c.height-height.ensures)
    (omega (arith, shown.ensures))

pub returns-then-entries-from : goal.returns-then-entries-from
returns-then-entries-from c =
    let v = c.args.view.now in
    let p = tree_at v.table.now c.args.proof in
    let weight =
    weight-shown (view_contents v) p c.signature_of.result v.table.now.places
    c.lemmas_weight-of_lemmas.result c.weight.result c.saturating_add-weight.result
    c.signature_of.ensures.exact c.requires.places c.lemmas_weight-of_lemmas.ensures
    c.weight.ensures c.saturating_add-weight.ensures in
    let size = c.in_ok-entries.ensures in
    too_many (view_contents v) p c.saturating_add-weight.result weight (omega arith)
    c.height-height.result c.height-height.ensures (omega arith)
    c.in_ok-entries.entries size.entries (omega arith)

pub returns-then-bytes-from : goal.returns-then-bytes-from
returns-then-bytes-from c =
    let v = c.args.view.now in
    let p = tree_at v.table.now c.args.proof in
    let weight =
    weight-shown (view_contents v) p c.signature_of.result v.table.now.places
    c.lemmas_weight-of_lemmas.result c.weight.result c.saturating_add-weight.result
    c.signature_of.ensures.exact c.requires.places c.lemmas_weight-of_lemmas.ensures
    c.weight.ensures c.saturating_add-weight.ensures in
    let size = c.in_ok-entries.ensures in
    too_long (view_contents v) p c.saturating_add-weight.result weight (omega arith)
    c.height-height.result c.height-height.ensures (omega arith)
    c.in_ok-entries.entries size.entries (omega arith)
    c.in_ok-entries.bytes size.bytes (omega arith)

pub returns : goal.returns
returns c =
    let v = c.args.view.now in
    let p = tree_at v.table.now c.args.proof in
    let weight =
    weight-shown (view_contents v) p c.signature_of.result v.table.now.places
    c.lemmas_weight-of_lemmas.result c.weight.result c.saturating_add-weight.result
    c.signature_of.ensures.exact c.requires.places c.lemmas_weight-of_lemmas.ensures
    c.weight.ensures c.saturating_add-weight.ensures in
    let size = c.in_ok-entries.ensures in
    nothing_past (view_contents v) p c.saturating_add-weight.result weight (omega arith)
    c.height-height.result c.height-height.ensures (omega arith)
    c.in_ok-entries.entries size.entries (omega arith)
    c.in_ok-entries.bytes size.bytes (omega arith)
