use Rattle.std.proofs.Common.{◌≡◌, None, sym, ◌∙◌}
use Rattle.term_table.specs.Table.{tree_at}
use Rattle.proof_container.specs.Views.{view_contents}
use Rattle.bounds_prover.specs.Proving.{excess}
use Rattle.bounds_prover.proofs.Measures.{small-enough}
use Rattle.bounds_prover.proofs.Writable.{can_write}
use Rattle.bounds_prover.proofs.proving.written.Goals as goal

pub write-requires : goal.write-requires
write-requires c =
    let v = c.args.view.now in
    let p = tree_at v.table.now c.args.proof in
    let none : excess (view_contents v) p ≡ None = sym c.in-Ok-None.ensures ∙ c.in-Ok-None.field-0-is in
    let small = small-enough (view_contents v) p none in
    can_write v c.requires.roots c.requires.lemmas (c.requires.contents small.height small.entries)
