use Rattle.std.proofs.Common.{ℕ, ap, ◌∙◌}
use Rattle.asm_text.specs.declared.labels.Label.{Label}
use Rattle.pcc_asm.proofs.Labelled.{more_indexed}
use Rattle.pcc_asm.proofs.labels.index_labels.Goals as goal

pub loop-i-preserved : goal.loop-i-preserved
loop-i-preserved c =
    more_indexed c.args.list.now c.loop-i.i c.index-list-list.result c.loop-i.places c.insert.new.self c.as_slice.result.now c.index-list-list.result.1 c.loop-i-test.true c.loop-i.invariant
    (c.as_slice.ensures.value ∙ ap (λ (p : Label × ℕ). p.0.text.items) c.index-list-list.is) (ap (λ (p : Label × ℕ). p.1) c.index-list-list.is) c.in_ok-insert.ensures.updates
