use Rattle.std.proofs.Common.{◌∙◌, ap}
use Rattle.lf_lemma_check.specs.Inside.Bounds.{late_by}
use Rattle.lf_lemma_check.proofs.Citing.{late_is}
use Rattle.lf_lemma_check.proofs.citations.first_late.Goals as goal

pub returns : goal.returns
returns c =
    c.late_from.ensures
    ∙ ap (λ z. late_by z 0 c.args.lemmas.now) (c.as_slice.ensures.value ∙ c.in_ok-bounds.ensures)
    ∙ late_is c.args.table.now c.args.lemmas.now 0
