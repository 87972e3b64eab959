use Rattle.std.proofs.Common.{◌≤◌, IfSome, sym, ◌∙◌, subst}
use Rattle.asm_text.specs.declared.limits.TheConstants.{MAX_INSNS}
use Rattle.pcc_asm.proofs.Labelled.{index_short}
use Rattle.pcc_asm.proofs.labels.Labels.index.Goals as goal

pub returns-in-Some-clause-short : goal.returns-in-Some-clause-short
returns-in-Some-clause-short c =
    subst (λ o. IfSome o (λ i. i ≤ MAX_INSNS)) (sym (c.in-Some.ensures.value ∙ c.requires.finds c.args.name.now)) (index_short c.args.self.now.list.now c.args.name.now c.requires.short)
