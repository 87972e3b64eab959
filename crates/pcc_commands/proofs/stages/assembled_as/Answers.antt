use Rattle.std.proofs.Common.{◌≡◌, ◌∙◌, Err, ap, sym}
use Rattle.asm_text.specs.Views.{source_view}
use Rattle.proof_container.specs.Encoding.{encoding_of}
use Rattle.pcc_asm.specs.declared.fault.AsmFlaw.{AsmFlaw}
use Rattle.pcc_asm.specs.Assembling.{assembled_contents}
use Rattle.pcc_stages.specs.Stage.{gives}
use Rattle.pcc_commands.specs.Stages.Assembling.{container_made, assembled_as}
use Rattle.pcc_commands.proofs.VersionLemmas.{built-version, bound-in-range}
use Rattle.pcc_commands.proofs.stages.assembled_as.Goals as goal

pub assemble-requires-clause-version : goal.assemble-requires-clause-version
assemble-requires-clause-version c = built-version c.args.bound c.args.version c.requires.fits

pub assemble-requires-clause-bound : goal.assemble-requires-clause-bound
assemble-requires-clause-bound c = bound-in-range c.args.bound c.args.version c.requires.fits

pub returns-in-Ok-write : goal.returns-in-Ok-write
unfolding assembled_as
returns-in-Ok-write c = ap container_made c.in-Ok.ensures.exact ∙ ap gives (sym (c.in-Ok-write.ensures.encodes.encoded ∙ ap encoding_of c.view.ensures.shows))

pub returns-in-Err-At : goal.returns-in-Err-At
unfolding assembled_as
returns-in-Err-At c =
    let read : assembled_contents c.args.version c.args.bound c.args.policy.now (source_view c.args.source.now) ≡ Err c.in-Err-At.flaw = rw c.in-Err-At.field-0-is at c.in-Err-At.ensures.exact in
    ap container_made read ∙ ap (λ (f : AsmFlaw). container_made (Err f)) (sym c.in-Err-At.flaw-is)
