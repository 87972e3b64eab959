use Rattle.std.proofs.Common.{is_some, ap, ◌∙◌}
use Rattle.alpha_cfg.specs.Flow.{next_of}
use Rattle.pcc_asm.proofs.Walking.{runs_last}
use Rattle.pcc_asm.proofs.checking.goes_off.Goals as goal

pub returns : goal.returns
returns c = c.goes_on.ensures ∙ ap (λ x. is_some (next_of 0 x)) c.index-code-code.is ∙ runs_last c.args.code.now _ c.requires
