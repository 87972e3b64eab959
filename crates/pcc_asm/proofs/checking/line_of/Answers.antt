use Rattle.std.proofs.Common.{ℕ, ap, ◌∙◌}
use Rattle.asm_text.specs.declared.insns.SrcInsn.{SrcInsn}
use Rattle.pcc_asm.proofs.Walking.{line_here}
use Rattle.pcc_asm.proofs.checking.line_of.Goals as goal

pub returns : goal.returns
returns c = ap (λ (p : ℕ × SrcInsn). p.0) c.index-said-i.is ∙ line_here c.args.said.now c.args.i _ c.requires
