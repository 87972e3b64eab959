use Rattle.std.proofs.Common.{◌≡◌, drop, length}
use Rattle.alpha_cfg.specs.CodeDecoding.{first_outside}
use Rattle.pcc_asm.proofs.checking.find_outside.Given as goal

abbrev pub invariant-loop-i : goal.invariant-loop-i
invariant-loop-i l = first_outside (length l.code) l.i (drop l.i l.code) ≡ first_outside (length l.code) 0 l.code
