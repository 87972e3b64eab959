use Rattle.std.proofs.Common.{◌≡◌, drop}
use Rattle.pcc_asm.specs.Assembling.{first_unlawful}
use Rattle.pcc_asm.specs.Inside.Views.{insn_views}
use Rattle.pcc_asm.proofs.checking.find_unlawful.Given as goal

abbrev pub invariant-loop-i : goal.invariant-loop-i
invariant-loop-i l =
    first_unlawful l.profile (insn_views (drop l.i l.said)) (drop l.i l.code)
    ≡ first_unlawful l.profile (insn_views l.said) l.code
