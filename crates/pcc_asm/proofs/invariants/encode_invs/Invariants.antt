use Rattle.std.proofs.Common.{take}
use Rattle.pcc_asm.specs.Inside.Views.{inv_views, AreEncoded}
use Rattle.pcc_asm.proofs.invariants.encode_invs.Given as goal

abbrev pub invariant-loop-i : goal.invariant-loop-i
invariant-loop-i l = AreEncoded l.table (inv_views (take l.i l.invs)) l.ids.items
