use Rattle.std.proofs.Common.{◌≡◌, length}
use Rattle.pcc_asm.specs.Assembling.{resolved_insns}
use Rattle.pcc_asm.specs.Inside.Views.{insn_views, label_views}
use Rattle.pcc_asm.proofs.Walking.{with_front, rest_of}
use Rattle.pcc_asm.proofs.resolving.resolve_all.Given as goal

abbrev pub invariant-loop-i : goal.invariant-loop-i
invariant-loop-i l = record {
  count : length l.code.items ≡ l.i;
  rest : with_front l.code.items (rest_of (label_views l.labels.list.now) l.insns l.i) ≡ resolved_insns (label_views l.labels.list.now) 0 (insn_views l.insns);
}
