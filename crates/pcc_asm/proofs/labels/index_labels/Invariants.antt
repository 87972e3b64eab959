use Rattle.std.proofs.Common.{◌-◌, drop, length}
use Rattle.pcc_asm.specs.Inside.Views.{label_views, FindsLabels}
use Rattle.pcc_asm.proofs.labels.index_labels.Given as goal

abbrev pub invariant-loop-i : goal.invariant-loop-i
invariant-loop-i l = FindsLabels l.places (label_views (drop (length l.list - l.i) l.list))
