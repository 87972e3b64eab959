use Rattle.asm_print.specs.Views.{invs_view}
use Rattle.view_container.proofs.Shorts.{AreShort}
use Rattle.view_container.proofs.forms.short_in.Given as goal

abbrev pub invariant-loop-i : goal.invariant-loop-i
invariant-loop-i l = AreShort l.initial.table l.table l.invs l.i (invs_view l.forms.items)
