use Rattle.std.proofs.Common.{◌≡◌, ◌≤◌, ◌++◌, length, drop}
use Rattle.asm_print.specs.Targets.{is_target}
use Rattle.asm_print.specs.Listing.{lines_text, lines_from, insn_lines}
use Rattle.asm_print.specs.Views.{invs_view, extras_view}
use Rattle.asm_print.proofs.printing.print_insns.Given as goal

abbrev pub invariant-loop-i : goal.invariant-loop-i
invariant-loop-i l =
    let x = extras_view l.extras in
    let views = invs_view l.invs in
    (l.next ≤ length l.invs)
    × (l.out.items ++ lines_text
    (lines_from (is_target l.insns) x l.i (drop l.i l.insns) (drop l.next views))
    ≡ lines_text (insn_lines x l.insns views))
