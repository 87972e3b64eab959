use Rattle.std.proofs.Common.{◌<◌, false, length, drop, ◌∙◌, arith}
use Rattle.std.proofs.lemmas.List.{get_or_read}
use Rattle.asm_print.specs.Targets.{is_target}
use Rattle.asm_print.specs.Listing.{lines_text, insn_lines}
use Rattle.asm_print.specs.Views.{invs_view, extras_view}
use Rattle.asm_print.proofs.Places.{next_lines}
use Rattle.asm_print.proofs.printing.print_insns.Goals as goal

pub loop-i-preserved : goal.loop-i-preserved
loop-i-preserved c =
    let code = c.args.insns.now in
    let views = invs_view c.args.invs.now in
    let x = extras_view c.args.extras.now in
    let flags = c.in_ok-flags.flags.items in
    let within : c.loop-i.i < length flags = omega (arith, c.in_ok-flags.ensures.length) in (
      c.in_ok-next.ensures.within,
      next_lines (is_target code) x code
          (drop c.loop-i.next views) _ c.loop-i.i c.index-insns-i.result c.index.result.now
          c.loop-i.out.items _ _ _ (lines_text (insn_lines x code views)) c.loop-i-test.true c.index-insns-i.is
          (get_or_read flags c.loop-i.i _ within c.index.ensures false
          ∙ c.in_ok-flags.ensures.exact c.loop-i.i)
          c.in_ok-next.ensures.behind c.in_ok-push_label_line.ensures c.in_ok-next.ensures.text
          c.in_ok-push_insn_line.ensures c.loop-i.invariant.1,
    )
