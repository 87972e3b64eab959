use Rattle.std.proofs.Common.{◌++◌, map, sym, ap, ◌∙◌}
use Rattle.asm_print.specs.Listing.{Note, insn_lines, lines_text}
use Rattle.asm_print.specs.Views.{invs_view, extras_view}
use Rattle.asm_print.proofs.Places.{lines_text-append}
use Rattle.asm_print.proofs.printing.print_source.Goals as goal

pub returns : goal.returns
returns c =
    let x = extras_view c.args.extras.now in
    let code = c.args.insns.now in
    let views = invs_view c.args.invs.now in
    record {
      exact = c.in_ok-push_notes.ensures
          ∙ ap (λ l. l ++ lines_text (map Note x.notes)) c.in_ok-out.ensures
          ∙ sym (lines_text-append (insn_lines x code views) (map Note x.notes));
    }
