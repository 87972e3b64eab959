use Rattle.std.proofs.Common.{◌≡◌, ◌++◌, map, drop}
use Rattle.asm_print.specs.Listing.{Note, lines_text}
use Rattle.asm_print.proofs.printing.push_notes.Given as goal

abbrev pub invariant-loop-note : goal.invariant-loop-note
invariant-loop-note l =
    l.out.items ++ lines_text (map Note (map (λ v. v.items) (drop l.note-index l.notes)))
    ≡ l.initial.out.items ++ lines_text (map Note (map (λ v. v.items) l.notes))
