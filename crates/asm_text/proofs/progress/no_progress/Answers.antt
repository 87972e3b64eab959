use Rattle.std.proofs.Common.{None, refl}
use Rattle.asm_text.specs.declared.progress.Progress as code
use Rattle.asm_text.proofs.Taking.{none_taken, none_sound}
use Rattle.asm_text.proofs.progress.no_progress.Goals as goal

pub returns-clause-view : goal.returns-clause-view
returns-clause-view c =
    let p : code.Progress = record { source = record { insns = c.new.result; labels = c.new-2.result; invs = c.new-3.result }; waiting = None; known = c.new-4.result } in
    none_taken p c.new.ensures.items c.new-2.ensures.items c.new-3.ensures.items refl

pub returns-clause-sound : goal.returns-clause-sound
returns-clause-sound c =
    let p : code.Progress = record { source = record { insns = c.new.result; labels = c.new-2.result; invs = c.new-3.result }; waiting = None; known = c.new-4.result } in
    none_sound p c.new.ensures.items c.new-2.ensures.items c.new-4.ensures.empty
