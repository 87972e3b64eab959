use Rattle.std.proofs.Common.{Some, refl, sym, ◌∙◌, arith}
use Rattle.asm_text.specs.declared.progress.Progress as code
use Rattle.asm_text.proofs.Taking.{nothing_waits, takes_inv, refuses_inv, sound_inv}
use Rattle.asm_text.proofs.progress.take_inv.Goals as goal

pub returns-then-len-ge-MAX_INVS-clause-takes : goal.returns-then-len-ge-MAX_INVS-clause-takes
returns-then-len-ge-MAX_INVS-clause-takes c =
    refuses_inv c.args.progress.now c.args.n c.args.form (nothing_waits c.args.progress.now.waiting (sym c.is_some.ensures ∙ c.if-is_some.false)) (omega (arith, c.len.ensures, c.if-len-ge-MAX_INVS.true))

pub returns-clause-takes : goal.returns-clause-takes
returns-clause-takes c =
    let p = c.args.progress.now in
    let q : code.Progress = record { source = record { insns = p.source.insns; labels = p.source.labels; invs = c.push.new.self }; waiting = Some c.args.n; known = p.known } in
    takes_inv p q c.args.n c.len-index.result c.args.form (nothing_waits p.waiting (sym c.is_some.ensures ∙ c.if-is_some.false)) (omega (arith, c.len.ensures, c.if-len-ge-MAX_INVS.false)) (omega (arith, c.len-index.ensures))
    refl refl c.in_ok-push.ensures.items refl

pub returns-clause-sound : goal.returns-clause-sound
returns-clause-sound c =
    let p = c.args.progress.now in
    let q : code.Progress = record { source = record { insns = p.source.insns; labels = p.source.labels; invs = c.push.new.self }; waiting = Some c.args.n; known = p.known } in
    sound_inv p q c.requires.sound refl refl refl
