use Rattle.std.proofs.Common.{refl, sym, ◌∙◌, arith}
use Rattle.asm_text.specs.declared.progress.Progress as code
use Rattle.asm_text.proofs.Found.{Has-is_eq}
use Rattle.asm_text.proofs.Taking.{takes_label, refuses_label, sound_label}
use Rattle.asm_text.proofs.progress.take_label.Goals as goal

pub returns-then-contains-clause-takes : goal.returns-then-contains-clause-takes
returns-then-contains-clause-takes c =
    let p = c.args.progress.now in
    refuses_label p c.args.text.now (sym (c.requires.sound.known c.args.text.now) ∙ sym (Has-is_eq (λ k. k.now) c.args.text.now p.known.keys) ∙ sym c.contains.ensures ∙ c.if-contains.true)

pub returns-clause-takes : goal.returns-clause-takes
returns-clause-takes c =
    let p = c.args.progress.now in
    let q : code.Progress = record { source = record { insns = p.source.insns; labels = c.push.new.self; invs = p.source.invs }; waiting = p.waiting; known = c.insert.new.self } in
    takes_label p q c.in_ok-label.label c.len-index.result c.args.text.now (sym (c.requires.sound.known c.args.text.now) ∙ sym (Has-is_eq (λ k. k.now) c.args.text.now p.known.keys) ∙ sym c.contains.ensures ∙ c.if-contains.false)
    c.in_ok-label.ensures (omega (arith, c.len-index.ensures)) refl c.in_ok-push.ensures.items refl refl

pub returns-clause-sound : goal.returns-clause-sound
returns-clause-sound c =
    let p = c.args.progress.now in
    let q : code.Progress = record { source = record { insns = p.source.insns; labels = c.push.new.self; invs = p.source.invs }; waiting = p.waiting; known = c.insert.new.self } in
    sound_label p q c.args.text c.in_ok-label.label c.len-index.result c.requires.sound c.in_ok-label.ensures refl c.in_ok-push.ensures.items c.in_ok-insert.ensures.keys
