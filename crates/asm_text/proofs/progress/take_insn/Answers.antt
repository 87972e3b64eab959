use Rattle.std.proofs.Common.{None, refl, arith}
use Rattle.asm_text.specs.declared.progress.Progress as code
use Rattle.asm_text.specs.Views.{source_insn_view}
use Rattle.asm_text.proofs.Taking.{takes_insn, refuses_insn, sound_insn}
use Rattle.asm_text.proofs.progress.take_insn.Goals as goal

pub returns-then-len-ge-MAX_INSNS-clause-takes : goal.returns-then-len-ge-MAX_INSNS-clause-takes
returns-then-len-ge-MAX_INSNS-clause-takes c = refuses_insn c.args.progress.now c.args.n (source_insn_view c.args.insn) (omega (arith, c.len.ensures, c.if-len-ge-MAX_INSNS.true))

pub returns-clause-takes : goal.returns-clause-takes
returns-clause-takes c =
    let p = c.args.progress.now in
    let q : code.Progress = record { source = record { insns = c.push.new.self; labels = p.source.labels; invs = p.source.invs }; waiting = None; known = p.known } in
    takes_insn p q c.args.n c.args.insn (source_insn_view c.args.insn) (omega (arith, c.len.ensures, c.if-len-ge-MAX_INSNS.false)) refl c.in_ok-push.ensures.items refl refl refl

pub returns-clause-sound : goal.returns-clause-sound
returns-clause-sound c =
    let p = c.args.progress.now in
    let q : code.Progress = record { source = record { insns = c.push.new.self; labels = p.source.labels; invs = p.source.invs }; waiting = None; known = p.known } in
    sound_insn p q (c.args.n, c.args.insn) c.requires.sound (omega (arith, c.len.ensures, c.if-len-ge-MAX_INSNS.false)) c.in_ok-push.ensures.items refl refl
