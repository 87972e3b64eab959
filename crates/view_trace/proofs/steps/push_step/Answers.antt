use Rattle.std.proofs.Common.{◌≡◌, ℕ, ◌≤◌, List, length, sym, ap, subst, arith}
use Rattle.asm_print.specs.Printing.{insn_text}
use Rattle.view_trace.proofs.TextLemmas.{length-texts_from, text_at}
use Rattle.view_trace.proofs.RunLemmas.{line_made}
use Rattle.view_trace.proofs.steps.push_step.Goals as goal

pub text-text-requires : goal.text-text-requires
text-text-requires c =
    omega (
      arith,
      length-texts_from 0 c.args.code.now,
      ap (λ (l : List (List ℕ)). length l) c.requires.texts,
      c.index-index.ensures,
      c.requires.within,
    )

pub push_front-requires-clause-short : goal.push_front-requires-clause-short
push_front-requires-clause-short c =
    let index = c.index-index.result in
    let insn = c.insn-insn.result in
    let is : c.text-text.result.now ≡ insn_text index insn =
    text_at c.args.code.now c.args.texts.now index insn c.text-text.result.now c.requires.texts c.insn-insn.ensures.at
    c.text-text.ensures in
    subst (λ (t : List ℕ). length t ≤ 21) (sym is) (c.insn_laws.ensures.short index insn
    (c.insn_laws.ensures.code c.args.code.now index insn c.count-some.ensures.code c.insn-insn.ensures.at))

pub returns-clause-items : goal.returns-clause-items
returns-clause-items c =
    let code = c.args.code.now in
    let index = c.index-index.result in
    let insn = c.insn-insn.result in
    let text = c.text-text.result.now in
    let is : text ≡ insn_text index insn =
    text_at code c.args.texts.now index insn text c.requires.texts c.insn-insn.ensures.at c.text-text.ensures in
    line_made code c.args.agent.now.state insn c.step-step.result c.step-step.new.self.state index c.index-index.ensures
    c.insn-insn.ensures.at c.step-step.ensures.step c.args.line.now.items c.push_front.new.line.items
    c.push_access.new.line.items c.push_change.new.line.items c.push_text.new.line.items text c.register_written-reg.result
    c.reg-before.result c.reg.result c.access_of-access.result is c.access_of-access.ensures c.register_written-reg.ensures
    c.reg-before.ensures c.reg.ensures c.push_front.ensures.items c.push_access.ensures.items c.push_change.ensures.items
    c.push_text.ensures.items
