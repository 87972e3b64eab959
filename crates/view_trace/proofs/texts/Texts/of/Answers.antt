use Rattle.std.proofs.Common.{ℕ, ◌<◌, List, length, map, ap, ◌∙◌, arith}
use Rattle.std.proofs.lemmas.List.{take_all}
use Rattle.std.specs.Global.{Global}
use Rattle.std.specs.declared.vec.Vec.{Vec}
use Rattle.view_trace.specs.Texts.{code_texts}
use Rattle.view_trace.proofs.TextLemmas.{length-texts_from, text_made}
use Rattle.view_trace.proofs.texts.Texts.of.Goals as goal

pub loop-i-preserved : goal.loop-i-preserved
loop-i-preserved c =
    let within : c.loop-i.i < length c.args.code.now = omega (arith, c.count-i-end.ensures.value, c.loop-i-test.true) in
    ap (λ (l : List (Vec ℕ Global)). map (λ (t : Vec ℕ Global). t.items) l) c.in_ok-push.ensures.items
    ∙ text_made c.args.code.now c.loop-i.texts.items c.loop-i.i c.insn-insn.result c.in_ok-text.text c.loop-i.invariant within
    c.insn-insn.ensures.at c.in_ok-text.ensures

pub returns : goal.returns
returns c =
    c.loop-i.invariant
    ∙ take_all c.loop-i.i (code_texts c.args.code.now)
    (omega (arith, length-texts_from 0 c.args.code.now, c.count-i-end.ensures.value))
