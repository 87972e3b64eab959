use Rattle.std.proofs.Common.{◌≡◌, ◌≤◌, ◌<◌, ◌^◌, ◌+◌, ◌++◌, length, sym, ap, ◌∙◌, subst, arith}
use Rattle.native_code.specs.Layout.{code_length}
use Rattle.native_lives.specs.Certificates.{lean_of}
use Rattle.native_translator.proofs.Translated.{first-more, all-made, behind-small, begin-small, padded, block-small}
use Rattle.native_translator.proofs.plan.Plan.layout.Goals as goal

pub total-at-requires : goal.total-at-requires
total-at-requires c =
    subst (λ l. code_length l < 2 ^ 30) (sym (c.deref.ensures.value ∙ c.in_ok-insns.ensures))
    (behind-small c.args.self.now.places
    (lean_of c.args.self.now.lives.forms.items c.args.self.now.lives.live.items) c.args.self.now.metered c.args.code.now 0 c.count-count.ensures.code
    c.laws.ensures c.layout_laws.ensures.small
    (omega arith))

pub padding-requires : goal.padding-requires
padding-requires c =
    let low : c.loop-i.i ≤ length c.args.code.now = omega (arith, c.loop-i-test.true, c.count-count.ensures.value) in
    let small =
    behind-small c.args.self.now.places
    (lean_of c.args.self.now.lives.forms.items c.args.self.now.lives.live.items) c.args.self.now.metered c.args.code.now c.loop-i.i
    c.count-count.ensures.code c.laws.ensures
    c.layout_laws.ensures.small low in
    omega (arith, small, c.loop-i.invariant.next)

pub total-at-requires-in-loop-i : goal.total-at-requires-in-loop-i
total-at-requires-in-loop-i c =
    let low : c.loop-i.i ≤ length c.args.code.now = omega (arith, c.loop-i-test.true, c.count-count.ensures.value) in
    let small =
    begin-small c.args.self.now.places
    (lean_of c.args.self.now.lives.forms.items c.args.self.now.lives.live.items) c.args.self.now.metered c.args.code.now c.loop-i.i c.loop-i.insns.items
    c.deref-in-loop-i.result.now
    c.loop-i.starts.items c.loop-i.at c.count-count.ensures.code c.laws.ensures c.layout_laws.ensures.small low
    (c.deref-in-loop-i.ensures.value ∙ c.in_ok-gap.ensures) c.loop-i.invariant in
    omega (arith, small)

pub overflow_add-at : goal.overflow_add-at
overflow_add-at c =
    let low : c.loop-i.i ≤ length c.args.code.now = omega (arith, c.loop-i-test.true, c.count-count.ensures.value) in
    let small =
    begin-small c.args.self.now.places
    (lean_of c.args.self.now.lives.forms.items c.args.self.now.lives.live.items) c.args.self.now.metered c.args.code.now c.loop-i.i c.loop-i.insns.items
    c.deref-in-loop-i.result.now
    c.loop-i.starts.items c.loop-i.at c.count-count.ensures.code c.laws.ensures c.layout_laws.ensures.small low
    (c.deref-in-loop-i.ensures.value ∙ c.in_ok-gap.ensures) c.loop-i.invariant in
    omega (arith, small, c.total-at-in-loop-i.ensures)

pub returns : goal.returns
returns c =
    all-made c.args.self.now.places
    (lean_of c.args.self.now.lives.forms.items c.args.self.now.lives.live.items) c.args.self.now.metered c.args.code.now c.loop-i.i c.loop-i.insns.items
    c.loop-i.starts.items c.loop-i.at
    (omega (arith, c.loop-i-test.false, c.loop-i.auto.i-end, c.count-count.ensures.value)) c.loop-i.invariant

pub total-at-requires-in-loop-i-2 : goal.total-at-requires-in-loop-i-2
total-at-requires-in-loop-i-2 c =
    let low : c.loop-i.i ≤ length c.args.code.now = omega (arith, c.loop-i-test.true, c.count-count.ensures.value) in
    let small =
    block-small c.args.self.now.places
    (lean_of c.args.self.now.lives.forms.items c.args.self.now.lives.live.items) c.args.self.now.metered c.args.code.now c.loop-i.i
    c.deref-in-loop-i-3.result.now c.count-count.ensures.code
    c.laws.ensures c.layout_laws.ensures.small low (c.deref-in-loop-i-3.ensures.value ∙ c.in_ok-block.ensures) in
    omega (arith, small)

pub overflow_add-at-in-loop-i : goal.overflow_add-at-in-loop-i
overflow_add-at-in-loop-i c =
    let low : c.loop-i.i ≤ length c.args.code.now = omega (arith, c.loop-i-test.true, c.count-count.ensures.value) in
    let small =
    block-small c.args.self.now.places
    (lean_of c.args.self.now.lives.forms.items c.args.self.now.lives.live.items) c.args.self.now.metered c.args.code.now c.loop-i.i
    c.deref-in-loop-i-3.result.now c.count-count.ensures.code
    c.laws.ensures c.layout_laws.ensures.small low (c.deref-in-loop-i-3.ensures.value ∙ c.in_ok-block.ensures) in
    let begin =
    padded c.args.self.now.places
    (lean_of c.args.self.now.lives.forms.items c.args.self.now.lives.live.items) c.args.self.now.metered c.args.code.now c.loop-i.i c.loop-i.insns.items
    c.deref-in-loop-i.result.now
    c.loop-i.starts.items c.loop-i.at (c.deref-in-loop-i.ensures.value ∙ c.in_ok-gap.ensures) c.loop-i.invariant in
    omega (arith, small, begin, c.total-at-in-loop-i.ensures, c.total-at-in-loop-i-2.ensures)

pub loop-i-preserved : goal.loop-i-preserved
loop-i-preserved c =
    let first : c.loop-i.at + c.total-at-in-loop-i.result ≡ c.loop-i.at + code_length c.in_ok-gap.gap.items =
    ap (λ n. c.loop-i.at + n) (c.total-at-in-loop-i.ensures ∙ ap code_length c.deref-in-loop-i.ensures.value) in
    let sum : c.loop-i.at + c.total-at-in-loop-i.result + c.total-at-in-loop-i-2.result
    ≡ c.loop-i.at + c.total-at-in-loop-i.result + code_length c.in_ok-block.block.items =
    ap (λ n. c.loop-i.at + c.total-at-in-loop-i.result + n) (c.total-at-in-loop-i-2.ensures ∙ ap code_length c.deref-in-loop-i-3.ensures.value) in
    let whole =
    c.in_ok-extend_from_slice-2.ensures.items ∙ ap (λ l. c.extend_from_slice.new.self.items ++ l) c.deref-in-loop-i-4.ensures.value
    ∙ ap (λ l. l ++ c.in_ok-block.block.items)
    (c.in_ok-extend_from_slice.ensures.items ∙ ap (λ l. c.loop-i.insns.items ++ l) c.deref-in-loop-i-2.ensures.value) in
    first-more c.args.self.now.places
    (lean_of c.args.self.now.lives.forms.items c.args.self.now.lives.live.items) c.args.self.now.metered c.args.code.now c.loop-i.i c.loop-i.insns.items
    c.in_ok-gap.gap.items
    c.in_ok-block.block.items c.extend_from_slice-in-loop-i.new.self.items c.loop-i.starts.items c.push.new.self.items c.loop-i.at
    (c.loop-i.at + c.total-at-in-loop-i.result) (c.loop-i.at + c.total-at-in-loop-i.result + c.total-at-in-loop-i-2.result) c.in_ok-gap.ensures first
    c.in_ok-block.ensures whole c.in_ok-push.ensures.items sum c.loop-i.invariant
