use Rattle.std.proofs.Common.{◌≡◌, ◌<◌, ℕ, List, ◌++◌, length, get_or, slice_index, ap, ◌∙◌, subst, arith}
use Rattle.x86_words.specs.Encoding.{bytes_of}
use Rattle.native_code.specs.declared.insn.NativeInsn.{NativeInsn}
use Rattle.native_translator.proofs.Placing.{count-below, one-placed}
use Rattle.native_translator.proofs.layout.Layout.bytes.Goals as goal

pub overflow_cast-at : goal.overflow_cast-at
overflow_cast-at c =
    let starts : ℕ → ℕ = slice_index c.args.self.now.starts.items in
    let below = count-below starts c.args.self.now.insns.items c.loop-insn.insn-index c.loop-insn.out.items c.loop-insn.invariant in
    omega (arith, below, c.len-at.ensures, c.loop-insn.out.ok.0, c.requires.short)

pub placed-requires-clause-small : goal.placed-requires-clause-small
placed-requires-clause-small c =
    let starts : ℕ → ℕ = slice_index c.args.self.now.starts.items in
    let below = count-below starts c.args.self.now.insns.items c.loop-insn.insn-index c.loop-insn.out.items c.loop-insn.invariant in
    omega (arith, below, c.len-at.ensures, c.loop-insn.out.ok.0, c.requires.short)

pub loop-insn-preserved : goal.loop-insn-preserved
loop-insn-preserved c =
    let starts : ℕ → ℕ = slice_index c.args.self.now.starts.items in
    let insns : List NativeInsn = c.args.self.now.insns.items in
    let n : ℕ = c.loop-insn.insn-index in
    let count : c.len-at.result ≡ length c.loop-insn.out.items = omega (arith, c.len-at.ensures, c.loop-insn.out.ok.0) in
    let low : n < length insns = subst (λ l. n < length l) c.deref-insn-items.ensures.value c.loop-insn-test.true in
    let item : c.insn-item.result ≡ get_or insns n c.insn-item.result =
    c.insn-item.is ∙ ap (λ l. get_or l n c.insn-item.result) c.deref-insn-items.ensures.value in
    one-placed starts insns n c.len-at.result c.insn-item.result c.loop-insn.out.items c.encode.new.out.items low item count c.loop-insn.invariant
    (c.in_ok-encode.ensures.exact ∙ ap (λ i. c.loop-insn.out.items ++ bytes_of i) c.placed.ensures)
