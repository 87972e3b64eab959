use Rattle.std.proofs.Common.{◌≡◌, ℕ, true, List, [], ◌∷◌, length, subst, arith}
use Rattle.word_ops.specs.Rights.{allowed}
use Rattle.x86_machine.proofs.Spans.{stored}
use Rattle.x86_machine.proofs.machine.X86Machine.store.Goals as goal

pub returns : goal.returns
returns c =
    let m = c.self.inside in
    let words : List ℕ = m.words.items in
    let e = c.in-Some.ensures in
    let len : c.len.result ≡ length words = omega (arith, c.len.ensures, m.words.ok.0) in
    let may : allowed ((m.base, length words) ∷ []) c.args.addr ≡ true = subst (λ n. allowed ((m.base, n) ∷ []) c.args.addr ≡ true) len e.0 in
    rw (← c.self.view_is) (stored m.at c.args.next m.regs m.flags m.base words c.in-Some.place c.args.addr c.args.word (omega (arith, e.1, len)) e.2 may)
