use Rattle.std.proofs.Common.{◌≡◌, ℕ, true, cond, List, [], ◌∷◌, length, Some, None, sym, ap, ◌∙◌, subst, arith}
use Rattle.std.proofs.lemmas.List.{get_or_default}
use Rattle.word_ops.specs.Memory.{read}
use Rattle.word_ops.specs.Rights.{allowed}
use Rattle.reference_machine.specs.Arena.{map_of}
use Rattle.reference_machine.proofs.ArenaWords.{read-map_of}
use Rattle.x86_machine.proofs.machine.X86Machine.word_at.Goals as goal

pub returns : goal.returns
returns c =
    let m = c.self.inside in
    let words : List ℕ = m.words.items in
    let e = c.in_ok-place.ensures in
    let len : c.len.result ≡ length words = omega (arith, c.len.ensures, m.words.ok.0) in
    let may : allowed ((m.base, length words) ∷ []) c.args.addr ≡ true = subst (λ n. allowed ((m.base, n) ∷ []) c.args.addr ≡ true) len e.0 in
    let word : c.index.result.now ≡ read (map_of m.base words) c.args.addr =
    c.index.ensures
    ∙ get_or_default words c.in_ok-place.place c.index.result.now 0 (omega (arith, e.1, len))
    ∙ sym (read-map_of words m.base c.in_ok-place.place)
    ∙ ap (read (map_of m.base words)) (sym e.2) in
    rw (← c.self.view_is) (ap Some word ∙ sym (ap (λ b. cond b (Some (read (map_of m.base words) c.args.addr)) None) may))
