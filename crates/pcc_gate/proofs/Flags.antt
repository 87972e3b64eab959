-- The annotated indices lie in the code, so they have flags.
use Rattle.std.proofs.Common.{◌≡◌, ℕ, zero, suc, ◌+◌, ◌/◌, ◌<◌, List, [], ◌∷◌, map, length, get_or}
use Rattle.std.proofs.Common.{slice_index, sym, subst, arith}
use Rattle.alpha_words.specs.declared.insn.Insn.{Insn}
use Rattle.alpha_cfg.specs.CodeBytes.{EncodesCode}
use Rattle.alpha_cfg.specs.Cuts.{AreFlags}
use Rattle.alpha_cfg.proofs.Deciding.{flags_are}
use Rattle.term_table.specs.Tree.{Tree}
use Rattle.proof_container.specs.Contents.{Contents}
use Rattle.proof_container.specs.Encoding.{IsContents, AreRising}
use Rattle.pcc_gate.specs.First.{marks_of}
use Rattle.word_ops.specs.declared.Profile.{Profile}

pub key_below : (ps : List (ℕ × Tree)) (low words k d : ℕ) → AreRising low words ps → k < length (map (λ p. p.0) ps) → get_or (map (λ p. p.0) ps) k d < words
key_below [] low words k d r h = absurd (omega (arith, h))
key_below (p ∷ ps) low words zero d r h = r.1
key_below (p ∷ ps) low words (suc k) d r h = key_below ps (suc p.0) words k d r.2 (omega (arith, h))

pub key_rises : (ps : List (ℕ × Tree)) (low words k : ℕ) → AreRising low words ps → k + 1 < length (map (λ p. p.0) ps) → slice_index (map (λ p. p.0) ps) k < slice_index (map (λ p. p.0) ps) (k + 1)
key_rises [] low words k r h = absurd (omega (arith, h))
key_rises (p ∷ []) low words k r h = absurd (omega (arith, h))
key_rises (p ∷ q ∷ ps) low words zero r h = omega (arith, r.2.0)
key_rises (p ∷ q ∷ ps) low words (suc k) r h =
    let one : suc k + 1 ≡ suc (k + 1) = omega arith in
    let keys : List ℕ = map (λ (z : ℕ × Tree). z.0) (p ∷ q ∷ ps) in
    subst (λ j. slice_index keys (suc k) < slice_index keys j) (sym one) (key_rises (q ∷ ps) (suc p.0) words k r.2 (omega (arith, h)))

-- the annotated indices lie in the code
pub annotated_flags : (p : Profile) (c : Contents) (code : List Insn) → IsContents c
    → EncodesCode p c.code code → AreFlags (map (λ p. p.0) c.invs) (length code) (marks_of c code)
annotated_flags p c code s encoded =
    let words : ℕ = length c.code / 4 in
    let count : words ≡ length code = omega (arith, encoded.whole) in
    flags_are (map (λ p. p.0) c.invs) (length code)
    (λ j has. subst (λ k. j < k) count (subst (λ k. k < words) has.2 (key_below c.invs 0 words has.0 j s.rising has.1)))
