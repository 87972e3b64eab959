-- Bytes that encode code, each return as it is written, are those that are written for it.
use Rattle.std.proofs.Common.{◌≡◌, ℕ, zero, suc, ◌+◌, ◌*◌, ◌<◌, List, [], ◌∷◌, ◌++◌, length, get_or, slice_get, Some, refl, sym, ap, ◌∙◌, arith}
use Rattle.std.specs.Prelude.{slice_index}
use Rattle.std.specs.Int.{w32, to_le_bytes}
use Rattle.std.proofs.lemmas.Nat.{le_bytes_4}
use Rattle.word_ops.specs.declared.Profile.{Profile}
use Rattle.term_table.specs.Bytes.{IsBytes}
use Rattle.alpha_words.specs.declared.insn.Insn.{Insn}
use Rattle.alpha_cfg.specs.CodeBytes.{code_word_at, EncodesCode}
use Rattle.pcc_asm.specs.Words.{insn_word, code_bytes}
use Rattle.pcc_asm.proofs.Written.{word_is}
use Rattle.view_container.specs.Containers.{HasWrittenReturns}

-- ---- one word

four_bytes : (a b c d : ℕ) → a < 256 → b < 256 → c < 256 → d < 256
    → (i : ℕ) → get_or (a ∷ b ∷ c ∷ d ∷ []) i 0 < 256
four_bytes a b c d h j k l zero = h
four_bytes a b c d h j k l (suc zero) = j
four_bytes a b c d h j k l (suc (suc zero)) = k
four_bytes a b c d h j k l (suc (suc (suc zero))) = l
four_bytes a b c d h j k l (suc (suc (suc (suc i)))) = omega arith

word_written : (a b c d w : ℕ) → a < 256 → b < 256 → c < 256 → d < 256
    → a + b * 256 + c * 65536 + d * 16777216 ≡ w → a ∷ b ∷ c ∷ d ∷ [] ≡ to_le_bytes w32 w
word_written a b c d w h j k l e =
    let bytes = four_bytes a b c d h j k l in
    sym (le_bytes_4 (a ∷ b ∷ c ∷ d ∷ []) w refl bytes (omega (arith, e)))

word_behind : (a b c d i : ℕ) (rest : List ℕ)
    → code_word_at (a ∷ b ∷ c ∷ d ∷ rest) (suc i) ≡ code_word_at rest i
word_behind a b c d i rest =
    let all : ℕ → ℕ = λ n. slice_index (a ∷ b ∷ c ∷ d ∷ rest) n in
    let w : 4 * suc i ≡ suc (suc (suc (suc (4 * i)))) = omega arith in
    let x : 4 * suc i + 1 ≡ suc (suc (suc (suc (4 * i + 1)))) = omega arith in
    let y : 4 * suc i + 2 ≡ suc (suc (suc (suc (4 * i + 2)))) = omega arith in
    let z : 4 * suc i + 3 ≡ suc (suc (suc (suc (4 * i + 3)))) = omega arith in
    omega (arith, ap all w, ap all x, ap all y, ap all z)

-- ---- all of them

-- the words are those that are written for the instructions
abbrev HasWords : List ℕ → List Insn → Type 0
HasWords bytes code =
    (i : ℕ) (insn : Insn) → slice_get code i ≡ Some insn → code_word_at bytes i ≡ insn_word insn

bytes_are : (code : List Insn) (bytes : List ℕ) → 4 * length code ≡ length bytes
    → IsBytes bytes → HasWords bytes code → bytes ≡ code_bytes code
unfolding code_bytes
bytes_are [] [] n h e = refl
bytes_are [] (b ∷ bytes) n h e = absurd (omega arith)
bytes_are (x ∷ code) [] n h e = absurd (omega arith)
bytes_are (x ∷ code) (a ∷ []) n h e = absurd (omega arith)
bytes_are (x ∷ code) (a ∷ b ∷ []) n h e = absurd (omega arith)
bytes_are (x ∷ code) (a ∷ b ∷ c ∷ []) n h e = absurd (omega arith)
bytes_are (x ∷ code) (a ∷ b ∷ c ∷ d ∷ rest) n h e =
    let w = insn_word x in
    let first = word_written a b c d w (h 0) (h 1) (h 2) (h 3) (e 0 x refl) in
    let words : HasWords rest code =
    λ i insn s. sym (word_behind a b c d i rest) ∙ e (suc i) insn s in
    let more = bytes_are code rest (omega arith) (λ i. h (suc (suc (suc (suc i))))) words in
    ap (λ l. l ++ rest) first ∙ ap (λ l. to_le_bytes w32 w ++ l) more

pub words_are : (p : Profile) (bytes : List ℕ) (code : List Insn) → IsBytes bytes
    → EncodesCode p bytes code → HasWrittenReturns bytes code → bytes ≡ code_bytes code
words_are p bytes code h encodes returns =
    let words : HasWords bytes code =
    λ i insn e. word_is (code_word_at bytes i) insn (encodes.first.each i insn e).1
    (λ r. returns i (e ∙ ap Some r)) in
    bytes_are code bytes encodes.whole h words
