-- The words that are written for code encode it.
use Rattle.std.proofs.Common.{◌≡◌, ℕ, zero, suc, ◌<◌, List, [], ◌∷◌, ◌++◌, slice_get, Some, Ok, refl, sym, subst, arith}
use Rattle.std.specs.Int.{w32, to_le_bytes}
use Rattle.std.specs.List.{AllByRecursion}
use Rattle.alpha_words.specs.declared.insn.Insn.{Insn}
use Rattle.alpha_words.specs.declared.insn.Format.{Format}
use Rattle.alpha_words.specs.declared.insn.Format.TheVariants as F
use Rattle.alpha_words.specs.MemoryOps.{memory_kind}
use Rattle.alpha_words.specs.Formats.{format_of}
use Rattle.alpha_words.specs.Encoding.{Encodes, EncodesFormat}
use Rattle.alpha_words.specs.Lawful.{FitsFormat, HasFormat}
use Rattle.alpha_words.proofs.Words.{first_register-below}
use Rattle.alpha_cfg.specs.CodeBytes.{code_word_at, EncodesCode}
use Rattle.alpha_cfg.specs.CodeDecoding.{decoded_code}
use Rattle.alpha_cfg.specs.Flow.{AreInsns, IsCode, AreOfProfile}
use Rattle.alpha_cfg.proofs.Readings.{decoded_code-ok}
use Rattle.term_table.specs.Bytes.{IsBytes}
use Rattle.pcc_asm.specs.Words.{format_word, insn_word, code_bytes}
use Rattle.pcc_asm.proofs.Ranges.{HasFormatRange, HasRange}
use Rattle.pcc_asm.proofs.Written.{bytes_length, word_at}
use Rattle.word_ops.specs.declared.Profile.{Profile}

-- ---- each instruction

has-range : (w : ℕ) (f : Format) → EncodesFormat w f → HasFormatRange f
has-range w (F.Memory op ra rb disp) h = (first_register-below (memory_kind op) ra h.0, h.1, h.2)
has-range w (F.Operate op ra rhs rc) h = (h.0, h.1, h.2.0)
has-range w (F.Branch c ra disp) h = h.0
has-range w (F.Br disp) h = tt
has-range w F.Ret h = tt

fits-format : (w : ℕ) (f : Format) → EncodesFormat w f → FitsFormat f
fits-format w (F.Branch c ra disp) h = h.1
fits-format w (F.Br disp) h = h.0
fits-format w _ h = tt

-- the word that is written for what has a format encodes it, where some word does
encodes-written : (w : ℕ) (f : Format) → EncodesFormat w f → EncodesFormat (format_word f) f
encodes-written w (F.Memory op ra rb disp) h = (h.0, h.1, h.2, refl)
encodes-written w (F.Operate op ra rhs rc) h = (h.0, h.1, h.2, refl)
encodes-written w (F.Branch c ra disp) h = (h.0, h.1, refl)
encodes-written w (F.Br disp) h = (h.0, refl)
encodes-written w F.Ret h = (1, omega arith, refl)

all-insns : (P : Format → Type 0) → ((w : ℕ) (f : Format) → EncodesFormat w f → P f)
    → (code : List Insn) → AreInsns code → AllByRecursion (λ insn. P (format_of insn)) code
all-insns P g [] h = tt
all-insns P g (x ∷ code) h =
    let first = h 0 x refl in (g first.0 (format_of x) first.1, all-insns P g code (λ i insn e. h (suc i) insn e))

-- the word at an index encodes the instruction there
word-encodes : (p : Profile) (code : List Insn) → IsCode code → AreOfProfile p code → (k : ℕ) (insn : Insn) → slice_get code k ≡ Some insn → Encodes p (code_word_at (code_bytes code) k) insn
word-encodes p code is has k insn e =
    let word = is.encoded k insn e in
    let ranges : AllByRecursion HasRange code = all-insns HasFormatRange has-range code is.encoded in
    let formats : AllByRecursion HasFormat code = all-insns FitsFormat fits-format code is.encoded in
    let same = word_at code k insn ranges formats e in
    subst (λ w. Encodes p w insn) (sym same) (has k insn e, encodes-written word.0 (format_of insn) word.1)

pub words-encode : (p : Profile) (code : List Insn) → IsCode code → AreOfProfile p code → EncodesCode p (code_bytes code) code
words-encode p code is has = record { whole = sym (bytes_length code); first = record { count = refl; each = word-encodes p code is has } }

pub words-read : (p : Profile) (code : List Insn) → IsCode code → AreOfProfile p code → decoded_code p (code_bytes code) ≡ Ok code
words-read p code is has = sym (decoded_code-ok p (code_bytes code) code (words-encode p code is has) is)

-- ---- bytes

abbrev AreBelow : List ℕ → Type 0
AreBelow bytes = AllByRecursion (λ b. b < 256) bytes

below-append : (l m : List ℕ) → AreBelow l → AreBelow m → AreBelow (l ++ m)
below-append [] m h g = g
below-append (b ∷ l) m h g = (h.0, below-append l m h.1 g)

word-bytes : (w : ℕ) → AreBelow (to_le_bytes w32 w)
word-bytes w = (omega arith, (omega arith, (omega arith, (omega arith, tt))))

code-below : (code : List Insn) → AreBelow (code_bytes code)
unfolding code_bytes
code-below [] = tt
code-below (x ∷ code) = below-append (to_le_bytes w32 (insn_word x)) (code_bytes code) (word-bytes (insn_word x)) (code-below code)

below-bytes : (bytes : List ℕ) → AreBelow bytes → IsBytes bytes
below-bytes [] h i = omega arith
below-bytes (b ∷ bytes) h zero = h.0
below-bytes (b ∷ bytes) h (suc i) = below-bytes bytes h.1 i

pub words-bytes : (code : List Insn) → IsBytes (code_bytes code)
words-bytes code = below-bytes (code_bytes code) (code-below code)
