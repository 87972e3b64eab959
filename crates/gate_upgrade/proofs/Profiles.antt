-- The second profile has what the first has, and reads it alike.
use Rattle.std.proofs.Common.{◌≡◌, ℕ, true, List, Ok, refl, arith}
use Rattle.std.proofs.lemmas.Bool.{leb-true, le-leb, ltb-true, lt-ltb}
use Rattle.word_ops.specs.Operators.{op_number, op_count, profile_number}
use Rattle.alpha_words.specs.MemoryOps.{memory_since}
use Rattle.word_ops.specs.declared.Profile.TheVariants.{One, Two}
use Rattle.alpha_words.specs.declared.insn.Insn.{Insn}
use Rattle.alpha_words.specs.declared.insn.Format.{Format}
use Rattle.alpha_words.specs.declared.insn.Format.TheVariants as F
use Rattle.alpha_words.specs.Formats.{format_of}
use Rattle.alpha_words.specs.Encoding.{has_format, Encodes}
use Rattle.alpha_words.specs.Decoding.{decoded}
use Rattle.alpha_words.proofs.Words.{decoded-Encodes}
use Rattle.alpha_cfg.specs.CodeBytes.{EncodesCode}

-- the second profile has what the first has
has-later : (f : Format) → has_format One f ≡ true → has_format Two f ≡ true
has-later (F.Memory op ra rb disp) h =
    let first = leb-true (profile_number (memory_since op)) 1 h in
    le-leb (profile_number (memory_since op)) 2 (omega (arith, first))
has-later (F.Operate op ra rhs rc) h =
    let first = ltb-true (op_number op) (op_count One) h in
    lt-ltb (op_number op) (op_count Two) (omega (arith, first))
has-later (F.Branch cond ra disp) h = refl
has-later (F.Br disp) h = refl
has-later F.Ret h = refl

pub encodes-later : (w : ℕ) (i : Insn) → Encodes One w i → Encodes Two w i
encodes-later w i h = (has-later (format_of i) h.0, h.1)

pub decoded-later : (w : ℕ) (i : Insn) → decoded One w ≡ Ok i → decoded Two w ≡ Ok i
decoded-later w i e =
    (decoded-Encodes Two w i).1 (encodes-later w i ((decoded-Encodes One w i).0 e))

pub code-later : (bytes : List ℕ) (code : List Insn) → EncodesCode One bytes code
    → EncodesCode Two bytes code
code-later bytes code s = record {
  whole = s.whole;
  first = record {
    count = s.first.count;
    each = λ i insn at. encodes-later _ insn (s.first.each i insn at);
  };
}
