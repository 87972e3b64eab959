-- A return with its hint spells a return.
use Rattle.std.proofs.Common.{◌≡◌, ℕ, ◌≤◌, Bool, true, false, cond, ◌==◌, List, [], ◌∷◌, ◌++◌, length, inl, inr, refl, sym, ap, arith, length-append}
use Rattle.std.specs.Prelude.{codes, decimal, pos}
use Rattle.std.proofs.lemmas.Fmt.{decimal_is_IsNumeral}
use Rattle.word_ops.specs.declared.Profile.{Profile}
use Rattle.alpha_words.specs.declared.insn.Insn.{Insn}
use Rattle.alpha_words.specs.declared.insn.Insn.TheVariants as I
use Rattle.text_tokens.specs.declared.tokens.Class.TheVariants as C
use Rattle.text_tokens.specs.Tokens.{Token, Mark, Lexeme, is_ordinary, IsLexeme, Consists, blank, mark, lexeme}
use Rattle.text_tokens.specs.Registers.{registers, IsRegister}
use Rattle.asm_text.specs.declared.marks.Punct.{Punct}
use Rattle.asm_text.specs.declared.marks.Punct.TheVariants as M
use Rattle.asm_text.specs.Marks.{source_class}
use Rattle.asm_text.specs.Insns.{SourceInsn, Plain, SpellsInsn}
use Rattle.asm_text.specs.Statements.{before_comment, are_printable}
use Rattle.asm_print.specs.Printing.{insn_text, source_insn}
use Rattle.asm_print.proofs.Words.{ret_word, displacement_word}
use Rattle.asm_print.proofs.Reading.{word_alone}
use Rattle.asm_print.specs.Listing.{hinted_text}
use Rattle.asm_print.proofs.Characters.{are_clean, clean-append, decimal_clean, decimal_short, clean_printable, clean_whole}

-- the text spells the instruction, and stands on a line before a comment
pub record IsInsnText (profile : Profile) (insn : SourceInsn) (text : List ℕ) : Type 0 where
  pub tokens : List (Token Punct)
  pub consists : Consists source_class text tokens
  pub spelled : SpellsInsn profile insn tokens
  pub printable : are_printable text ≡ true
  pub whole : before_comment text ≡ text
  pub short : length text ≤ 40

-- ---- the lexemes and marks of `ret $31,($26),`

thirty_one : IsLexeme source_class (codes "$31")
unfolding source_class
thirty_one = record { some = omega arith; whole = (refl, (refl, (refl, tt))) }

twenty_six : IsLexeme source_class (codes "$26")
unfolding source_class
twenty_six = record { some = omega arith; whole = (refl, (refl, (refl, tt))) }

blank_class : source_class 32 ≡ C.Blank
unfolding source_class
blank_class = refl

comma_class : source_class 44 ≡ C.Mark M.Comma
unfolding source_class
comma_class = refl

open_class : source_class 40 ≡ C.Mark M.Open
unfolding source_class
open_class = refl

close_class : source_class 41 ≡ C.Mark M.Close
unfolding source_class
close_class = refl

is_thirty_one : IsRegister 31 (codes "$31")
unfolding registers
is_thirty_one = ((codes "31", codes "zero"), refl, inl refl)

is_twenty_six : IsRegister 26 (codes "$26")
unfolding registers
is_twenty_six = ((codes "26", codes "ra"), refl, inl refl)

-- ---- all of them

-- a return's operands, the last of which is the hint
abbrev operands_of : ℕ → List (Token Punct)
operands_of hint =
    Lexeme (codes "$31") ∷ Mark M.Comma ∷ Mark M.Open ∷ Lexeme (codes "$26") ∷ Mark M.Close
    ∷ Mark M.Comma ∷ Lexeme (decimal hint) ∷ []

operands_consist : (hint : ℕ) → hint ≤ 16383
    → Consists source_class (codes "$31,($26)," ++ decimal hint) (operands_of hint)
operands_consist hint h =
    let number = (word_alone 6 (decimal hint) (displacement_word (pos hint) (omega arith))).consists
    in
    lexeme thirty_one (ap is_ordinary comma_class)
    (mark comma_class
    (mark open_class
    (lexeme twenty_six (ap is_ordinary close_class) (mark close_class (mark comma_class number)))))

ret_consists : (hint : ℕ) → hint ≤ 16383
    → Consists source_class (codes "ret $31,($26)," ++ decimal hint)
    (Lexeme (codes "ret") ∷ operands_of hint)
ret_consists hint h =
    lexeme ret_word.lexeme (ap is_ordinary blank_class)
    (blank blank_class (operands_consist hint h))

ret_spelled : (profile : Profile) (hint : ℕ) → hint ≤ 16383
    → SpellsInsn profile (Plain I.Ret) (Lexeme (codes "ret") ∷ operands_of hint)
ret_spelled profile hint h =
    let d = decimal_is_IsNumeral hint (omega arith) in (
      operands_of hint,
      inr (
        codes "$31",
        codes "$26",
        decimal hint,
        (false, hint),
        hint,
        is_thirty_one,
        is_twenty_six,
        inl (refl, inl (d.0, sym d.1)),
        (inl refl, refl, omega arith),
        refl,
      ),
      refl,
    )

ret_text : (profile : Profile) (hint : ℕ) → hint ≤ 16383
    → IsInsnText profile (Plain I.Ret) (codes "ret $31,($26)," ++ decimal hint)
ret_text profile hint h =
    let text = codes "ret $31,($26)," ++ decimal hint in
    let clean : are_clean text ≡ true =
    clean-append (codes "ret $31,($26),") (decimal hint) refl (decimal_clean hint (omega arith)) in
    record {
      tokens = Lexeme (codes "ret") ∷ operands_of hint;
      consists = ret_consists hint h;
      spelled = ret_spelled profile hint h;
      printable = clean_printable text clean;
      whole = clean_whole text clean;
      short =
          omega (
            arith,
            length-append (codes "ret $31,($26),") (decimal hint),
            decimal_short hint (omega arith),
          );
    }

-- the instruction's text with a hint, where its text without one spells it
pub hinted : (profile : Profile) (i : ℕ) (insn : Insn) (hint : ℕ) → hint ≤ 16383
    → IsInsnText profile (source_insn i insn) (insn_text i insn)
    → IsInsnText profile (source_insn i insn) (hinted_text i insn hint)
hinted profile i I.Ret hint h s = by (hint == 1)
  where
    by : (t : Bool)
        → IsInsnText profile (Plain I.Ret)
        (cond t (codes "ret") (codes "ret $31,($26)," ++ decimal hint))
    by true = s
    by false = ret_text profile hint h
hinted profile i _ hint h s = s
