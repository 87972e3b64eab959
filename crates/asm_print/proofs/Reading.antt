-- Texts of tokens, read from their end. What is said of such a text is that of a line without a
-- comment.
use Rattle.std.proofs.Common.{◌≡◌, ⊎_elim, ℕ, suc, ◌+◌, ◌<◌, ◌≤◌, true, false, List, [], ◌∷◌, ◌++◌, length, inl, inr, refl, ap, ◌∙◌, subst, arith}
use Rattle.std.specs.Prelude.{◌==◌}
use Rattle.std.specs.List.{AllByRecursion}
use Rattle.std.proofs.lemmas.Bool.{and_from, or_right, eqb-true, le-leb, cond-false, false_from_ne_true}
use Rattle.std.proofs.lemmas.List.{append-nil, length-append}
use Rattle.text_tokens.specs.Lines.{IsLine}
use Rattle.text_tokens.specs.declared.tokens.Class.TheVariants as C
use Rattle.text_tokens.specs.Tokens.{Token, Mark, Lexeme, is_ordinary, goes_on, Consists, nothing, blank, mark, lexeme}
use Rattle.asm_text.specs.declared.marks.Punct.{Punct}
use Rattle.asm_text.specs.declared.marks.Punct.TheVariants as M
use Rattle.asm_text.specs.Marks.{source_class}
use Rattle.asm_text.specs.Statements.{is_printable, are_printable, before_comment}
use Rattle.asm_print.proofs.Words.{IsText, IsWord}

-- the text consists of these tokens, and stands on a line without a comment, at most so long
pub record Reads (n : ℕ) (text : List ℕ) (ts : List (Token Punct)) : Type 0 where
  pub consists : Consists source_class text ts
  pub bytes : AllByRecursion IsText text
  pub short : length text ≤ n

-- ---- marks

comma_class : source_class 44 ≡ C.Mark M.Comma
unfolding source_class
comma_class = refl

open_class : source_class 40 ≡ C.Mark M.Open
unfolding source_class
open_class = refl

close_class : source_class 41 ≡ C.Mark M.Close
unfolding source_class
close_class = refl

blank_class : source_class 32 ≡ C.Blank
unfolding source_class
blank_class = refl

-- ---- more in front of such a text

both : (P : ℕ → Type 0) (xs ys : List ℕ) → AllByRecursion P xs → AllByRecursion P ys
    → AllByRecursion P (xs ++ ys)
both P [] ys h g = g
both P (x ∷ xs) ys h g = (h.0, both P xs ys h.1 g)

-- nothing
none : Reads 0 [] []
none = record { consists = nothing; bytes = tt; short = omega arith }

module _ (n : ℕ) (text : List ℕ) (ts : List (Token Punct)) (h : Reads n text ts) where
  -- a lexeme, where none goes on behind it
  word_before : (k : ℕ) (w : List ℕ) → IsWord k w → goes_on source_class text ≡ false
      → Reads (k + n) (w ++ text) (Lexeme w ∷ ts)
  word_before k w a e = record {
    consists = lexeme a.lexeme e h.consists;
    bytes = both IsText w text a.bytes h.bytes;
    short = omega (arith, length-append w text, a.short, h.short);
  }

  -- a mark
  mark_before : (b : ℕ) (m : Punct) → source_class b ≡ C.Mark m → 35 < b → b < 127
      → Reads (suc n) (b ∷ text) (Mark m ∷ ts)
  mark_before b m e low high = record {
    consists = mark e h.consists;
    bytes = (inr (low, high), h.bytes);
    short = omega (arith, h.short);
  }

  -- a blank
  blank_before : Reads (suc n) (32 ∷ text) ts
  blank_before = record {
    consists = blank blank_class h.consists;
    bytes = (inl refl, h.bytes);
    short = omega (arith, h.short);
  }

-- a lexeme alone
pub word_alone : (k : ℕ) (w : List ℕ) → IsWord k w → Reads k w (Lexeme w ∷ [])
word_alone k w a = record {
  consists =
      subst (λ l. Consists source_class l (Lexeme w ∷ [])) (append-nil w)
      (lexeme a.lexeme refl nothing);
  bytes = a.bytes;
  short = a.short;
}

-- a lexeme before one in parentheses
pub before_parens : (j k : ℕ) (v w : List ℕ) → IsWord j v → IsWord k w
    → Reads (j + suc (k + 1)) (v ++ (40 ∷ (w ++ (41 ∷ []))))
    (Lexeme v ∷ Mark M.Open ∷ Lexeme w ∷ Mark M.Close ∷ [])
before_parens j k v w a b =
    let end = mark_before 0 [] [] none 41 M.Close close_class (omega arith) (omega arith) in
    let inner = word_before 1 (41 ∷ []) _ end k w b (ap is_ordinary close_class) in
    let all = mark_before (k + 1) _ _ inner 40 M.Open open_class (omega arith) (omega arith) in
    word_before (suc (k + 1)) (40 ∷ (w ++ (41 ∷ []))) _ all j v a (ap is_ordinary open_class)

module _ {n k : ℕ} {w text : List ℕ} {ts : List (Token Punct)} (a : IsWord k w)
    (h : Reads n text ts) where
  -- a lexeme and a comma
  pub with_comma : Reads (k + suc n) (w ++ (44 ∷ text)) (Lexeme w ∷ Mark M.Comma ∷ ts)
  with_comma =
      let behind = mark_before n text ts h 44 M.Comma comma_class (omega arith) (omega arith) in
      word_before (suc n) (44 ∷ text) (Mark M.Comma ∷ ts) behind k w a (ap is_ordinary comma_class)

  -- a lexeme and a blank
  pub with_blank : Reads (k + suc n) (w ++ (32 ∷ text)) (Lexeme w ∷ ts)
  with_blank =
      let behind = blank_before n text ts h in
      word_before (suc n) (32 ∷ text) ts behind k w a (ap is_ordinary blank_class)

-- the bound may be larger
pub longer : (m n : ℕ) (text : List ℕ) (ts : List (Token Punct)) → m ≤ n → Reads m text ts
    → Reads n text ts
longer m n text ts l h =
    record { consists = h.consists; bytes = h.bytes; short = omega (arith, h.short, l) }

-- ---- what such a text is

byte_printable : (b : ℕ) → IsText b → is_printable b ≡ true
byte_printable b h =
    let low : 32 ≤ b = ⊎_elim (λ e. omega (arith, e)) (λ g. omega (arith, g.0)) h in
    let high : b ≤ 126 = ⊎_elim (λ e. omega (arith, e)) (λ g. omega (arith, g.1)) h in
    or_right (b == 9) _ (and_from _ _ (le-leb 32 b low) (le-leb b 126 high))

pub text_printable : (bs : List ℕ) → AllByRecursion IsText bs → are_printable bs ≡ true
text_printable [] h = refl
text_printable (b ∷ bs) h =
    and_from (is_printable b) (are_printable bs) (byte_printable b h.0) (text_printable bs h.1)

-- it isn't this byte
other_byte : (k b : ℕ) → k < 36 → (k ≡ 32 → ⊥) → IsText b → (b == k) ≡ false
other_byte k b low other h =
    false_from_ne_true (b == k) (λ e.
    let s = eqb-true b k e in
    ⊎_elim (λ g. other (omega (arith, s, g))) (λ g. absurd (omega (arith, s, g.0))) h)

pub text_whole : (bs : List ℕ) → AllByRecursion IsText bs → before_comment bs ≡ bs
text_whole [] h = refl
text_whole (b ∷ bs) h =
    cond-false (b == 35) _ _ (other_byte 35 b (omega arith) (λ e. omega (arith, e)) h.0)
    ∙ ap (λ l. b ∷ l) (text_whole bs h.1)

pub text_line : (bs : List ℕ) → AllByRecursion IsText bs → IsLine bs
text_line [] h = tt
text_line (b ∷ bs) h =
    (other_byte 10 b (omega arith) (λ e. omega (arith, e)) h.0, text_line bs h.1)
