-- Bytes that a line may have before its comment.
use Rattle.std.proofs.Common.{◌≡◌, ℕ, ◌^◌, ◌<◌, ◌≤◌, Bool, true, false, cond, List, [], ◌∷◌, ◌++◌, length, refl, ap, ◌∙◌, ⊎_elim, arith}
use Rattle.std.specs.Prelude.{◌&&◌, not, ◌==◌, nat_le, decimal}
use Rattle.std.specs.Str.Parse.{AllDigits}
use Rattle.std.specs.List.{list_all}
use Rattle.std.proofs.lemmas.Bool.{and_parts, and_from, or_cases, or_right, eqb-true, leb-true, le-leb, ne_eqb}
use Rattle.std.proofs.lemmas.List.Folds.{list_all-append}
use Rattle.std.proofs.lemmas.Str.Parse.{digit_from_value}
use Rattle.std.proofs.lemmas.Fmt.{decimal_is_IsNumeral, length-decimal-le}
use Rattle.text_tokens.specs.Lines.{IsLine, ends_in_cr}
use Rattle.asm_text.specs.Statements.{before_comment, is_printable, are_printable}

-- a tab, or from blank to tilde, and no `#`
abbrev pub is_clean : ℕ → Bool
is_clean b = is_printable b && not (b == 35)

abbrev pub are_clean : List ℕ → Bool
are_clean w = list_all is_clean w

pub clean-append : (a b : List ℕ) → are_clean a ≡ true → are_clean b ≡ true
    → are_clean (a ++ b) ≡ true
clean-append a b h g = list_all-append is_clean a b ∙ and_from (are_clean a) (are_clean b) h g

-- from `$` to the tilde
pub clean_byte : (b : ℕ) → 35 < b → b ≤ 126 → is_clean b ≡ true
clean_byte b low high =
    and_from (is_printable b) (not (b == 35))
    (or_right (b == 9) (nat_le 32 b && nat_le b 126)
    (and_from (nat_le 32 b) (nat_le b 126) (le-leb 32 b (omega arith)) (le-leb b 126 high)))
    (ap not (ne_eqb b 35 (λ e. absurd (omega arith))))

digits_clean : (ds : List ℕ) → AllDigits 10 ds → are_clean ds ≡ true
digits_clean [] h = refl
digits_clean (c ∷ cs) h = let r = digit_from_value c h.0 in
    and_from (is_clean c) (are_clean cs) (clean_byte c (omega (arith, r.0)) (omega (arith, r.1)))
    (digits_clean cs h.1)

pub decimal_clean : (n : ℕ) → n < 2 ^ 64 → are_clean (decimal n) ≡ true
decimal_clean n h = digits_clean (decimal n) (decimal_is_IsNumeral n h).0.1

pub decimal_short : (n : ℕ) → n < 2 ^ 64 → length (decimal n) ≤ 20
decimal_short n h = length-decimal-le 20 n (omega arith) (omega arith) h

pub clean_printable : (w : List ℕ) → are_clean w ≡ true → are_printable w ≡ true
clean_printable [] h = refl
clean_printable (b ∷ bs) h =
    let p = and_parts (is_clean b) (are_clean bs) h in
    and_from (is_printable b) (are_printable bs) (and_parts (is_printable b) (not (b == 35)) p.0).0
    (clean_printable bs p.1)

pub printable-append : (a b : List ℕ) → are_printable a ≡ true → are_printable b ≡ true
    → are_printable (a ++ b) ≡ true
printable-append [] b h g = g
printable-append (x ∷ xs) b h g =
    let p = and_parts (is_printable x) (are_printable xs) h in
    and_from (is_printable x) (are_printable (xs ++ b)) p.0 (printable-append xs b p.1 g)

-- ---- comments

whole_by : (x : ℕ) (xs : List ℕ) (t : Bool) → not t ≡ true → before_comment xs ≡ xs
    → cond t [] (x ∷ before_comment xs) ≡ x ∷ xs
whole_by x xs true h e = cc
whole_by x xs false h e = ap (λ l. x ∷ l) e

pub clean_whole : (w : List ℕ) → are_clean w ≡ true → before_comment w ≡ w
clean_whole [] h = refl
clean_whole (b ∷ bs) h =
    let p = and_parts (is_clean b) (are_clean bs) h in
    whole_by b bs (b == 35) (and_parts (is_printable b) (not (b == 35)) p.0).1 (clean_whole bs p.1)

before_by : (x : ℕ) (xs b : List ℕ) (t : Bool) → cond t [] (x ∷ before_comment xs) ≡ x ∷ xs
    → (before_comment xs ≡ xs → before_comment (xs ++ b) ≡ xs ++ before_comment b)
    → cond t [] (x ∷ before_comment (xs ++ b)) ≡ x ∷ (xs ++ before_comment b)
before_by x xs b true e h = cc
before_by x xs b false e h = let tail : before_comment xs ≡ xs = cc in ap (λ l. x ∷ l) (h tail)

-- a text without a comment is read past
pub before-append : (a b : List ℕ) → before_comment a ≡ a
    → before_comment (a ++ b) ≡ a ++ before_comment b
before-append [] b e = refl
before-append (x ∷ xs) b e = before_by x xs b (x == 35) e (λ h. before-append xs b h)

-- ---- ends of lines

other_byte : (b k : ℕ) → is_printable b ≡ true → 9 < k → k < 32 → (b == k) ≡ false
other_byte b k h low high =
    ne_eqb b k (λ e. ⊎_elim
    (λ t. let s = eqb-true b 9 t in absurd (omega arith))
    (λ t. let r = leb-true 32 b (and_parts (nat_le 32 b) (nat_le b 126) t).0 in
    absurd (omega arith))
    (or_cases (b == 9) (nat_le 32 b && nat_le b 126) h))

pub printable_line : (w : List ℕ) → are_printable w ≡ true → IsLine w
printable_line [] h = tt
printable_line (b ∷ bs) h =
    let p = and_parts (is_printable b) (are_printable bs) h in
    (other_byte b 10 p.0 (omega arith) (omega arith), printable_line bs p.1)

pub printable_no_cr : (w : List ℕ) → are_printable w ≡ true → ends_in_cr w ≡ false
printable_no_cr [] h = refl
printable_no_cr (b ∷ []) h =
    other_byte b 13 (and_parts (is_printable b) (are_printable []) h).0 (omega arith) (omega arith)
printable_no_cr (b ∷ c ∷ bs) h =
    printable_no_cr (c ∷ bs) (and_parts (is_printable b) (are_printable (c ∷ bs)) h).1
