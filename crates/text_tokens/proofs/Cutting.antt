-- Lines, cut off a text.
use Rattle.std.proofs.Common.{◌≡◌, ℕ, ◌+◌, ◌-◌, ◌<◌, ◌≤◌, true, false, List, [], ◌∷◌, ◌++◌, length, get_or, take, drop, refl, sym, ap, ◌∙◌, subst, append_assoc, arith}
use Rattle.std.specs.Prelude.{◌==◌}
use Rattle.std.specs.List.{AllByRecursion}
use Rattle.std.proofs.lemmas.Bool.{false≢true, eqb-true, ne_eqb}
use Rattle.std.proofs.lemmas.List.{take_more, take_all, drop_all}
use Rattle.text_tokens.specs.Lines.{IsLine, ends_in_cr, lines_of}
use Rattle.text_tokens.proofs.Endings.{unended, lf_line, crlf_line}

all_front : (P : ℕ → Type 0) (xs ys : List ℕ) → AllByRecursion P (xs ++ ys) → AllByRecursion P xs
all_front P [] ys h = tt
all_front P (x ∷ xs) ys h = (h.0, all_front P xs ys h.1)

pub no_lines : (l : List ℕ) → (length l == 0) ≡ true → lines_of l ≡ []
no_lines [] e = refl
no_lines (b ∷ l) e =
    let none : length (b ∷ l) ≡ 0 = eqb-true (length (b ∷ l)) 0 e in absurd (omega arith)

pub last_byte : (l : List ℕ) → (length l == 0) ≡ false → (length l - 1) + 1 ≡ length l
last_byte [] e = absurd (false≢true (sym e))
last_byte (b ∷ l) e = omega arith

-- a line whose last byte is this
last_of : (l : List ℕ) (k : ℕ) → k + 1 ≡ length l → l ≡ take k l ++ (get_or l k 0 ∷ [])
last_of l k e = sym (take_all (k + 1) l (omega (arith, e))) ∙ take_more l k 0 (omega (arith, e))

cr_ends : (xs : List ℕ) (x : ℕ) → ends_in_cr (xs ++ (x ∷ [])) ≡ (x == 13)
cr_ends [] x = refl
cr_ends (a ∷ []) x = refl
cr_ends (a ∷ b ∷ xs) x = cr_ends (b ∷ xs) x

pub cr_dropped : (l : List ℕ) (k : ℕ) (rest : List ℕ) → k + 1 ≡ length l → get_or l k 0 ≡ 13
    → IsLine l → lines_of (l ++ (10 ∷ rest)) ≡ take k l ∷ lines_of rest
cr_dropped l k rest e c h =
    let split : l ≡ take k l ++ (13 ∷ []) = last_of l k e ∙ ap (λ x. take k l ++ (x ∷ [])) c in
    let whole : IsLine (take k l ++ (13 ∷ [])) = subst (λ x. IsLine x) split h in
    ap (λ x. lines_of (x ++ (10 ∷ rest))) split
    ∙ ap lines_of (append_assoc (take k l) (13 ∷ []) (10 ∷ rest))
    ∙ crlf_line (take k l) rest (all_front (λ b. (b == 10) ≡ false) (take k l) (13 ∷ []) whole)

pub no_cr_dropped : (l : List ℕ) (k : ℕ) (rest : List ℕ) → k + 1 ≡ length l
    → (get_or l k 0 ≡ 13 → ⊥) → IsLine l → lines_of (l ++ (10 ∷ rest)) ≡ l ∷ lines_of rest
no_cr_dropped l k rest e c h =
    lf_line l rest h
    (ap ends_in_cr (last_of l k e) ∙ cr_ends (take k l) (get_or l k 0)
    ∙ ne_eqb (get_or l k 0) 13 c)

pub last_line : (text rest : List ℕ) (n : ℕ) → 0 < length text → length text ≤ n
    → IsLine (take n text) → rest ≡ drop n text → lines_of text ≡ text ∷ lines_of rest
last_line text rest n s h l e =
    unended text (subst (λ x. IsLine x) (take_all n text h) l) s
    ∙ ap (λ x. text ∷ lines_of x) (sym (e ∙ drop_all n text h))
