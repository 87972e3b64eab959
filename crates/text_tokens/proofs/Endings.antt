-- The lines of a text, as a relation and as a function.
use Rattle.std.proofs.Common.{◌≡◌, ℕ, ◌<◌, Bool, true, false, cond, List, [], ◌∷◌, ◌++◌, length, refl, sym, ap, ◌∙◌, subst, arith}
use Rattle.std.specs.Prelude.{◌&&◌, ◌==◌}
use Rattle.std.proofs.lemmas.Bool.{cond-false, and_parts, and_right, and_left, eqb-true}
use Rattle.text_tokens.specs.Lines.{IsLine, ends_in_cr, AreLines, none, last, by_lf, by_crlf, begins_with_lf, with_first_byte, lines_of}

-- ---- the function on what the relation says

first_byte : (b : ℕ) (bs : List ℕ) → (b == 10) ≡ false → ((b == 13) && begins_with_lf bs) ≡ false
    → lines_of (b ∷ bs) ≡ with_first_byte b (lines_of bs)
first_byte b bs e f =
    cond-false (b == 10) ([] ∷ lines_of bs) _ e
    ∙ cond-false ((b == 13) && begins_with_lf bs) (lines_of bs) (with_first_byte b (lines_of bs)) f

pub unended : (l : List ℕ) → IsLine l → 0 < length l → lines_of l ≡ l ∷ []
unended [] h n = absurd (omega arith)
unended (b ∷ []) h n = first_byte b [] h.0 (and_right (b == 13) false refl)
unended (b ∷ c ∷ bs) h n =
    first_byte b (c ∷ bs) h.0 (and_right (b == 13) (c == 10) h.1.0)
    ∙ ap (with_first_byte b) (unended (c ∷ bs) h.1 (omega arith))

pub lf_line : (l ts : List ℕ) → IsLine l → ends_in_cr l ≡ false
    → lines_of (l ++ (10 ∷ ts)) ≡ l ∷ lines_of ts
lf_line [] ts h e = refl
lf_line (b ∷ []) ts h e = first_byte b (10 ∷ ts) h.0 (and_left (b == 13) true e)
lf_line (b ∷ c ∷ bs) ts h e =
    first_byte b (c ∷ (bs ++ (10 ∷ ts))) h.0 (and_right (b == 13) (c == 10) h.1.0)
    ∙ ap (with_first_byte b) (lf_line (c ∷ bs) ts h.1 e)

pub crlf_line : (l ts : List ℕ) → IsLine l → lines_of (l ++ (13 ∷ 10 ∷ ts)) ≡ l ∷ lines_of ts
crlf_line [] ts h = refl
crlf_line (b ∷ []) ts h = first_byte b (13 ∷ 10 ∷ ts) h.0 (and_right (b == 13) false refl)
crlf_line (b ∷ c ∷ bs) ts h =
    first_byte b (c ∷ (bs ++ (13 ∷ 10 ∷ ts))) h.0 (and_right (b == 13) (c == 10) h.1.0)
    ∙ ap (with_first_byte b) (crlf_line (c ∷ bs) ts h.1)

-- a text has no other lines than the function gives
pub lines_are : (text : List ℕ) (ls : List (List ℕ)) → AreLines text ls → lines_of text ≡ ls
lines_are text ls none = refl
lines_are text ls (last {l = l} h n) = unended l h n
lines_are text ls (by_lf {l = l} {ts = ts} {ls = ms} h e d) =
    lf_line l ts h e ∙ ap (λ m. l ∷ m) (lines_are ts ms d)
lines_are text ls (by_crlf {l = l} {ts = ts} {ls = ms} h d) =
    crlf_line l ts h ∙ ap (λ m. l ∷ m) (lines_are ts ms d)

-- ---- the relation on what the function gives

with_true : (x : Bool) → (x && true) ≡ false → x ≡ false
with_true true e = e
with_true false e = refl

same_start : (l ts : List ℕ) → begins_with_lf (l ++ (10 ∷ [])) ≡ begins_with_lf (l ++ (10 ∷ ts))
same_start [] ts = refl
same_start (c ∷ l) ts = refl

no_cr : (b : ℕ) (l : List ℕ) → ((b == 13) && begins_with_lf (l ++ (10 ∷ []))) ≡ false
    → ends_in_cr l ≡ false → ends_in_cr (b ∷ l) ≡ false
no_cr b [] e f = with_true (b == 13) e
no_cr b (c ∷ l) e f = f

lengthened : (b : ℕ) (bs : List ℕ) (ls : List (List ℕ)) → AreLines bs ls → (b == 10) ≡ false
    → ((b == 13) && begins_with_lf bs) ≡ false → AreLines (b ∷ bs) (with_first_byte b ls)
lengthened b bs ls none e f = last {l = b ∷ []} (e, tt) (omega arith)
lengthened b bs ls (last {l = l} h n) e f = last {l = b ∷ l} (e, h) (omega arith)
lengthened b bs ls (by_lf {l = l} {ts = ts} h g d) e f =
    by_lf {l = b ∷ l} (e, h) (no_cr b l (ap (λ t. (b == 13) && t) (same_start l ts) ∙ f) g) d
lengthened b bs ls (by_crlf {l = l} h d) e f = by_crlf {l = b ∷ l} (e, h) d

at_lf : (b : ℕ) (bs : List ℕ) → b ≡ 10 → AreLines bs (lines_of bs)
    → AreLines (b ∷ bs) ([] ∷ lines_of bs)
at_lf b bs e d =
    subst (λ x. AreLines (x ∷ bs) ([] ∷ lines_of bs)) (sym e) (by_lf {l = []} tt refl d)

at_crlf : (b c : ℕ) (ts : List ℕ) → b ≡ 13 → c ≡ 10 → AreLines ts (lines_of ts)
    → AreLines (b ∷ c ∷ ts) (lines_of (c ∷ ts))
at_crlf b c ts e f d =
    subst (λ x. AreLines (x ∷ c ∷ ts) (lines_of (c ∷ ts))) (sym e)
    (subst (λ y. AreLines (13 ∷ y ∷ ts) (lines_of (y ∷ ts))) (sym f) (by_crlf {l = []} tt d))

cr_case : (b : ℕ) (bs : List ℕ) (t : Bool) → (b == 10) ≡ false
    → ((b == 13) && begins_with_lf bs) ≡ t → AreLines bs (lines_of bs)
    → ((c : ℕ) (ts : List ℕ) → bs ≡ c ∷ ts → AreLines ts (lines_of ts))
    → AreLines (b ∷ bs) (cond t (lines_of bs) (with_first_byte b (lines_of bs)))
cr_case b bs false e f d g = lengthened b bs (lines_of bs) d e f
cr_case b [] true e f d g = let p = and_parts (b == 13) false f in cc
cr_case b (c ∷ ts) true e f d g =
    let p = and_parts (b == 13) (c == 10) f in
    at_crlf b c ts (eqb-true b 13 p.0) (eqb-true c 10 p.1) (g c ts refl)

lf_case : (b : ℕ) (bs : List ℕ) (t : Bool) → (b == 10) ≡ t → AreLines bs (lines_of bs)
    → ((c : ℕ) (ts : List ℕ) → bs ≡ c ∷ ts → AreLines ts (lines_of ts))
    → AreLines (b ∷ bs) (cond t ([] ∷ lines_of bs) (cond ((b == 13) && begins_with_lf bs)
    (lines_of bs) (with_first_byte b (lines_of bs))))
lf_case b bs true e d g = at_lf b bs (eqb-true b 10 e) d
lf_case b bs false e d g = cr_case b bs ((b == 13) && begins_with_lf bs) e refl d g

-- a text has the lines that the function gives
pub are_lines : (text : List ℕ) → AreLines text (lines_of text)
are_lines [] = none
are_lines (b ∷ []) = lf_case b [] (b == 10) refl none (λ c ts e. cc)
are_lines (b ∷ c ∷ ts) =
    lf_case b (c ∷ ts) (b == 10) refl (are_lines (c ∷ ts))
    (λ d us e.
    let s : ts ≡ us = cc in subst (λ l. AreLines l (lines_of l)) s (are_lines ts))
