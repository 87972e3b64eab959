-- The lexemes: what the tests of registers and numbers say.
use Rattle.std.proofs.Common.{◌≡◌, ℕ, zero, suc, ◌+◌, ◌<◌, Bool, true, false, cond, List, [], ◌∷◌, length, Option, Some, None, inl, inr, ⊎_elim, refl, sym, ap, ◌∙◌, subst, arith, eqb, ltb}
use Rattle.std.specs.Prelude.{◌&&◌, ◌||◌, not, ◌==◌, slice_get}
use Rattle.std.specs.Str.{bytes_eq}
use Rattle.std.specs.Str.Parse.{IsNumeral, AllDigits, digits_value}
use Rattle.std.specs.Char.{digit_value}
use Rattle.std.proofs.lemmas.Bool.{false≢true, and_parts, or_cases, and_from, eqb-true, ltb-true, lt-ltb, le-leb, cond-true, cond-false, false_from_ne_true, not-true}
use Rattle.std.proofs.lemmas.Str.Parse.{digit_from_value}
use Rattle.std.proofs.lemmas.Slice.Eq.{bytes_eq-Decides}
use Rattle.text_tokens.specs.Registers.{registers, IsNamed, IsRegister, is_named, register_in, register_of}
use Rattle.text_tokens.specs.Numbers.{is_digit, IsNumber, are_digits, numeral, lexeme_number, begins_with_digit}

-- ---- equal bytes

pub same_bytes : (xs ys : List ℕ) → bytes_eq xs ys ≡ true → xs ≡ ys
same_bytes xs ys e = (bytes_eq-Decides xs ys).0 e

pub bytes_same : (xs ys : List ℕ) → xs ≡ ys → bytes_eq xs ys ≡ true
bytes_same xs ys e = (bytes_eq-Decides xs ys).1 e

-- ---- registers

named_is : (row : List ℕ × List ℕ) (w : List ℕ) → is_named row w ≡ true → IsNamed row w
named_is row w e =
    ⊎_elim (λ h. inl (same_bytes w (36 ∷ row.0) h))
    (λ h. inr (⊎_elim (λ g. inl (same_bytes w (114 ∷ row.0) g)) (λ g. inr (same_bytes w row.1 g)) (or_cases (bytes_eq w (114 ∷ row.0)) (bytes_eq w row.1) h)))
    (or_cases (bytes_eq w (36 ∷ row.0)) (bytes_eq w (114 ∷ row.0) || bytes_eq w row.1) e)

abbrev IsRow : List (List ℕ × List ℕ) → ℕ → ℕ → List ℕ → Type 0
IsRow rows k r w = (i : ℕ) × (row : List ℕ × List ℕ) × (r ≡ k + i) × (slice_get rows i ≡ Some row) × IsNamed row w

found_by : (row : List ℕ × List ℕ) (rows : List (List ℕ × List ℕ)) (k r : ℕ) (w : List ℕ) (t : Bool) → is_named row w ≡ t → cond t (Some k) (register_in rows (suc k) w) ≡ Some r → (register_in rows (suc k) w ≡ Some r → IsRow rows (suc k) r w) → IsRow (row ∷ rows) k r w
found_by row rows k r w true e h g = let s : k ≡ r = cc in (0, row, omega arith, refl, named_is row w e)
found_by row rows k r w false e h g = let f = g h in (suc f.0, f.1, omega (arith, f.2), f.3, f.4)

found_in : (rows : List (List ℕ × List ℕ)) (k r : ℕ) (w : List ℕ) → register_in rows k w ≡ Some r → IsRow rows k r w
found_in [] k r w e = cc
found_in (row ∷ rows) k r w e = found_by row rows k r w (is_named row w) refl e (λ h. found_in rows (suc k) r w h)

-- what is found is a name of the register
pub register_is : (w : List ℕ) (r : ℕ) → register_of w ≡ Some r → IsRegister r w
unfolding register_of
register_is w r e = let f = found_in registers 0 r w e in
    let z : f.0 ≡ r = omega (arith, f.2) in
    (f.1, subst (λ i. slice_get registers i ≡ Some f.1) z f.3, f.4)

abbrev is_at : Option ℕ → ℕ → Bool
is_at None r = false
is_at (Some k) r = k == r

at_is : (o : Option ℕ) (r : ℕ) → is_at o r ≡ true → o ≡ Some r
at_is None r e = absurd (false≢true e)
at_is (Some k) r e = ap Some (eqb-true k r e)

-- the lexeme is found to name register r, and begins with no digit
abbrev finds : List ℕ → ℕ → Bool
finds w r = is_at (register_of w) r && not (begins_with_digit w)

abbrev all_found : List (List ℕ × List ℕ) → ℕ → Bool
all_found [] k = true
all_found (row ∷ rows) k = (finds (36 ∷ row.0) k && (finds (114 ∷ row.0) k && finds row.1 k)) && all_found rows (suc k)

each_found : all_found registers 0 ≡ true
unfolding register_of registers
each_found = refl

found_at : (rows : List (List ℕ × List ℕ)) (k i : ℕ) (row : List ℕ × List ℕ) → all_found rows k ≡ true → slice_get rows i ≡ Some row → (finds (36 ∷ row.0) (k + i) && (finds (114 ∷ row.0) (k + i) && finds row.1 (k + i))) ≡ true
found_at [] k i row h e = cc
found_at (first ∷ rows) k zero row h e =
    let same : first ≡ row = cc in
    subst (λ x. (finds (36 ∷ x.0) (k + 0) && (finds (114 ∷ x.0) (k + 0) && finds x.1 (k + 0))) ≡ true) same
    (subst (λ n. (finds (36 ∷ first.0) n && (finds (114 ∷ first.0) n && finds first.1 n)) ≡ true) (omega arith) (and_parts _ (all_found rows (suc k)) h).0)
found_at (first ∷ rows) k (suc i) row h e =
    subst (λ n. (finds (36 ∷ row.0) n && (finds (114 ∷ row.0) n && finds row.1 n)) ≡ true) (omega arith)
    (found_at rows (suc k) i row (and_parts (finds (36 ∷ first.0) k && (finds (114 ∷ first.0) k && finds first.1 k)) (all_found rows (suc k)) h).1 e)

finds_both : (w v : List ℕ) (r : ℕ) → w ≡ v → finds v r ≡ true → (register_of w ≡ Some r) × (begins_with_digit w ≡ false)
finds_both w v r e h = let p = and_parts (is_at (register_of v) r) (not (begins_with_digit v)) h in
    (ap register_of e ∙ at_is (register_of v) r p.0, ap begins_with_digit e ∙ not-true (begins_with_digit v) p.1)

-- a name of a register is found, and begins with no digit
pub register_found : (w : List ℕ) (r : ℕ) → IsRegister r w → (register_of w ≡ Some r) × (begins_with_digit w ≡ false)
register_found w r h =
    let row = h.0 in
    let all : (finds (36 ∷ row.0) r && (finds (114 ∷ row.0) r && finds row.1 r)) ≡ true =
    (let z : 0 + r ≡ r = omega arith in subst (λ n. (finds (36 ∷ row.0) n && (finds (114 ∷ row.0) n && finds row.1 n)) ≡ true) z (found_at registers 0 r row each_found h.1)) in
    let p = and_parts (finds (36 ∷ row.0) r) (finds (114 ∷ row.0) r && finds row.1 r) all in
    let q = and_parts (finds (114 ∷ row.0) r) (finds row.1 r) p.1 in
    ⊎_elim (λ e. finds_both w (36 ∷ row.0) r e p.0)
    (λ g. ⊎_elim (λ e. finds_both w (114 ∷ row.0) r e q.0) (λ e. finds_both w row.1 r e q.1) g) h.2

-- ---- numbers

are_AllDigits : (radix : ℕ) (ds : List ℕ) → are_digits radix ds ≡ true → AllDigits radix ds
are_AllDigits radix [] e = tt
are_AllDigits radix (c ∷ cs) e = let p = and_parts (ltb (digit_value c) radix) (are_digits radix cs) e in (ltb-true _ _ p.0, are_AllDigits radix cs p.1)

AllDigits_are : (radix : ℕ) (ds : List ℕ) → AllDigits radix ds → are_digits radix ds ≡ true
AllDigits_are radix [] h = refl
AllDigits_are radix (c ∷ cs) h = and_from (ltb (digit_value c) radix) (are_digits radix cs) (lt-ltb _ _ h.0) (AllDigits_are radix cs h.1)

same_some : {A : Type 0} (x y : A) → Some x ≡ Some y → x ≡ y
same_some x y e = cc

numeral_by : (radix n : ℕ) (ds : List ℕ) (t : Bool) → are_digits radix ds ≡ t → 0 < length ds → cond t (Some (digits_value radix ds)) None ≡ Some n → IsNumeral radix ds × (n ≡ digits_value radix ds)
numeral_by radix n ds true e l h = ((l, are_AllDigits radix ds e), sym (same_some _ _ h))
numeral_by radix n ds false e l h = cc

pub numeral_is : (radix n : ℕ) (ds : List ℕ) → numeral radix ds ≡ Some n → IsNumeral radix ds × (n ≡ digits_value radix ds)
numeral_is radix n [] e = cc
numeral_is radix n (c ∷ cs) e = numeral_by radix n (c ∷ cs) (are_digits radix (c ∷ cs)) refl (omega arith) e

pub is_numeral : (radix n : ℕ) (ds : List ℕ) → IsNumeral radix ds → n ≡ digits_value radix ds → numeral radix ds ≡ Some n
is_numeral radix n [] h e = absurd (omega (arith, h.0))
is_numeral radix n (c ∷ cs) h e = cond-true (are_digits radix (c ∷ cs)) (Some (digits_value radix (c ∷ cs))) None (AllDigits_are radix (c ∷ cs) h.1) ∙ ap Some (sym e)

digit_first : (c : ℕ) → digit_value c < 10 → is_digit c ≡ true
digit_first c h = let r = digit_from_value c h in and_from _ _ (le-leb 48 c r.0) (le-leb c 57 r.1)

digit_no_x : (c : ℕ) → digit_value c < 10 → eqb c 120 ≡ false
digit_no_x c h = false_from_ne_true (eqb c 120) (λ e. let r = digit_from_value c h in absurd (omega (arith, eqb-true c 120 e, r.1)))

number_by : (b c n : ℕ) (ds : List ℕ) (t : Bool) → ((b == 48) && (c == 120)) ≡ t → cond t (numeral 16 ds) (numeral 10 (b ∷ c ∷ ds)) ≡ Some n → IsNumber (b ∷ c ∷ ds) n
number_by b c n ds true e h =
    let p = and_parts (b == 48) (c == 120) e in
    let q = numeral_is 16 n ds h in
    let e0 : b ≡ 48 = eqb-true b 48 p.0 in
    let e1 : c ≡ 120 = eqb-true c 120 p.1 in
    inr (ds, cc, q.0, q.1)
number_by b c n ds false e h = inl (numeral_is 10 n (b ∷ c ∷ ds) h)

-- what is found is the number that the lexeme is
pub number_is : (w : List ℕ) (n : ℕ) → lexeme_number w ≡ Some n → IsNumber w n
number_is [] n e = cc
number_is (b ∷ []) n e = inl (numeral_is 10 n (b ∷ []) e)
number_is (b ∷ c ∷ ds) n e = number_by b c n ds ((b == 48) && (c == 120)) refl e

decimal_found : (w : List ℕ) (n : ℕ) → IsNumeral 10 w → n ≡ digits_value 10 w → (lexeme_number w ≡ Some n) × (begins_with_digit w ≡ true)
decimal_found [] n h e = absurd (omega (arith, h.0))
decimal_found (b ∷ []) n h e = (is_numeral 10 n (b ∷ []) h e, digit_first b h.1.0)
decimal_found (b ∷ c ∷ ds) n h e = (
  cond-false ((b == 48) && (c == 120)) (numeral 16 ds) (numeral 10 (b ∷ c ∷ ds)) (false_from_ne_true ((b == 48) && (c == 120)) (λ f. false≢true (sym (digit_no_x c h.1.1.0) ∙ (and_parts (b == 48) (c == 120) f).1)))
      ∙ is_numeral 10 n (b ∷ c ∷ ds) h e,
  digit_first b h.1.0,
)

-- a number is found, and begins with a digit
pub number_found : (w : List ℕ) (n : ℕ) → IsNumber w n → (lexeme_number w ≡ Some n) × (begins_with_digit w ≡ true)
number_found w n h =
    ⊎_elim (λ g. decimal_found w n g.0 g.1)
    (λ g. (ap lexeme_number g.1 ∙ is_numeral 16 n g.0 g.2 g.3, ap begins_with_digit g.1)) h

pub length-registers : length registers ≡ 32
unfolding registers
length-registers = refl
