-- What is printed spells the formula.
use Rattle.std.proofs.Common.{◌≡◌, ◌⊎◌, ⊎_elim, ℕ, zero, suc, ◌+◌, ◌-◌, ◌^◌, ◌<◌, ◌≤◌, Bool, true, false, ltb, List, [], ◌∷◌, ◌++◌, length, Some, None, inl, inr, refl, sym, ap, ◌∙◌, subst, append_assoc, arith}
use Rattle.std.specs.Prelude.{◌&&◌, ◌==◌, codes, slice_get, decimal}
use Rattle.std.specs.Fmt.{digits}
use Rattle.std.specs.Str.{bytes_eq}
use Rattle.std.specs.Str.Parse.{AllDigits}
use Rattle.std.specs.Option.{option_map}
use Rattle.std.specs.List.{AllByRecursion, list_all}
use Rattle.std.proofs.lemmas.Bool.{and_parts, and_from, or_right, ltb-true, eqb-true, le-leb, cond-true, cond-false, false_from_ne_true}
use Rattle.std.proofs.lemmas.List.{append-nil}
use Rattle.std.proofs.lemmas.Str.Parse.{digit_from_value}
use Rattle.std.proofs.lemmas.Fmt.{decimal_is_IsNumeral, decimal_injective}
use Rattle.word_ops.specs.Operators.{op_keyword, op_of_keyword, has_op}
use Rattle.word_ops.proofs.EachOp.{each_op}
use Rattle.word_ops.specs.declared.Rel.TheVariants as R
use Rattle.formula_tree.specs.Formulas.{Exp, EReg, ELeft, EVar, ELit, EOp, ESel, MemExp, MMem, MVar, MUpd, Form, FTrue, FFalse, FRel, FRd, FWr, FAnd, FOr, FImp, FAll, FAllm}
use Rattle.formula_tree.specs.Scope.{VarSort, OfWord, OfMem, OfProof, sort_at, IsWithinExp, IsWithinMem, IsWithin}
use Rattle.formula_tree.specs.Sizes.{binders}
use Rattle.text_tokens.specs.declared.tokens.Class.TheVariants as C
use Rattle.text_tokens.specs.declared.parens.Paren.{Paren}
use Rattle.text_tokens.specs.declared.parens.Paren.TheVariants as P
use Rattle.text_tokens.specs.Tokens.{Token, Mark, Lexeme, is_ordinary, goes_on, IsLexeme, Consists, nothing, blank, mark, lexeme}
use Rattle.text_tokens.specs.Registers.{registers, IsRegister, register_of}
use Rattle.text_tokens.specs.Numbers.{is_digit}
use Rattle.text_tokens.specs.Parens.{paren_class}
use Rattle.text_tokens.proofs.Known.{same_bytes, bytes_same}
use Rattle.formula_text.specs.declared.keywords.PhraseSort.{PhraseSort}
use Rattle.formula_text.specs.declared.keywords.PhraseSort.TheVariants as S
use Rattle.formula_text.specs.declared.keywords.Keyword.{Keyword}
use Rattle.formula_text.specs.declared.keywords.Keyword.TheVariants as K
use Rattle.formula_text.specs.Keywords.{keyword_text, keywords, keyword_of}
use Rattle.formula_text.specs.Bindings.{is_lower, are_lower_or_digits, is_name, Bindings, nearest_binding}
use Rattle.formula_text.specs.Grammar.{group, SpellsExp, SpellsMem, SpellsForm, Spells}
use Rattle.formula_text.specs.Printing.{name_of, spaced, group_text, exp_text, mem_text, form_text}
use Rattle.word_ops.specs.declared.Profile.{Profile}
use Rattle.word_ops.specs.declared.Op.{Op}
use Rattle.formula_tree.specs.Operators.{UsesExp, UsesMem, Uses}

module _ (profile : Profile) (left : Bool) where
  -- ---- bytes

  closes_class : paren_class 41 ≡ C.Mark P.Close
  unfolding paren_class
  closes_class = refl

  opens_class : paren_class 40 ≡ C.Mark P.Open
  unfolding paren_class
  opens_class = refl

  blank_class : paren_class 32 ≡ C.Blank
  unfolding paren_class
  blank_class = refl

  differs : (a b : ℕ) → (a < b) ⊎ (b < a) → (a == b) ≡ false
  differs a b h = false_from_ne_true (a == b) (λ e. let s = eqb-true a b e in ⊎_elim (λ l. absurd (omega arith)) (λ l. absurd (omega arith)) h)

  -- a byte between 42 and 255 is ordinary
  ordinary_byte : (b : ℕ) → 41 < b → paren_class b ≡ C.Ordinary
  unfolding paren_class
  ordinary_byte b h =
      cond-false (b == 32) _ _ (differs b 32 (inr (omega arith))) ∙ cond-false (b == 9) _ _ (differs b 9 (inr (omega arith)))
      ∙ cond-false (b == 40) _ _ (differs b 40 (inr (omega arith))) ∙ cond-false (b == 41) _ _ (differs b 41 (inr (omega arith)))

  -- ---- what prints as tokens, whatever stands behind

  abbrev Prints : List ℕ → List (Token Paren) → Type 0
  Prints text us = (rest : List ℕ) (ts : List (Token Paren)) → goes_on paren_class rest ≡ false → Consists paren_class rest ts → Consists paren_class (text ++ rest) (us ++ ts)

  lexeme_prints : (w : List ℕ) → IsLexeme paren_class w → Prints w (Lexeme w ∷ [])
  lexeme_prints w h rest ts g d = lexeme h g d

  abbrev AllPrint : List (List ℕ) → List (Token Paren) → Type 0
  AllPrint [] us = us ≡ []
  AllPrint (p ∷ ps) us = (vs ws : List (Token Paren)) × Prints p vs × AllPrint ps ws × (us ≡ vs ++ ws)

  spaced_stops : (ps : List (List ℕ)) (rest : List ℕ) → goes_on paren_class (spaced ps ++ rest) ≡ false
  spaced_stops [] rest = ap is_ordinary closes_class
  spaced_stops (p ∷ ps) rest = ap is_ordinary blank_class

  spaced_prints : (ps : List (List ℕ)) (us : List (Token Paren)) → AllPrint ps us → (rest : List ℕ) (ts : List (Token Paren)) → Consists paren_class rest ts → Consists paren_class (spaced ps ++ rest) (us ++ ((Mark P.Close) ∷ ts))
  spaced_prints [] us h rest ts d = subst (λ l. Consists paren_class (41 ∷ rest) (l ++ ((Mark P.Close) ∷ ts))) (sym h) (mark closes_class d)
  spaced_prints (p ∷ ps) us h rest ts d =
      let inner : Consists paren_class (p ++ (spaced ps ++ rest)) (h.0 ++ (h.1 ++ ((Mark P.Close) ∷ ts))) = h.2 (spaced ps ++ rest) (h.1 ++ ((Mark P.Close) ∷ ts)) (spaced_stops ps rest) (spaced_prints ps h.1 h.3 rest ts d) in
      let words : h.0 ++ (h.1 ++ ((Mark P.Close) ∷ ts)) ≡ us ++ ((Mark P.Close) ∷ ts) = sym (append_assoc h.0 h.1 ((Mark P.Close) ∷ ts)) ∙ ap (λ l. l ++ ((Mark P.Close) ∷ ts)) (sym h.4) in
      blank blank_class (subst (λ l. Consists paren_class l (us ++ ((Mark P.Close) ∷ ts))) (sym (append_assoc p (spaced ps) rest)) (subst (λ l. Consists paren_class (p ++ (spaced ps ++ rest)) l) words inner))

  -- a text with bytes past 41 alone
  abbrev is_plain : List ℕ → Bool
  is_plain w = ltb 0 (length w) && list_all (λ b. ltb 41 b) w

  plain_bytes : (w : List ℕ) → list_all (λ b. ltb 41 b) w ≡ true → AllByRecursion (λ b. paren_class b ≡ C.Ordinary) w
  plain_bytes [] h = tt
  plain_bytes (b ∷ bs) h = let p = and_parts (ltb 41 b) (list_all (λ b. ltb 41 b) bs) h in (ordinary_byte b (ltb-true 41 b p.0), plain_bytes bs p.1)

  plain_lexeme : (w : List ℕ) → is_plain w ≡ true → IsLexeme paren_class w
  plain_lexeme w h = let p = and_parts (ltb 0 (length w)) (list_all (λ b. ltb 41 b) w) h in record { some = ltb-true 0 (length w) p.0; whole = plain_bytes w p.1 }

  keyword_plain : (h : Keyword) → is_plain (keyword_text h) ≡ true
  keyword_plain (K.Rel R.Eq) = refl
  keyword_plain (K.Rel R.Ult) = refl
  keyword_plain (K.Rel R.Ule) = refl
  keyword_plain (K.Rel R.Slt) = refl
  keyword_plain (K.Rel R.Sle) = refl
  keyword_plain (K.Oper o) = each_op (λ p. is_plain (op_keyword p)) refl o
  keyword_plain K.Rd = refl
  keyword_plain K.Wr = refl
  keyword_plain K.And = refl
  keyword_plain K.Or = refl
  keyword_plain K.Imp = refl
  keyword_plain K.All = refl
  keyword_plain K.Allm = refl
  keyword_plain K.Sel = refl
  keyword_plain K.Upd = refl

  keyword_lexeme : (h : Keyword) → IsLexeme paren_class (keyword_text h)
  keyword_lexeme h = plain_lexeme (keyword_text h) (keyword_plain h)

  group_prints : (h : Keyword) (ps : List (List ℕ)) (us : List (Token Paren)) → AllPrint ps us → Prints (group_text h ps) (group h us)
  group_prints h ps us a rest ts g d =
      let inner : Consists paren_class (spaced ps ++ rest) (us ++ ((Mark P.Close) ∷ ts)) = spaced_prints ps us a rest ts d in
      let line : Consists paren_class (keyword_text h ++ (spaced ps ++ rest)) (Lexeme (keyword_text h) ∷ (us ++ ((Mark P.Close) ∷ ts))) = lexeme (keyword_lexeme h) (spaced_stops ps rest) inner in
      mark opens_class (subst (λ l. Consists paren_class l (Lexeme (keyword_text h) ∷ ((us ++ ((Mark P.Close) ∷ [])) ++ ts))) (sym (append_assoc (keyword_text h) (spaced ps) rest))
      (subst (λ l. Consists paren_class (keyword_text h ++ (spaced ps ++ rest)) (Lexeme (keyword_text h) ∷ l)) (sym (append_assoc us ((Mark P.Close) ∷ []) ts)) line))

  -- ---- numbers, registers and names

  digits_lexeme : (ds : List ℕ) → AllDigits 10 ds → AllByRecursion (λ b. paren_class b ≡ C.Ordinary) ds
  digits_lexeme [] h = tt
  digits_lexeme (c ∷ cs) h = let r = digit_from_value c h.0 in (ordinary_byte c (omega (arith, r.0)), digits_lexeme cs h.1)

  decimal_lexeme : (n : ℕ) → n < 2 ^ 64 → IsLexeme paren_class (decimal n)
  decimal_lexeme n h = let d = (decimal_is_IsNumeral n h).0 in record { some = d.0; whole = digits_lexeme (decimal n) d.1 }

  lettered_lexeme : (b n : ℕ) → 41 < b → n < 2 ^ 64 → IsLexeme paren_class (b ∷ decimal n)
  lettered_lexeme b n l h = record { some = omega arith; whole = (ordinary_byte b l, (decimal_lexeme n h).whole) }

  abbrev all_decimal : List (List ℕ × List ℕ) → ℕ → Bool
  all_decimal [] k = true
  all_decimal (row ∷ rows) k = bytes_eq row.0 (decimal k) && all_decimal rows (suc k)

  each_decimal : all_decimal registers 0 ≡ true
  unfolding registers digits
  each_decimal = refl

  decimal_at : (rows : List (List ℕ × List ℕ)) (k i : ℕ) → all_decimal rows k ≡ true → i < length rows → (row : List ℕ × List ℕ) × (slice_get rows i ≡ Some row) × (row.0 ≡ decimal (k + i))
  decimal_at [] k i h l = absurd (omega arith)
  decimal_at (row ∷ rows) k zero h l =
      let z : k ≡ k + 0 = omega arith in
      (row, refl, same_bytes row.0 (decimal k) (and_parts _ (all_decimal rows (suc k)) h).0 ∙ ap decimal z)
  decimal_at (row ∷ rows) k (suc i) h l =
      let r = decimal_at rows (suc k) i (and_parts (bytes_eq row.0 (decimal k)) (all_decimal rows (suc k)) h).1 (omega arith) in
      let z : suc k + i ≡ k + suc i = omega arith in
      (r.0, r.1, r.2 ∙ ap decimal z)

  rows_count : length registers ≡ 32
  unfolding registers
  rows_count = refl

  register_prints : (r : ℕ) → r < 32 → IsRegister r (114 ∷ decimal r)
  register_prints r h =
      let f = decimal_at registers 0 r each_decimal (omega (arith, rows_count)) in
      let z : 0 + r ≡ r = omega arith in
      (f.0, f.1, inr (inl (ap (λ l. 114 ∷ l) (sym (f.2 ∙ ap decimal z)))))

  digits_letters : (ds : List ℕ) → AllDigits 10 ds → are_lower_or_digits ds ≡ true
  digits_letters [] h = refl
  digits_letters (c ∷ cs) h =
      let r = digit_from_value c h.0 in
      and_from _ (are_lower_or_digits cs) (or_right (is_lower c) (is_digit c) (and_from _ _ (le-leb 48 c r.0) (le-leb c 57 r.1))) (digits_letters cs h.1)

  no_register : (ds : List ℕ) → register_of (120 ∷ ds) ≡ None
  unfolding register_of registers
  no_register ds = refl

  -- `xor` alone begins with the letter of names, and no digit follows it
  no_keyword : (ds : List ℕ) → AllDigits 10 ds → keyword_of profile (120 ∷ ds) ≡ None
  unfolding keyword_of keywords op_of_keyword
  no_keyword [] h = refl
  no_keyword (c ∷ cs) h = let r = digit_from_value c h.0 in rw (differs c 111 (inl (omega (arith, r.1)))) refl

  name_is : (d : ℕ) → d < 2 ^ 64 → is_name profile left (name_of d) ≡ true
  unfolding is_name
  name_is d h =
      let ds = decimal d in
      let all = (decimal_is_IsNumeral d h).0.1 in
      rw (digits_letters ds all, no_register ds, no_keyword ds all) refl

  -- the scope of what stands under binders of these sorts
  abbrev word_sort : VarSort → PhraseSort
  word_sort OfWord = S.Exp
  word_sort OfMem = S.Mem
  word_sort OfProof = S.Form

  abbrev names_of : List VarSort → Bindings
  names_of [] = []
  names_of (s ∷ q) = (name_of (length q), word_sort s) ∷ names_of q

  sort_within : (q : List VarSort) (k : ℕ) (s : VarSort) → sort_at q k ≡ Some s → k < length q
  sort_within [] k s e = cc
  sort_within (t ∷ q) zero s e = omega arith
  sort_within (t ∷ q) (suc k) s e = let w = sort_within q k s e in omega arith

  tail_same : (a b : ℕ) (xs ys : List ℕ) → a ∷ xs ≡ b ∷ ys → xs ≡ ys
  tail_same a b xs ys e = cc

  other_name : (m n : ℕ) → m < 2 ^ 64 → n < m → bytes_eq (name_of m) (name_of n) ≡ false
  other_name m n h l = false_from_ne_true (bytes_eq (name_of m) (name_of n)) (λ e. let s : decimal m ≡ decimal n = tail_same _ _ _ _ (same_bytes (name_of m) (name_of n) e) in let t = decimal_injective m n h (omega arith) s in absurd (omega arith))

  binding_prints : (q : List VarSort) (k : ℕ) (s : VarSort) → length q ≤ 2 ^ 64 → sort_at q k ≡ Some s → nearest_binding (names_of q) (name_of (length q - suc k)) ≡ Some (k, word_sort s)
  binding_prints [] k s l e = cc
  binding_prints (t ∷ q) zero s l e =
      let same : t ≡ s = cc in
      let z : length (t ∷ q) - 1 ≡ length q = omega arith in
      rw z (cond-true (bytes_eq (name_of (length q)) (name_of (length q))) _ _ (bytes_same (name_of (length q)) (name_of (length q)) refl) ∙ ap (λ x. Some (0, word_sort x)) same)
  binding_prints (t ∷ q) (suc k) s l e =
      let w = sort_within q k s e in
      let z : length (t ∷ q) - suc (suc k) ≡ length q - suc k = omega arith in
      rw z (cond-false (bytes_eq (name_of (length q)) (name_of (length q - suc k))) _ _ (other_name (length q) (length q - suc k) (omega arith) (omega (arith, w)))
      ∙ ap (option_map (λ p. (suc p.0, p.1))) (binding_prints q k s (omega arith) e))

  memory_lexeme : IsLexeme paren_class (codes "m")
  unfolding paren_class
  memory_lexeme = record { some = omega arith; whole = (refl, tt) }

  true_lexeme : IsLexeme paren_class (codes "tt")
  unfolding paren_class
  true_lexeme = record { some = omega arith; whole = (refl, (refl, tt)) }

  false_lexeme : IsLexeme paren_class (codes "ff")
  unfolding paren_class
  false_lexeme = record { some = omega arith; whole = (refl, (refl, tt)) }

  steps_lexeme : IsLexeme paren_class (codes "left")
  steps_lexeme = plain_lexeme (codes "left") refl

  -- ---- trees

  abbrev Printed : (List (Token Paren) → Type 0) → List ℕ → Type 0
  Printed P text = (us : List (Token Paren)) × P us × Prints text us

  one_lexeme : (P : List (Token Paren) → Type 0) (w : List ℕ) → IsLexeme paren_class w → P (Lexeme w ∷ []) → Printed P w
  one_lexeme P w h p = (Lexeme w ∷ [], p, lexeme_prints w h)

  under : (q : List VarSort) (k : ℕ) (s : VarSort) → length q ≤ 2 ^ 64 → sort_at q k ≡ Some s → length q - suc k < 2 ^ 64
  under q k s l e = let w = sort_within q k s e in omega arith

  -- the profile has the operator
  abbrev Had : Op → Type 0
  Had o = has_op profile o ≡ true

  mutual
    exp_prints : (a : Exp) (q : List VarSort) → length q ≤ 2 ^ 64 → UsesExp Had a → IsWithinExp left 32 a q → Printed (SpellsExp profile left a (names_of q)) (exp_text (length q) a)
    exp_prints (EReg r) q l u h = one_lexeme (SpellsExp profile left (EReg r) (names_of q)) (114 ∷ decimal r) (lettered_lexeme 114 r (omega arith) (omega (arith, h))) (114 ∷ decimal r, register_prints r h, refl)
    exp_prints ELeft q l u h = one_lexeme (SpellsExp profile left ELeft (names_of q)) (codes "left") steps_lexeme (h, refl)
    exp_prints (EVar k) q l u h = let below = under q k OfWord l h in one_lexeme (SpellsExp profile left (EVar k) (names_of q)) (name_of (length q - suc k)) (lettered_lexeme 120 (length q - suc k) (omega arith) below) (name_of (length q - suc k), name_is (length q - suc k) below, binding_prints q k OfWord l h, refl)
    exp_prints (ELit n) q l u h = let d = decimal_is_IsNumeral n h in one_lexeme (SpellsExp profile left (ELit n) (names_of q)) (decimal n) (decimal_lexeme n h) (decimal n, inl (d.0, sym d.1), h, refl)
    exp_prints (EOp o a b) q l u h =
        let x = exp_prints a q l u.1 h.0 in let y = exp_prints b q l u.2 h.1 in
        (group (K.Oper o) (x.0 ++ y.0), (x.0, y.0, x.1, y.1, refl, u.0), group_prints (K.Oper o) (exp_text (length q) a ∷ exp_text (length q) b ∷ []) (x.0 ++ y.0) (x.0, y.0, x.2, (y.0, [], y.2, refl, sym (append-nil y.0)), refl))
    exp_prints (ESel m a) q l u h =
        let x = mem_prints m q l u.0 h.0 in let y = exp_prints a q l u.1 h.1 in
        (group K.Sel (x.0 ++ y.0), (x.0, y.0, x.1, y.1, refl), group_prints K.Sel (mem_text (length q) m ∷ exp_text (length q) a ∷ []) (x.0 ++ y.0) (x.0, y.0, x.2, (y.0, [], y.2, refl, sym (append-nil y.0)), refl))

    mem_prints : (m : MemExp) (q : List VarSort) → length q ≤ 2 ^ 64 → UsesMem Had m → IsWithinMem left 32 m q → Printed (SpellsMem profile left m (names_of q)) (mem_text (length q) m)
    mem_prints MMem q l u h = one_lexeme (SpellsMem profile left MMem (names_of q)) (codes "m") memory_lexeme refl
    mem_prints (MVar k) q l u h = let below = under q k OfMem l h in one_lexeme (SpellsMem profile left (MVar k) (names_of q)) (name_of (length q - suc k)) (lettered_lexeme 120 (length q - suc k) (omega arith) below) (name_of (length q - suc k), name_is (length q - suc k) below, binding_prints q k OfMem l h, refl)
    mem_prints (MUpd m a v) q l u h =
        let x = mem_prints m q l u.0 h.0 in let y = exp_prints a q l u.1 h.1 in let z = exp_prints v q l u.2 h.2 in (
          group K.Upd ((x.0 ++ y.0) ++ z.0),
          (x.0, y.0, z.0, x.1, y.1, z.1, refl),
          group_prints K.Upd (mem_text (length q) m ∷ exp_text (length q) a ∷ exp_text (length q) v ∷ []) ((x.0 ++ y.0) ++ z.0) (x.0, y.0 ++ z.0, x.2, (y.0, z.0, y.2, (z.0, [], z.2, refl, sym (append-nil z.0)), refl), append_assoc x.0 y.0 z.0),
        )

  two_forms : (h : Keyword) (P Q : List (Token Paren) → Type 0) (R : List (Token Paren) → Type 0) (s t : List ℕ) → ((us vs : List (Token Paren)) → P us → Q vs → R (group h (us ++ vs))) → Printed P s → Printed Q t → Printed R (group_text h (s ∷ t ∷ []))
  two_forms h P Q R s t f x y =
      (group h (x.0 ++ y.0), f x.0 y.0 x.1 y.1, group_prints h (s ∷ t ∷ []) (x.0 ++ y.0) (x.0, y.0, x.2, (y.0, [], y.2, refl, sym (append-nil y.0)), refl))

  one_form : (h : Keyword) (P R : List (Token Paren) → Type 0) (s : List ℕ) → ((us : List (Token Paren)) → P us → R (group h us)) → Printed P s → Printed R (group_text h (s ∷ []))
  one_form h P R s f x = (group h x.0, f x.0 x.1, group_prints h (s ∷ []) x.0 (x.0, [], x.2, refl, sym (append-nil x.0)))

  bound_form : (h : Keyword) (d : ℕ) (P R : List (Token Paren) → Type 0) (s : List ℕ) → d < 2 ^ 64 → ((us : List (Token Paren)) → P us → R (group h (Lexeme (name_of d) ∷ us))) → Printed P s → Printed R (group_text h (name_of d ∷ s ∷ []))
  bound_form h d P R s l f x =
      (group h (Lexeme (name_of d) ∷ x.0), f x.0 x.1, group_prints h (name_of d ∷ s ∷ []) (Lexeme (name_of d) ∷ x.0) (Lexeme (name_of d) ∷ [], x.0, lexeme_prints (name_of d) (lettered_lexeme 120 d (omega arith) l), (x.0, [], x.2, refl, sym (append-nil x.0)), refl))

  form_prints : (A : Form) (q : List VarSort) → length q + binders A < 2 ^ 64 → Uses Had A → IsWithin left 32 A q → Printed (SpellsForm profile left A (names_of q)) (form_text (length q) A)
  form_prints FTrue q l u h = one_lexeme (SpellsForm profile left FTrue (names_of q)) (codes "tt") true_lexeme refl
  form_prints FFalse q l u h = one_lexeme (SpellsForm profile left FFalse (names_of q)) (codes "ff") false_lexeme refl
  form_prints (FRel p a b) q l u h = two_forms (K.Rel p) (SpellsExp profile left a (names_of q)) (SpellsExp profile left b (names_of q)) (SpellsForm profile left (FRel p a b) (names_of q)) _ _ (λ us vs x y. (us, vs, x, y, refl)) (exp_prints a q (omega arith) u.0 h.0) (exp_prints b q (omega arith) u.1 h.1)
  form_prints (FRd a) q l u h = one_form K.Rd (SpellsExp profile left a (names_of q)) (SpellsForm profile left (FRd a) (names_of q)) _ (λ us x. (us, x, refl)) (exp_prints a q (omega arith) u h)
  form_prints (FWr a) q l u h = one_form K.Wr (SpellsExp profile left a (names_of q)) (SpellsForm profile left (FWr a) (names_of q)) _ (λ us x. (us, x, refl)) (exp_prints a q (omega arith) u h)
  form_prints (FAnd A B) q l u h = two_forms K.And (SpellsForm profile left A (names_of q)) (SpellsForm profile left B (names_of q)) (SpellsForm profile left (FAnd A B) (names_of q)) _ _ (λ us vs x y. (us, vs, x, y, refl)) (form_prints A q (omega arith) u.0 h.0) (form_prints B q (omega arith) u.1 h.1)
  form_prints (FOr A B) q l u h = two_forms K.Or (SpellsForm profile left A (names_of q)) (SpellsForm profile left B (names_of q)) (SpellsForm profile left (FOr A B) (names_of q)) _ _ (λ us vs x y. (us, vs, x, y, refl)) (form_prints A q (omega arith) u.0 h.0) (form_prints B q (omega arith) u.1 h.1)
  form_prints (FImp A B) q l u h = two_forms K.Imp (SpellsForm profile left A (names_of q)) (SpellsForm profile left B (names_of q)) (SpellsForm profile left (FImp A B) (names_of q)) _ _ (λ us vs x y. (us, vs, x, y, refl)) (form_prints A q (omega arith) u.0 h.0) (form_prints B q (omega arith) u.1 h.1)
  form_prints (FAll A) q l u h =
      let w : length q < 2 ^ 64 = omega arith in
      bound_form K.All (length q) (SpellsForm profile left A (names_of (OfWord ∷ q))) (SpellsForm profile left (FAll A) (names_of q)) _ w (λ us x. (name_of (length q), us, name_is (length q) w, x, refl)) (form_prints A (OfWord ∷ q) (omega arith) u h)
  form_prints (FAllm A) q l u h =
      let w : length q < 2 ^ 64 = omega arith in
      bound_form K.Allm (length q) (SpellsForm profile left A (names_of (OfMem ∷ q))) (SpellsForm profile left (FAllm A) (names_of q)) _ w (λ us x. (name_of (length q), us, name_is (length q) w, x, refl)) (form_prints A (OfMem ∷ q) (omega arith) u h)

  -- the printed text spells the formula
  pub print_spells : (f : Form) → IsWithin left 32 f [] → Uses Had f → binders f < 2 ^ 64 → Spells profile left (form_text 0 f) f
  print_spells f h u few =
      let x = form_prints f [] (omega arith) u h in
      record { tokens = x.0; consists = subst (λ l. Consists paren_class l x.0) (append-nil (form_text 0 f)) (subst (λ l. Consists paren_class (form_text 0 f ++ []) l) (append-nil x.0) (x.2 [] [] refl nothing)); spelled = x.1 }
