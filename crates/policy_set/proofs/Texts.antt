-- The text of a policy is two lines, from which both formulas are read again.
use Rattle.std.proofs.Common.{◌≡◌, ℕ, suc, ◌+◌, ◌-◌, ◌^◌, ◌<◌, ◌≤◌, Bool, true, false, List, [], ◌∷◌, ◌++◌, length, Ok, refl, sym, ap, ◌∙◌, subst, append_assoc, arith}
use Rattle.std.specs.Prelude.{◌&&◌, nat_lt, codes, decimal}
use Rattle.std.specs.Str.Parse.{AllDigits}
use Rattle.std.specs.List.{AllByRecursion}
use Rattle.std.proofs.lemmas.Bool.{and_parts, ltb-true, ne_eqb}
use Rattle.std.proofs.lemmas.Str.Parse.{digit_from_value}
use Rattle.std.proofs.lemmas.Fmt.{decimal_is_IsNumeral}
use Rattle.word_ops.specs.declared.Profile.TheVariants.{Two}
use Rattle.word_ops.specs.declared.Rel.TheVariants as R
use Rattle.word_ops.specs.Operators.{op_keyword}
use Rattle.word_ops.proofs.EachOp.{each_op}
use Rattle.text_tokens.specs.Lines.{IsLine, ends_in_cr, AreLines, none, by_lf}
use Rattle.formula_tree.specs.Formulas.{Exp, EReg, ELeft, EVar, ELit, EOp, ESel, MemExp, MMem, MVar, MUpd, Form, FTrue, FFalse, FRel, FRd, FWr, FAnd, FOr, FImp, FAll, FAllm}
use Rattle.formula_tree.specs.Scope.{VarSort, OfWord, OfMem, IsOverExp, IsOverMem, IsOver}
use Rattle.formula_tree.specs.Sizes.{form_height, binders}
use Rattle.formula_text.specs.declared.keywords.Keyword.{Keyword}
use Rattle.formula_text.specs.declared.keywords.Keyword.TheVariants as K
use Rattle.formula_text.specs.Keywords.{keyword_text}
use Rattle.formula_text.specs.Parsing.{parsed_form}
use Rattle.formula_text.specs.Printing.{name_of, spaced, group_text, exp_text, mem_text, form_text}
use Rattle.formula_text.specs.Grammar.{Spells}
use Rattle.formula_text.proofs.Printed.{print_spells}
use Rattle.formula_text.proofs.Joined.{spelled_parsed}
use Rattle.policy_set.specs.declared.limits.TheConstants.{MAX_FORM_LINE}
use Rattle.policy_set.specs.Views.{PolicyView, IsPolicyForm, IsPolicy}
use Rattle.policy_set.specs.PolicyText.{SpellsPolicy, from_file}
use Rattle.policy_set.specs.Digest.{policy_text}
use Rattle.policy_set.proofs.Closed.{policy-operators}

-- ---- bytes behind the control codes that end lines

-- neither LF nor CR is among the bytes
abbrev IsBare : List ℕ → Type 0
IsBare l = AllByRecursion (λ b. 13 < b) l

-- the same as a test
abbrev is_bare : List ℕ → Bool
is_bare [] = true
is_bare (b ∷ bs) = nat_lt 13 b && is_bare bs

tested-bare : (l : List ℕ) → is_bare l ≡ true → IsBare l
tested-bare [] e = tt
tested-bare (b ∷ bs) e =
    let p = and_parts (nat_lt 13 b) (is_bare bs) e in (ltb-true 13 b p.0, tested-bare bs p.1)

append-bare : (l m : List ℕ) → IsBare l → IsBare m → IsBare (l ++ m)
append-bare [] m p q = q
append-bare (b ∷ l) m p q = (p.0, append-bare l m p.1 q)

digits-bare : (ds : List ℕ) → AllDigits 10 ds → IsBare ds
digits-bare [] h = tt
digits-bare (c ∷ cs) h =
    let r = digit_from_value c h.0 in (omega (arith, r.0), digits-bare cs h.1)

decimal-bare : (n : ℕ) → n < 2 ^ 64 → IsBare (decimal n)
decimal-bare n h = digits-bare (decimal n) (decimal_is_IsNumeral n h).0.1

lettered-bare : (b n : ℕ) → 13 < b → n < 2 ^ 64 → IsBare (b ∷ decimal n)
lettered-bare b n l h = (l, decimal-bare n h)

keyword-tested : (k : Keyword) → is_bare (keyword_text k) ≡ true
keyword-tested (K.Rel R.Eq) = refl
keyword-tested (K.Rel R.Ult) = refl
keyword-tested (K.Rel R.Ule) = refl
keyword-tested (K.Rel R.Slt) = refl
keyword-tested (K.Rel R.Sle) = refl
keyword-tested (K.Oper o) = each_op (λ p. is_bare (op_keyword p)) refl o
keyword-tested K.Rd = refl
keyword-tested K.Wr = refl
keyword-tested K.And = refl
keyword-tested K.Or = refl
keyword-tested K.Imp = refl
keyword-tested K.All = refl
keyword-tested K.Allm = refl
keyword-tested K.Sel = refl
keyword-tested K.Upd = refl

spaced-bare : (ps : List (List ℕ)) → AllByRecursion IsBare ps → IsBare (spaced ps)
spaced-bare [] h = (omega arith, tt)
spaced-bare (p ∷ ps) h = (omega arith, append-bare p (spaced ps) h.0 (spaced-bare ps h.1))

group-bare : (k : Keyword) (ps : List (List ℕ)) → AllByRecursion IsBare ps
    → IsBare (group_text k ps)
group-bare k ps h = (
  omega arith,
  append-bare (keyword_text k) (spaced ps) (tested-bare (keyword_text k) (keyword-tested k))
      (spaced-bare ps h),
)

-- ---- printed formulas

mutual
  exp-bare : (e : Exp) (d : ℕ) (G : List VarSort) → d < 2 ^ 64 → IsOverExp 32 e G
      → IsBare (exp_text d e)
  exp-bare (EReg r) d G l h = lettered-bare 114 r (omega arith) (omega (arith, h))
  exp-bare ELeft d G l h = absurd h
  exp-bare (EVar n) d G l h = lettered-bare 120 (d - suc n) (omega arith) (omega (arith, l))
  exp-bare (ELit w) d G l h = decimal-bare w h
  exp-bare (EOp o a b) d G l h =
      group-bare (K.Oper o) (exp_text d a ∷ exp_text d b ∷ [])
      (exp-bare a d G l h.0, (exp-bare b d G l h.1, tt))
  exp-bare (ESel m a) d G l h =
      group-bare K.Sel (mem_text d m ∷ exp_text d a ∷ [])
      (mem-bare m d G l h.0, (exp-bare a d G l h.1, tt))

  mem-bare : (m : MemExp) (d : ℕ) (G : List VarSort) → d < 2 ^ 64 → IsOverMem 32 m G
      → IsBare (mem_text d m)
  mem-bare MMem d G l h = tested-bare (codes "m") refl
  mem-bare (MVar n) d G l h = lettered-bare 120 (d - suc n) (omega arith) (omega (arith, l))
  mem-bare (MUpd m a v) d G l h =
      group-bare K.Upd (mem_text d m ∷ exp_text d a ∷ exp_text d v ∷ [])
      (mem-bare m d G l h.0, (exp-bare a d G l h.1, (exp-bare v d G l h.2, tt)))

two-bare : (k : Keyword) (s t : List ℕ) → IsBare s → IsBare t → IsBare (group_text k (s ∷ t ∷ []))
two-bare k s t p q = group-bare k (s ∷ t ∷ []) (p, (q, tt))

form-bare : (A : Form) (d : ℕ) (G : List VarSort) → d + binders A < 2 ^ 64 → IsOver 32 A G
    → IsBare (form_text d A)
form-bare FTrue d G l h = tested-bare (codes "tt") refl
form-bare FFalse d G l h = tested-bare (codes "ff") refl
form-bare (FRel p a b) d G l h =
    two-bare (K.Rel p) (exp_text d a) (exp_text d b) (exp-bare a d G (omega (arith, l)) h.0)
    (exp-bare b d G (omega (arith, l)) h.1)
form-bare (FRd a) d G l h =
    group-bare K.Rd (exp_text d a ∷ []) (exp-bare a d G (omega (arith, l)) h, tt)
form-bare (FWr a) d G l h =
    group-bare K.Wr (exp_text d a ∷ []) (exp-bare a d G (omega (arith, l)) h, tt)
form-bare (FAnd A B) d G l h =
    two-bare K.And (form_text d A) (form_text d B) (form-bare A d G (omega (arith, l)) h.0)
    (form-bare B d G (omega (arith, l)) h.1)
form-bare (FOr A B) d G l h =
    two-bare K.Or (form_text d A) (form_text d B) (form-bare A d G (omega (arith, l)) h.0)
    (form-bare B d G (omega (arith, l)) h.1)
form-bare (FImp A B) d G l h =
    two-bare K.Imp (form_text d A) (form_text d B) (form-bare A d G (omega (arith, l)) h.0)
    (form-bare B d G (omega (arith, l)) h.1)
form-bare (FAll A) d G l h =
    two-bare K.All (name_of d) (form_text (suc d) A)
    (lettered-bare 120 d (omega arith) (omega (arith, l)))
    (form-bare A (suc d) (OfWord ∷ G) (omega (arith, l)) h)
form-bare (FAllm A) d G l h =
    two-bare K.Allm (name_of d) (form_text (suc d) A)
    (lettered-bare 120 d (omega arith) (omega (arith, l)))
    (form-bare A (suc d) (OfMem ∷ G) (omega (arith, l)) h)

-- ---- a formula of a policy is read from its text

binders-low : (A : Form) → binders A ≤ form_height A
binders-low FTrue = omega arith
binders-low FFalse = omega arith
binders-low (FRel p a b) = omega arith
binders-low (FRd a) = omega arith
binders-low (FWr a) = omega arith
binders-low (FAnd A B) = omega (arith, binders-low A, binders-low B)
binders-low (FOr A B) = omega (arith, binders-low A, binders-low B)
binders-low (FImp A B) = omega (arith, binders-low A, binders-low B)
binders-low (FAll A) = omega (arith, binders-low A)
binders-low (FAllm A) = omega (arith, binders-low A)

binders-few : (F : Form) → IsPolicyForm F → 0 + binders F < 2 ^ 64
binders-few F f = omega (arith, binders-low F, f.low)

spells-again : (F : Form) → IsPolicyForm F → Spells Two false (form_text 0 F) F
spells-again F f =
    print_spells Two false F f.over (policy-operators F f) (omega (arith, binders-few F f))

text-bare : (F : Form) → IsPolicyForm F → IsBare (form_text 0 F)
text-bare F f = form-bare F 0 [] (binders-few F f) f.over

same-form : (F G : Form) → IsPolicyForm F → IsPolicyForm G → form_text 0 F ≡ form_text 0 G → F ≡ G
same-form F G f g e =
    let p = spelled_parsed Two false (form_text 0 F) F (spells-again F f) in
    let q = spelled_parsed Two false (form_text 0 G) G (spells-again G g) in
    let same : Ok F ≡ Ok G = sym p ∙ ap (parsed_form Two false) e ∙ q in cc

-- ---- two lines

-- the front up to the first LF is one alone
first-line : (l m ts us : List ℕ) → IsBare l → IsBare m → l ++ (10 ∷ ts) ≡ m ++ (10 ∷ us)
    → (l ≡ m) × (ts ≡ us)
first-line [] [] ts us p q e = (refl, cc)
first-line [] (y ∷ m) ts us p q e = let same : 10 ≡ y = cc in absurd (omega (arith, same, q.0))
first-line (x ∷ l) [] ts us p q e = let same : x ≡ 10 = cc in absurd (omega (arith, same, p.0))
first-line (x ∷ l) (y ∷ m) ts us p q e =
    let same : x ≡ y = cc in
    let behind : l ++ (10 ∷ ts) ≡ m ++ (10 ∷ us) = cc in
    let r = first-line l m ts us p.1 q.1 behind in
    ((λ k. same k ∷ r.0 k), r.1)

-- the first line, and the second with its LF
split-text : (P : PolicyView)
    → policy_text P ≡ form_text 0 P.pre ++ (10 ∷ (form_text 0 P.post ++ (10 ∷ [])))
split-text P = append_assoc (form_text 0 P.pre) (10 ∷ []) (form_text 0 P.post ++ (10 ∷ []))

-- policies of one text have the same formulas
pub same-formulas : (P Q : PolicyView) → IsPolicy P → IsPolicy Q → policy_text P ≡ policy_text Q
    → (P.pre ≡ Q.pre) × (P.post ≡ Q.post)
same-formulas P Q p q e =
    let r =
    first-line (form_text 0 P.pre) (form_text 0 Q.pre) (form_text 0 P.post ++ (10 ∷ []))
    (form_text 0 Q.post ++ (10 ∷ [])) (text-bare P.pre p.asked) (text-bare Q.pre q.asked)
    (sym (split-text P) ∙ e ∙ split-text Q) in
    let s =
    first-line (form_text 0 P.post) (form_text 0 Q.post) [] []
    (text-bare P.post p.promised) (text-bare Q.post q.promised) r.1 in (
      same-form P.pre Q.pre p.asked q.asked r.0,
      same-form P.post Q.post p.promised q.promised s.0,
    )

bare-line : (l : List ℕ) → IsBare l → IsLine l
bare-line [] h = tt
bare-line (b ∷ l) h =
    (ne_eqb b 10 (λ e. let f : b ≡ 10 = e in absurd (omega (arith, f, h.0))), bare-line l h.1)

bare-ends : (l : List ℕ) → IsBare l → ends_in_cr l ≡ false
bare-ends [] h = refl
bare-ends (b ∷ []) h = ne_eqb b 13 (λ e. let f : b ≡ 13 = e in absurd (omega (arith, f, h.0)))
bare-ends (b ∷ c ∷ l) h = bare-ends (c ∷ l) h.1

-- a policy's text spells it, but for its kind
pub text-spells : (P : PolicyView) → IsPolicy P → length (form_text 0 P.pre) ≤ MAX_FORM_LINE
    → length (form_text 0 P.post) ≤ MAX_FORM_LINE
    → SpellsPolicy (policy_text P) (from_file P.pre P.post)
text-spells P p first second =
    let a = text-bare P.pre p.asked in
    let b = text-bare P.post p.promised in
    record {
      first = form_text 0 P.pre;
      second = form_text 0 P.post;
      lines =
          subst (λ l. AreLines l (form_text 0 P.pre ∷ form_text 0 P.post ∷ [])) (sym (split-text P))
          (by_lf (bare-line (form_text 0 P.pre) a) (bare-ends (form_text 0 P.pre) a)
          (by_lf (bare-line (form_text 0 P.post) b) (bare-ends (form_text 0 P.post) b) none));
      first_short = first;
      second_short = second;
      asked = spells-again P.pre p.asked;
      promised = spells-again P.post p.promised;
      no_kind = refl;
    }
