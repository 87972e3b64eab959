-- The lexemes: what the tests of keywords and names say.
use Rattle.std.proofs.Common.{◌≡◌, ℕ, Bool, true, false, cond, List, [], ◌∷◌, Option, Some, None, refl, ap, ◌∙◌, arith, sym, if◌then◌else◌}
use Rattle.std.specs.Prelude.{◌&&◌, not, is_some, codes}
use Rattle.std.specs.Str.{bytes_eq}
use Rattle.std.proofs.lemmas.Bool.{true≢false, and_parts, or_parts, leb-true, false_from_ne_true, not-true}
use Rattle.std.proofs.lemmas.Option.{same_Some}
use Rattle.word_ops.specs.declared.Op.{Op}
use Rattle.word_ops.specs.Operators.{op_keyword, op_of_keyword, has_op, of_profile}
use Rattle.word_ops.proofs.EachOp.{op_of_keyword-op_keyword, op_keyword_is}
use Rattle.word_ops.specs.declared.Rel.TheVariants as R
use Rattle.text_tokens.specs.Registers.{register_of}
use Rattle.text_tokens.specs.Numbers.{is_digit, begins_with_digit}
use Rattle.text_tokens.proofs.Known.{same_bytes}
use Rattle.formula_text.specs.declared.keywords.Keyword.{Keyword}
use Rattle.formula_text.specs.declared.keywords.Keyword.TheVariants as K
use Rattle.formula_text.specs.Keywords.{keyword_text, keywords, keyword_in, keyword_or, keyword_of, binder_sort, has_keyword}
use Rattle.formula_text.specs.Bindings.{is_lower, are_lower_or_digits, is_identifier, is_left, is_reserved, is_name}
use Rattle.word_ops.specs.declared.Profile.{Profile}
use Rattle.formula_text.specs.declared.keywords.PhraseSort.{PhraseSort}
use Rattle.std.specs.List.{list_all}

-- ---- keywords

-- the text of a keyword that the profile has is found to be it
abbrev IsFound : Profile → Keyword → Type 0
IsFound profile h = has_keyword profile h ≡ true → keyword_of profile (keyword_text h) ≡ Some h

had_operator : (profile : Profile) (o : Op) → IsFound profile (K.Oper o)
unfolding keyword_of
had_operator profile o has =
    ap (λ p. keyword_or (of_profile profile p) (keyword_in keywords (op_keyword o))) (op_of_keyword-op_keyword o)
    ∙ ap (λ b. keyword_or (if b then Some o else None) (keyword_in keywords (op_keyword o))) has

plain_found : (profile : Profile) (h : Keyword) → keyword_in keywords (keyword_text h) ≡ Some h → op_of_keyword (keyword_text h) ≡ None → keyword_of profile (keyword_text h) ≡ Some h
unfolding keyword_of
plain_found profile h e none = ap (λ p. keyword_or (of_profile profile p) (keyword_in keywords (keyword_text h))) none ∙ e

pub keyword_found : (profile : Profile) (h : Keyword) → has_keyword profile h ≡ true → keyword_of profile (keyword_text h) ≡ Some h
unfolding keywords op_of_keyword
keyword_found profile (K.Rel R.Eq) has = plain_found profile (K.Rel R.Eq) refl refl
keyword_found profile (K.Rel R.Ult) has = plain_found profile (K.Rel R.Ult) refl refl
keyword_found profile (K.Rel R.Ule) has = plain_found profile (K.Rel R.Ule) refl refl
keyword_found profile (K.Rel R.Slt) has = plain_found profile (K.Rel R.Slt) refl refl
keyword_found profile (K.Rel R.Sle) has = plain_found profile (K.Rel R.Sle) refl refl
keyword_found profile K.Rd has = plain_found profile K.Rd refl refl
keyword_found profile K.Wr has = plain_found profile K.Wr refl refl
keyword_found profile K.And has = plain_found profile K.And refl refl
keyword_found profile K.Or has = plain_found profile K.Or refl refl
keyword_found profile K.Imp has = plain_found profile K.Imp refl refl
keyword_found profile K.All has = plain_found profile K.All refl refl
keyword_found profile K.Allm has = plain_found profile K.Allm refl refl
keyword_found profile (K.Oper o) has = had_operator profile o has
keyword_found profile K.Sel has = plain_found profile K.Sel refl refl
keyword_found profile K.Upd has = plain_found profile K.Upd refl refl

-- a keyword that binds is each profile's
pub binder_had : (profile : Profile) (h : Keyword) (q : PhraseSort) → binder_sort h ≡ Some q → has_keyword profile h ≡ true
binder_had profile K.All q e = refl
binder_had profile K.Allm q e = refl
binder_had profile h q e = cc

keyword_by : (h g : Keyword) (hs : List Keyword) (w : List ℕ) (t : Bool) → bytes_eq w (keyword_text g) ≡ t → cond t (Some g) (keyword_in hs w) ≡ Some h → (keyword_in hs w ≡ Some h → w ≡ keyword_text h) → w ≡ keyword_text h
keyword_by h g hs w true e f k = same_bytes w (keyword_text g) e ∙ (let s : g ≡ h = cc in ap keyword_text s)
keyword_by h g hs w false e f k = k f

keyword_in_is : (hs : List Keyword) (w : List ℕ) (h : Keyword) → keyword_in hs w ≡ Some h → w ≡ keyword_text h
keyword_in_is [] w h e = cc
keyword_in_is (g ∷ hs) w h e = keyword_by h g hs w (bytes_eq w (keyword_text g)) refl e (λ f. keyword_in_is hs w h f)

-- what is found in a list of keywords that the profile has is one that it has
listed_had : (profile : Profile) (hs : List Keyword) (w : List ℕ) (h : Keyword) → list_all (has_keyword profile) hs ≡ true → keyword_in hs w ≡ Some h → has_keyword profile h ≡ true
listed_had profile [] w h all e = cc
listed_had profile (g ∷ hs) w h all e = listed_by (bytes_eq w (keyword_text g)) e (λ f. listed_had profile hs w h parts.1 f)
  where
    parts : (has_keyword profile g ≡ true) × (list_all (has_keyword profile) hs ≡ true)
    parts = and_parts (has_keyword profile g) (list_all (has_keyword profile) hs) all

    listed_by : (b : Bool) → cond b (Some g) (keyword_in hs w) ≡ Some h → (keyword_in hs w ≡ Some h → has_keyword profile h ≡ true) → has_keyword profile h ≡ true
    listed_by true f k = ap (has_keyword profile) (sym (same_Some g h f)) ∙ parts.0
    listed_by false f k = k f

keywords_had : (profile : Profile) → list_all (has_keyword profile) keywords ≡ true
unfolding keywords
keywords_had profile = refl

-- the lexeme is the keyword's text, and the profile has the keyword
pub record IsKeyword (profile : Profile) (w : List ℕ) (h : Keyword) : Type 0 where
  pub text : w ≡ keyword_text h
  pub had : has_keyword profile h ≡ true

operator_had : (profile : Profile) (w : List ℕ) (h : Keyword) (p : Op) (b : Bool) → op_of_keyword w ≡ Some p → has_op profile p ≡ b →
    keyword_or (if b then Some p else None) (keyword_in keywords w) ≡ Some h → IsKeyword profile w h
operator_had profile w h p true e had f =
    let same : K.Oper p ≡ h = same_Some (K.Oper p) h f in
    record { text = op_keyword_is w p e ∙ ap keyword_text same; had = ap (has_keyword profile) (sym same) ∙ had }
operator_had profile w h p false e had f = record { text = keyword_in_is keywords w h f; had = listed_had profile keywords w h (keywords_had profile) f }

operator_by : (profile : Profile) (w : List ℕ) (h : Keyword) (o : Option Op) → op_of_keyword w ≡ o → keyword_or (of_profile profile o) (keyword_in keywords w) ≡ Some h → IsKeyword profile w h
operator_by profile w h (Some p) e f = operator_had profile w h p (has_op profile p) e refl f
operator_by profile w h None e f = record { text = keyword_in_is keywords w h f; had = listed_had profile keywords w h (keywords_had profile) f }

pub keyword_is : (profile : Profile) (w : List ℕ) (h : Keyword) → keyword_of profile w ≡ Some h → IsKeyword profile w h
unfolding keyword_of
keyword_is profile w h e = operator_by profile w h (op_of_keyword w) refl e

-- ---- names

identifier_no_digit : (w : List ℕ) → is_identifier w ≡ true → begins_with_digit w ≡ false
identifier_no_digit [] e = refl
identifier_no_digit (b ∷ bs) e =
    let p = and_parts (is_lower b) (are_lower_or_digits bs) e in
    let l = leb-true 97 b (and_parts _ _ p.0).0 in
    false_from_ne_true (is_digit b) (λ f. absurd (omega (arith, l, leb-true b 57 (and_parts _ _ f).1)))

no_some : {A : Type 0} (o : Option A) → is_some o ≡ false → o ≡ None
no_some None e = refl
no_some (Some x) e = absurd (true≢false e)

pub record IsFree (left : Bool) (w : List ℕ) : Type 0 where
  pub digit : begins_with_digit w ≡ false
  pub register : register_of w ≡ None
  pub memory : bytes_eq w (codes "m") ≡ false
  pub steps : is_left left w ≡ false

-- a name is no number, no register, not `m` and not that of the steps that are left
pub name_free : (profile : Profile) (left : Bool) (w : List ℕ) → is_name profile left w ≡ true
    → IsFree left w
unfolding is_name
name_free profile left w e =
    let p = and_parts (is_identifier w)
    (not (is_some (register_of w)) && not (is_reserved profile left w)) e in
    let q = and_parts (not (is_some (register_of w))) (not (is_reserved profile left w)) p.1 in
    let r = or_parts (is_some (keyword_of profile w)) _
    (not-true (is_reserved profile left w) q.1) in
    let s = or_parts (bytes_eq w (codes "tt")) _ r.1 in
    let t = or_parts (bytes_eq w (codes "ff")) _ s.1 in
    let u = or_parts (bytes_eq w (codes "m")) (is_left left w) t.1 in
    record {
      digit = identifier_no_digit w p.0;
      register = no_some (register_of w) (not-true _ q.0);
      memory = u.0;
      steps = u.1;
    }
