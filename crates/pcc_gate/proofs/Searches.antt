-- The first root that is too high, the first invariant that is no formula, and the first lemma whose
-- formula is none or whose proof proves it not: the searches find them, and else there is none.
use Rattle.std.proofs.Common.{◌≡◌, ℕ, zero, suc, ◌+◌, ◌<◌, ◌≤◌, ◌⊎◌, inl, inr, Bool, true, false, cond, ltb, le-ltb, lt-ltb, List, [], ◌∷◌, ◌++◌, length, take}
use Rattle.std.proofs.Common.{Option, Some, None, refl, sym, ◌∙◌, ap, subst, arith}
use Rattle.std.proofs.lemmas.Bool.{cases_Bool, cases_lt, cond-true, cond-false, false≢true}
use Rattle.std.proofs.lemmas.Option.{none-some}
use Rattle.std.proofs.lemmas.List.Elements.{All-nil, All-cons, All-head, All-tail}
use Rattle.term_table.specs.Tree.{Tree, at}
use Rattle.term_table.specs.Measures.{height_of, capped}
use Rattle.term_table.proofs.Options.{some_injective}
use Rattle.lf_signature.specs.Constants.{declared}
use Rattle.lf_signature.specs.Terms.{form, pf}
use Rattle.lf_signature.specs.Typing.{Checks}
use Rattle.lf_signature.specs.Laws.Decided.{checks_is, checks_follows}
use Rattle.lf_lemmas.specs.Lemmas.{formulas_of, with_lemmas, AreFormulas}
use Rattle.lf_lemmas.specs.Checking.{LemmasCheck}
use Rattle.lf_lemma_check.specs.First.{first_failing, lemma_passes, proves_before}
use Rattle.lf_lemma_check.specs.declared.searches.Asked.TheVariants.{Formula}
use Rattle.lf_lemma_check.proofs.Failing.{none_is, all_formulas, formula_passes}
use Rattle.lf_lemma_check.proofs.Backwards.{all_before, before_passes}
use Rattle.lf_encode.specs.Contexts.{sort_types}
use Rattle.vcgen.specs.declared.condition.TheConstants.{MAX_HEIGHT}
use Rattle.vcgen.specs.Encoded.{context_of, AreForms}
use Rattle.pcc_gate.specs.Refusals.{AreLow}
use Rattle.pcc_gate.specs.First.{has_form, too_high, formless, lemma_formless, lemma_unproved}
use Rattle.pcc_gate.specs.Refusals.{IsFirstHeight, IsFirstNoForm, IsFirstNoFormula, IsFirstUnproved}
use Rattle.lf_signature.specs.declared.editions.WordSignature.{WordSignature}

-- ---- a test

-- what can't be passed fails
pub not-true : (b : Bool) → (b ≡ true → ⊥) → b ≡ false
not-true true h = absurd (h refl)
not-true false h = refl

pub not-both : (b : Bool) → b ≡ false → b ≡ true → ⊥
not-both b f t = false≢true (sym f ∙ t)

-- ---- a limit

-- a test of a number against a limit that it is past, or within
pub past : {A : Type 0} (limit n : ℕ) (x y : A) → limit < n → cond (ltb limit n) x y ≡ x
past limit n x y h = cond-true (ltb limit n) x y (lt-ltb limit n h)

pub within : {A : Type 0} (limit n : ℕ) (x y : A) → n ≤ limit → cond (ltb limit n) x y ≡ y
within limit n x y h = cond-false (ltb limit n) x y (le-ltb limit n h)

-- ---- heights

abbrev IsLow : Tree → Type 0
IsLow t = height_of t ≤ MAX_HEIGHT

pub low_none : (ts : List Tree) → AreLow ts → too_high ts ≡ None
low_none [] h = refl
low_none (t ∷ ts) h = within MAX_HEIGHT (height_of t) (Some (height_of t)) (too_high ts) (All-head IsLow t ts h) ∙ low_none ts (All-tail IsLow t ts h)

high_found : (front : List Tree) (t : Tree) (rest : List Tree) → AreLow front → MAX_HEIGHT < height_of t → too_high (front ++ t ∷ rest) ≡ Some (height_of t)
high_found [] t rest low high = past MAX_HEIGHT (height_of t) (Some (height_of t)) (too_high rest) high
high_found (u ∷ us) t rest low high =
    within MAX_HEIGHT (height_of u) (Some (height_of u)) (too_high (us ++ t ∷ rest)) (All-head IsLow u us low)
    ∙ high_found us t rest (All-tail IsLow u us low) high

pub first_high : (ts : List Tree) (h : ℕ) (f : IsFirstHeight ts h) → too_high ts ≡ Some (height_of f.tree)
first_high ts h f = ap too_high f.split ∙ high_found f.front f.tree f.rest f.low f.high

behind_low : (t : Tree) (ts : List Tree) (h : ℕ) → IsLow t → IsFirstHeight ts h → IsFirstHeight (t ∷ ts) h
behind_low t ts h low f = record {
  front = t ∷ f.front;
  tree = f.tree;
  rest = f.rest;
  split = ap (λ l. t ∷ l) f.split;
  low = All-cons IsLow t f.front low f.low;
  high = f.high;
  is = f.is;
}

pub low_decided : (ts : List Tree) → AreLow ts ⊎ ((h : ℕ) × IsFirstHeight ts h)
low_decided [] = inl (All-nil IsLow)
low_decided (t ∷ ts) =
    elim (cases_lt MAX_HEIGHT (height_of t)) [
      | inl high ↦ inr (capped (height_of t), record { front = []; tree = t; rest = ts; split = refl; low = All-nil IsLow; high = high; is = refl })
      | inr low ↦ elim (low_decided ts) [ inl all ↦ inl (All-cons IsLow t ts low all) | inr f ↦ inr (f.0, behind_low t ts f.0 low f.1) ]
    ]

pub none_low : (ts : List Tree) → too_high ts ≡ None → AreLow ts
none_low ts e = elim (low_decided ts) [ inl low ↦ low | inr f ↦ absurd (none-some (height_of f.1.tree) (sym e ∙ first_high ts f.0 f.1)) ]

-- ---- forms

module _ (s : WordSignature) (bound : Option ℕ) where
  abbrev IsForm : Tree → Type 0
  IsForm t = Checks (declared s) (sort_types (context_of bound)) t form

  form_decided : (t : Tree) → IsForm t ⊎ (IsForm t → ⊥)
  form_decided t =
      elim (cases_Bool (has_form s bound t)) [
        | inl right ↦ inl (checks_follows (declared s) t (sort_types (context_of bound)) form right)
        | inr wrong ↦ inr (λ h. false≢true (sym wrong ∙ checks_is (declared s) h))
      ]

  -- what isn't derived fails the test
  not_form : (t : Tree) → (IsForm t → ⊥) → has_form s bound t ≡ false
  not_form t wrong =
      not-true (has_form s bound t)
      (λ e. wrong (checks_follows (declared s) t (sort_types (context_of bound)) form e))

  pub forms_none : (ps : List (ℕ × Tree)) (k : ℕ) → AreForms s bound ps → formless s bound k ps ≡ None
  forms_none [] k h = refl
  forms_none (p ∷ ps) k h =
      cond-true (has_form s bound p.1) (formless s bound (suc k) ps) (Some k) (checks_is (declared s) h.0)
      ∙ forms_none ps (suc k) h.1

  no_form_found : (front : List (ℕ × Tree)) (p : ℕ × Tree) (rest : List (ℕ × Tree)) (k : ℕ)
      → AreForms s bound front → (IsForm p.1 → ⊥) →
      formless s bound k (front ++ p ∷ rest) ≡ Some (k + length front)
  no_form_found [] p rest k forms wrong =
      let e : k ≡ k + 0 = omega arith in
      cond-false (has_form s bound p.1) (formless s bound (suc k) rest) (Some k) (not_form p.1 wrong)
      ∙ ap Some e
  no_form_found (q ∷ qs) p rest k forms wrong =
      let e : suc k + length qs ≡ k + suc (length qs) = omega arith in
      cond-true (has_form s bound q.1) (formless s bound (suc k) (qs ++ p ∷ rest)) (Some k)
      (checks_is (declared s) forms.0)
      ∙ no_form_found qs p rest (suc k) forms.1 wrong ∙ ap Some e

  pub first_no_form : (ps : List (ℕ × Tree)) (k : ℕ) → IsFirstNoForm s bound ps k
      → formless s bound 0 ps ≡ Some k
  first_no_form ps k f =
      let e : 0 + length f.front ≡ k = omega (arith, f.is) in
      ap (formless s bound 0) f.split ∙ no_form_found f.front f.inv f.rest 0 f.forms f.no_form ∙ ap Some e

  behind_form : (p : ℕ × Tree) (ps : List (ℕ × Tree)) (k : ℕ) → IsForm p.1 → IsFirstNoForm s bound ps k
      → IsFirstNoForm s bound (p ∷ ps) (suc k)
  behind_form p ps k right f = record {
    front = p ∷ f.front;
    inv = f.inv;
    rest = f.rest;
    split = ap (λ l. p ∷ l) f.split;
    forms = (right, f.forms);
    no_form = f.no_form;
    is = ap suc f.is;
  }

  pub forms_decided : (ps : List (ℕ × Tree)) → AreForms s bound ps ⊎ ((k : ℕ) × IsFirstNoForm s bound ps k)
  forms_decided [] = inl tt
  forms_decided (p ∷ ps) =
      elim (form_decided p.1) [
        | inr wrong ↦ inr (
          0,
          record {
            front = [];
            inv = p;
            rest = ps;
            split = refl;
            forms = tt;
            no_form = wrong;
            is = refl;
          },
        )
        | inl right ↦ elim (forms_decided ps)
            [ inl all ↦ inl (right, all) | inr f ↦ inr (suc f.0, behind_form p ps f.0 right f.1) ]
      ]

  pub none_forms : (ps : List (ℕ × Tree)) (k : ℕ) → formless s bound k ps ≡ None → AreForms s bound ps
  none_forms ps k e = elim (forms_decided ps) [
    | inl forms ↦ forms
    | inr f ↦ absurd (none-some (k + length f.1.front)
        (sym e ∙ ap (formless s bound k) f.1.split
        ∙ no_form_found f.1.front f.1.inv f.1.rest k f.1.forms f.1.no_form))
  ]

-- ---- lemmas

module _ (test : ℕ → Tree × Tree → Bool) where
  -- a lemma that fails is found where those before it pass
  failing_found : (front : List (Tree × Tree)) (l : Tree × Tree) (rest : List (Tree × Tree)) (k : ℕ)
      → first_failing test k front ≡ None → test (k + length front) l ≡ false →
      first_failing test k (front ++ l ∷ rest) ≡ Some (k + length front)
  failing_found [] l rest k none wrong =
      let e : k ≡ k + 0 = omega arith in
      cond-false (test k l) (first_failing test (suc k) rest) (Some k)
      (ap (λ n. test n l) e ∙ wrong)
      ∙ ap Some e
  failing_found (q ∷ qs) l rest k none wrong =
      let e : suc k + length qs ≡ k + suc (length qs) = omega arith in
      go (test k q) none
      (λ h. failing_found qs l rest (suc k) h (ap (λ n. test n l) e ∙ wrong) ∙ ap Some e)
    where
      go : (b : Bool) → cond b (first_failing test (suc k) qs) (Some k) ≡ None →
          (first_failing test (suc k) qs ≡ None →
          first_failing test (suc k) (qs ++ l ∷ rest) ≡ Some (k + suc (length qs))) →
          cond b (first_failing test (suc k) (qs ++ l ∷ rest)) (Some k)
          ≡ Some (k + suc (length qs))
      go true h more = more h
      go false h more = absurd (none-some k (sym h))

  -- the lemma of this number fails, and those before it pass, the first being told k
  record IsSplit (k : ℕ) (lemmas : List (Tree × Tree)) (n : ℕ) : Type 0 where
    front : List (Tree × Tree)
    lemma : Tree × Tree
    rest : List (Tree × Tree)
    split : lemmas ≡ front ++ lemma ∷ rest
    none : first_failing test k front ≡ None
    fails : test n lemma ≡ false
    is : n ≡ k + length front

  split_next : (k : ℕ) (l : Tree × Tree) (lemmas : List (Tree × Tree)) (n : ℕ) →
      test k l ≡ true → IsSplit (suc k) lemmas n → IsSplit k (l ∷ lemmas) n
  split_next k l lemmas n right f =
      let far : suc k + length f.front ≡ k + suc (length f.front) = omega arith in
      record {
        front = l ∷ f.front;
        lemma = f.lemma;
        rest = f.rest;
        split = ap (λ z. l ∷ z) f.split;
        none = cond-true (test k l) (first_failing test (suc k) f.front) (Some k) right ∙ f.none;
        fails = f.fails;
        is = f.is ∙ far;
      }

  failing_split : (k : ℕ) (lemmas : List (Tree × Tree)) (n : ℕ) →
      first_failing test k lemmas ≡ Some n → IsSplit k lemmas n
  failing_split k [] n e = absurd (none-some n e)
  failing_split k (l ∷ lemmas) n e =
      go (test k l) refl e (λ h. failing_split (suc k) lemmas n h)
    where
      go : (b : Bool) → test k l ≡ b →
          cond b (first_failing test (suc k) lemmas) (Some k) ≡ Some n →
          (first_failing test (suc k) lemmas ≡ Some n → IsSplit (suc k) lemmas n) →
          IsSplit k (l ∷ lemmas) n
      go true q h more = split_next k l lemmas n q (more h)
      go false q h more =
          let same : k ≡ n = some_injective h in
          let start : k ≡ k + 0 = omega arith in
          record {
            front = [];
            lemma = l;
            rest = lemmas;
            split = refl;
            none = refl;
            fails = ap (λ i. test i l) (sym same) ∙ q;
            is = sym same ∙ start;
          }

-- the formulas before a lemma of the front, and those before the one behind the front
formulas_before : (front rest : List (Tree × Tree)) (n : ℕ) (l : Tree × Tree) →
    at front n ≡ Some l → take n (formulas_of (front ++ rest)) ≡ take n (formulas_of front)
formulas_before [] rest n l e = absurd (none-some l e)
formulas_before (p ∷ ps) rest zero l e = refl
formulas_before (p ∷ ps) rest (suc n) l e = ap (λ z. p.0 ∷ z) (formulas_before ps rest n l e)

formulas_front : (front rest : List (Tree × Tree)) →
    take (length front) (formulas_of (front ++ rest)) ≡ formulas_of front
formulas_front [] rest = refl
formulas_front (p ∷ ps) rest = ap (λ z. p.0 ∷ z) (formulas_front ps rest)

module _ (s : WordSignature) where
  -- whether the lemma's formula is one
  abbrev formula_test : ℕ → Tree × Tree → Bool
  formula_test n l = lemma_passes (declared s) Formula l

  pub formulas_none : (lemmas : List (Tree × Tree)) →
      AreFormulas (declared s) (formulas_of lemmas) → lemma_formless s lemmas ≡ None
  formulas_none lemmas h = (all_formulas (declared s) lemmas).1 h

  pub none_formulas : (lemmas : List (Tree × Tree)) → lemma_formless s lemmas ≡ None →
      AreFormulas (declared s) (formulas_of lemmas)
  none_formulas lemmas e = (all_formulas (declared s) lemmas).0 e

  pub first_no_formula : (lemmas : List (Tree × Tree)) (k : ℕ) → IsFirstNoFormula s lemmas k →
      lemma_formless s lemmas ≡ Some k
  first_no_formula lemmas k f =
      let e : 0 + length f.front ≡ k = omega (arith, f.is) in
      let wrong : lemma_passes (declared s) Formula f.lemma ≡ false =
      not-true (lemma_passes (declared s) Formula f.lemma)
      (λ q. f.no_form ((formula_passes (declared s) f.lemma).0 q)) in
      ap (lemma_formless s) f.split
      ∙ failing_found formula_test f.front f.lemma f.rest 0 (formulas_none f.front f.forms) wrong
      ∙ ap Some e

  formless_split : (lemmas : List (Tree × Tree)) (k : ℕ) → IsSplit formula_test 0 lemmas k →
      IsFirstNoFormula s lemmas k
  formless_split lemmas k f = record {
    front = f.front;
    lemma = f.lemma;
    rest = f.rest;
    split = f.split;
    forms = none_formulas f.front f.none;
    no_form = λ h. not-both (lemma_passes (declared s) Formula f.lemma) f.fails
        ((formula_passes (declared s) f.lemma).1 h);
    is = let e = f.is in omega (arith, e);
  }

  pub formulas_decided : (lemmas : List (Tree × Tree)) →
      AreFormulas (declared s) (formulas_of lemmas) ⊎ ((k : ℕ) × IsFirstNoFormula s lemmas k)
  formulas_decided lemmas = go (lemma_formless s lemmas) refl where
    go : (o : Option ℕ) → lemma_formless s lemmas ≡ o →
        AreFormulas (declared s) (formulas_of lemmas) ⊎ ((k : ℕ) × IsFirstNoFormula s lemmas k)
    go None e = inl (none_formulas lemmas e)
    go (Some k) e = inr (k, formless_split lemmas k (failing_split formula_test 0 lemmas k e))

  -- whether the proof of a lemma of these proves its formula with those before it
  abbrev proof_test : List (Tree × Tree) → ℕ → Tree × Tree → Bool
  proof_test lemmas = proves_before (declared s) (formulas_of lemmas)

  pub proved_none : (lemmas : List (Tree × Tree)) → LemmasCheck (declared s) lemmas →
      lemma_unproved s lemmas ≡ None
  proved_none lemmas h = (all_before (declared s) lemmas).1 h

  pub none_proved : (lemmas : List (Tree × Tree)) → lemma_unproved s lemmas ≡ None →
      LemmasCheck (declared s) lemmas
  none_proved lemmas e = (all_before (declared s) lemmas).0 e

  -- a front of lemmas is checked among all as by itself
  front_none : (front rest : List (Tree × Tree)) → LemmasCheck (declared s) front →
      first_failing (proof_test (front ++ rest)) 0 front ≡ None
  front_none front rest h =
      (none_is (proof_test (front ++ rest)) front).1
      (λ n l e.
      (before_passes (declared s) (formulas_of (front ++ rest)) n l).1
      (subst (λ z. Checks (with_lemmas (declared s) z) [] l.1 (pf l.0))
      (sym (formulas_before front rest n l e)) (h n l e)))

  front_checks : (front rest : List (Tree × Tree)) →
      first_failing (proof_test (front ++ rest)) 0 front ≡ None → LemmasCheck (declared s) front
  front_checks front rest e n l q =
      subst (λ z. Checks (with_lemmas (declared s) z) [] l.1 (pf l.0))
      (formulas_before front rest n l q)
      ((before_passes (declared s) (formulas_of (front ++ rest)) n l).0
      ((none_is (proof_test (front ++ rest)) front).0 e n l q))

  -- so is the lemma behind it
  next_checks : (front rest : List (Tree × Tree)) (l : Tree × Tree) →
      (proof_test (front ++ rest) (length front) l ≡ true) →
      Checks (with_lemmas (declared s) (formulas_of front)) [] l.1 (pf l.0)
  next_checks front rest l e =
      subst (λ z. Checks (with_lemmas (declared s) z) [] l.1 (pf l.0)) (formulas_front front rest)
      ((before_passes (declared s) (formulas_of (front ++ rest)) (length front) l).0 e)

  next_passes : (front rest : List (Tree × Tree)) (l : Tree × Tree) →
      Checks (with_lemmas (declared s) (formulas_of front)) [] l.1 (pf l.0) →
      proof_test (front ++ rest) (length front) l ≡ true
  next_passes front rest l h =
      (before_passes (declared s) (formulas_of (front ++ rest)) (length front) l).1
      (subst (λ z. Checks (with_lemmas (declared s) z) [] l.1 (pf l.0))
      (sym (formulas_front front rest)) h)

  pub first_no_proof : (lemmas : List (Tree × Tree)) (k : ℕ) → IsFirstUnproved s lemmas k →
      lemma_unproved s lemmas ≡ Some k
  first_no_proof lemmas k f =
      let all : List (Tree × Tree) = f.lemma ∷ f.rest in
      let z : 0 + length f.front ≡ length f.front = omega arith in
      let e : 0 + length f.front ≡ k = omega (arith, f.is) in
      let test : ℕ → Tree × Tree → Bool = proof_test (f.front ++ all) in
      let wrong : test (length f.front) f.lemma ≡ false =
      not-true (test (length f.front) f.lemma)
      (λ q. f.unproved (next_checks f.front all f.lemma q)) in
      ap (lemma_unproved s) f.split
      ∙ failing_found test f.front f.lemma f.rest 0 (front_none f.front all f.proved)
      (ap (λ n. test n f.lemma) z ∙ wrong)
      ∙ ap Some e

  unproved_split : (lemmas : List (Tree × Tree)) (k : ℕ) →
      IsSplit (proof_test lemmas) 0 lemmas k → IsFirstUnproved s lemmas k
  unproved_split lemmas k f =
      let all : List (Tree × Tree) = f.lemma ∷ f.rest in
      let far : k ≡ length f.front = let e = f.is in omega (arith, e) in
      let none : first_failing (proof_test (f.front ++ all)) 0 f.front ≡ None =
      subst (λ z. first_failing (proof_test z) 0 f.front ≡ None) f.split f.none in
      let fails : proof_test (f.front ++ all) (length f.front) f.lemma ≡ false =
      subst (λ n. proof_test (f.front ++ all) n f.lemma ≡ false) far
      (subst (λ z. proof_test z k f.lemma ≡ false) f.split f.fails) in
      record {
        front = f.front;
        lemma = f.lemma;
        rest = f.rest;
        split = f.split;
        proved = front_checks f.front all none;
        unproved = λ h. not-both (proof_test (f.front ++ all) (length f.front) f.lemma) fails
            (next_passes f.front all f.lemma h);
        is = far;
      }

  pub proofs_decided : (lemmas : List (Tree × Tree)) →
      LemmasCheck (declared s) lemmas ⊎ ((k : ℕ) × IsFirstUnproved s lemmas k)
  proofs_decided lemmas = go (lemma_unproved s lemmas) refl where
    go : (o : Option ℕ) → lemma_unproved s lemmas ≡ o →
        LemmasCheck (declared s) lemmas ⊎ ((k : ℕ) × IsFirstUnproved s lemmas k)
    go None e = inl (none_proved lemmas e)
    go (Some k) e =
        inr (k, unproved_split lemmas k (failing_split (proof_test lemmas) 0 lemmas k e))
