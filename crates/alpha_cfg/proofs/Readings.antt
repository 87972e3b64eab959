-- The answer to bytes of code is what they read as.
use Rattle.word_ops.specs.declared.Profile.{Profile}
use Rattle.std.proofs.Common.{◌≡◌, ℕ, zero, suc, ◌+◌, ◌-◌, ◌*◌, ◌/◌, ◌<◌, ◌≤◌, Bool, true, false, is_some, List, [], ◌∷◌, ◌++◌, length, length-append, slice_get, Option, Some, None, Result, Ok, Err, IfErr, IsErrAnd, refl, sym, ◌∙◌, ap, subst, arith, ℤ, pos, negsuc}
use Rattle.std.proofs.lemmas.Bool.{ltb-true, lt-ltb}
use Rattle.alpha_words.specs.declared.insn.Insn.{Insn}
use Rattle.alpha_words.specs.declared.fault.BadWord.{BadWord}
use Rattle.alpha_words.specs.Encoding.{Encodes}
use Rattle.alpha_words.specs.Decoding.{decoded}
use Rattle.alpha_words.specs.Lawful.{target_of}
use Rattle.alpha_words.proofs.Words.{decoded-Encodes}
use Rattle.alpha_words.proofs.WordTests.{decoded-flaw}
use Rattle.std.proofs.lemmas.Option.{same_Some}
use Rattle.alpha_cfg.specs.declared.fault.CodeFlaw.{CodeFlaw}
use Rattle.alpha_cfg.specs.declared.fault.CodeFlaw.TheVariants as flaw
use Rattle.alpha_cfg.specs.declared.fault.CodeFault.{CodeFault}
use Rattle.alpha_cfg.specs.declared.fault.CodeFault.TheVariants as fault
use Rattle.alpha_cfg.specs.Flow.{InsideOf, IsInside, IsFinalAt, IsCode, AreInsns, next_of, AreOfProfile}
use Rattle.alpha_cfg.specs.CodeBytes.{code_word_at, EncodesFirst, EncodesCode, IsShapeFlaw, IsFlaw, IsCodeAnswer}
use Rattle.alpha_cfg.specs.Inside.Words.{IsFlawAt}
use Rattle.alpha_cfg.specs.CodeDecoding.{decoded_words, is_inside, first_outside, runs_off, decoded_code, IsDecoded}

module _ (p : Profile) where
  -- the instructions are encoded by the words from index i on
  abbrev AreSpelled : List ℕ → ℕ → List Insn → Type 0
  AreSpelled bytes i code = (k : ℕ) (insn : Insn) → slice_get code k ≡ Some insn → Encodes p (code_word_at bytes (i + k)) insn

  first_spelled : (bytes : List ℕ) (i : ℕ) (insn : Insn) (rest : List Insn) → AreSpelled bytes i (insn ∷ rest) → decoded p (code_word_at bytes i) ≡ Ok insn
  first_spelled bytes i insn rest each =
      let e : i + 0 ≡ i = omega arith in
      (decoded-Encodes p (code_word_at bytes i) insn).1 (subst (λ j. Encodes p (code_word_at bytes j) insn) e (each 0 insn refl))

  rest_spelled : (bytes : List ℕ) (i : ℕ) (insn : Insn) (rest : List Insn) → AreSpelled bytes i (insn ∷ rest) → AreSpelled bytes (suc i) rest
  rest_spelled bytes i insn rest each k x at =
      let e : i + suc k ≡ suc i + k = omega arith in
      subst (λ j. Encodes p (code_word_at bytes j) x) e (each (suc k) x at)

  decoded_words-encoded : (bytes : List ℕ) (i : ℕ) (code : List Insn) → AreSpelled bytes i code → decoded_words p bytes i (length code) ≡ Ok code
  decoded_words-encoded bytes i [] each = refl
  decoded_words-encoded bytes i (insn ∷ rest) each =
      rw (first_spelled bytes i insn rest each, decoded_words-encoded bytes (suc i) rest (rest_spelled bytes i insn rest each)) refl

  decoded_words-bad : (bytes : List ℕ) (i m : ℕ) (bad : BadWord) (code : List Insn) → AreSpelled bytes i code → decoded p (code_word_at bytes (i + length code)) ≡ Err bad → decoded_words p bytes i (length code + suc m) ≡ Err (flaw.BadWord (i + length code) (code_word_at bytes (i + length code)) bad)
  decoded_words-bad bytes i m bad [] each e =
      let here : i + 0 ≡ i = omega arith in
      let count : 0 + suc m ≡ suc m = omega arith in
      let read : decoded p (code_word_at bytes i) ≡ Err bad = subst (λ j. decoded p (code_word_at bytes j) ≡ Err bad) here e in
      rw (count, here, read) refl
  decoded_words-bad bytes i m bad (insn ∷ rest) each e =
      let on : suc i + length rest ≡ i + suc (length rest) = omega arith in
      let count : suc (length rest) + suc m ≡ suc (length rest + suc m) = omega arith in
      let later : decoded p (code_word_at bytes (suc i + length rest)) ≡ Err bad = subst (λ j. decoded p (code_word_at bytes j) ≡ Err bad) (sym on) e in
      let ih = decoded_words-bad bytes (suc i) m bad rest (rest_spelled bytes i insn rest each) later in
      rw (count, first_spelled bytes i insn rest each, ih, on) refl

  -- ---- branches inside

  is_inside-true : (n : ℕ) (to : Option ℤ) → InsideOf n to → is_inside n to ≡ true
  is_inside-true n None h = refl
  is_inside-true n (Some (pos k)) h = lt-ltb k n h
  is_inside-true n (Some (negsuc k)) h = absurd h

  pub InsideOf-is_inside : (n : ℕ) (to : Option ℤ) → is_inside n to ≡ true → InsideOf n to
  InsideOf-is_inside n None h = tt
  InsideOf-is_inside n (Some (pos k)) h = ltb-true k n h
  InsideOf-is_inside n (Some (negsuc k)) h = cc

  abbrev AreInside : ℕ → ℕ → List Insn → Type 0
  AreInside n i code = (k : ℕ) (insn : Insn) → slice_get code k ≡ Some insn → InsideOf n (target_of (i + k) insn)

  first_inside : (n i : ℕ) (insn : Insn) (rest : List Insn) → AreInside n i (insn ∷ rest) → is_inside n (target_of i insn) ≡ true
  first_inside n i insn rest each =
      let e : i + 0 ≡ i = omega arith in
      is_inside-true n (target_of i insn) (subst (λ j. InsideOf n (target_of j insn)) e (each 0 insn refl))

  first_outside-none : (n i : ℕ) (code : List Insn) → AreInside n i code → first_outside n i code ≡ None
  first_outside-none n i [] each = refl
  first_outside-none n i (insn ∷ rest) each =
      rw (first_inside n i insn rest each) (first_outside-none n (suc i) rest (λ k x at. let e : i + suc k ≡ suc i + k = omega arith in subst (λ j. InsideOf n (target_of j x)) e (each (suc k) x at)))

  abbrev IsInsideAt : ℕ → ℕ → List Insn → ℕ → Type 0
  IsInsideAt n i code k = (insn : Insn) → slice_get code k ≡ Some insn → InsideOf n (target_of (i + k) insn)

  the_same : (a b : Insn) → Some a ≡ Some b → a ≡ b
  the_same a b e = cc

  first_outside-some : (n i k : ℕ) (code : List Insn) → k < length code → ((j : ℕ) → j < k → IsInsideAt n i code j) → (IsInsideAt n i code k → ⊥) → first_outside n i code ≡ Some (i + k)
  first_outside-some n i k [] lt each out = absurd (omega arith)
  first_outside-some n i zero (insn ∷ rest) lt each out = go (is_inside n (target_of i insn)) refl where
    zero_more : i + 0 ≡ i
    zero_more = omega arith

    go : (b : Bool) → is_inside n (target_of i insn) ≡ b → first_outside n i (insn ∷ rest) ≡ Some (i + 0)
    go true e = absurd (out (λ x at. subst (λ z. InsideOf n (target_of (i + 0) z)) (the_same insn x at) (subst (λ j. InsideOf n (target_of j insn)) (sym zero_more) (InsideOf-is_inside n (target_of i insn) e))))
    go false e = rw (e, zero_more) refl
  first_outside-some n i (suc k) (insn ∷ rest) lt each out =
      let here : is_inside n (target_of i insn) ≡ true =
      let e : i + 0 ≡ i = omega arith in
      is_inside-true n (target_of i insn) (subst (λ j. InsideOf n (target_of j insn)) e (each 0 (omega arith) insn refl)) in
      let on : suc i + k ≡ i + suc k = omega arith in
      let ih = first_outside-some n (suc i) k rest (omega arith)
      (λ j below x at. let e : i + suc j ≡ suc i + j = omega arith in subst (λ z. InsideOf n (target_of z x)) e (each (suc j) (omega arith) x at))
      (λ inside. out (λ x at. subst (λ z. InsideOf n (target_of z x)) on (inside x at))) in
      rw (here, ih, on) refl

  -- ---- the end

  is_some-none : {A : Type 0} (o : Option A) → o ≡ None → is_some o ≡ false
  is_some-none o e = rw e refl

  pub none-is_some : {A : Type 0} (o : Option A) → is_some o ≡ false → o ≡ None
  none-is_some None e = refl
  none-is_some (Some x) e = cc

  runs_off-false : (i : ℕ) (code : List Insn) → i + 1 ≡ length code → IsFinalAt code i → runs_off code ≡ false
  runs_off-false i [] e ends = absurd (omega arith)
  runs_off-false zero (insn ∷ []) e ends = is_some-none (next_of 0 insn) (ends insn refl)
  runs_off-false (suc i) (insn ∷ []) e ends = absurd (omega arith)
  runs_off-false zero (insn ∷ other ∷ rest) e ends = absurd (omega arith)
  runs_off-false (suc i) (insn ∷ other ∷ rest) e ends = runs_off-false i (other ∷ rest) (omega arith) ends

  runs_off-true : (i : ℕ) (code : List Insn) → i + 1 ≡ length code → (IsFinalAt code i → ⊥) → runs_off code ≡ true
  runs_off-true i [] e ends = absurd (omega arith)
  runs_off-true zero (insn ∷ []) e ends = go (is_some (next_of 0 insn)) refl where
    go : (b : Bool) → is_some (next_of 0 insn) ≡ b → is_some (next_of 0 insn) ≡ true
    go true same = same
    go false same = absurd (ends (λ x at. subst (λ z. next_of 0 z ≡ None) (the_same insn x at) (none-is_some (next_of 0 insn) same)))
  runs_off-true (suc i) (insn ∷ []) e ends = absurd (omega arith)
  runs_off-true zero (insn ∷ other ∷ rest) e ends = absurd (omega arith)
  runs_off-true (suc i) (insn ∷ other ∷ rest) e ends = runs_off-true i (other ∷ rest) (omega arith) ends

  -- ---- whole code

  from_zero : (code : List Insn) → ((i : ℕ) → IsInside code i) → AreInside (length code) 0 code
  from_zero code inside k insn at =
      let e : k ≡ 0 + k = omega arith in
      subst (λ j. InsideOf (length code) (target_of j insn)) e (inside k insn at)

  all_inside : (code : List Insn) → ((i : ℕ) → IsInside code i) → first_outside (length code) 0 code ≡ None
  all_inside code inside = first_outside-none (length code) 0 code (from_zero code inside)

  all_read : (bytes : List ℕ) (code : List Insn) → EncodesCode p bytes code → decoded_words p bytes 0 (length bytes / 4) ≡ Ok code
  all_read bytes code s =
      let count : length bytes / 4 ≡ length code = omega (arith, s.whole) in
      rw count (decoded_words-encoded bytes 0 code (λ k insn at. let e : k ≡ 0 + k = omega arith in subst (λ j. Encodes p (code_word_at bytes j) insn) e (s.first.each k insn at)))

  pub decoded_code-ok : (bytes : List ℕ) (code : List Insn) → EncodesCode p bytes code → IsCode code → Ok code ≡ decoded_code p bytes
  unfolding decoded_code
  decoded_code-ok bytes code s is =
      let last : length code - 1 + 1 ≡ length code = omega (arith, is.nonempty) in
      rw (all_read bytes code s, all_inside code is.inside, runs_off-false (length code - 1) code last is.ends) refl

  decoded_code-target : (bytes : List ℕ) (code : List Insn) (i : ℕ) → EncodesCode p bytes code → IsShapeFlaw code (flaw.Target i) → Err (flaw.Target i) ≡ decoded_code p bytes
  unfolding decoded_code
  decoded_code-target bytes code i s f =
      let zero_plus : (k : ℕ) → 0 + k ≡ k = λ k. omega arith in
      let found : first_outside (length code) 0 code ≡ Some (0 + i) = first_outside-some (length code) 0 i code f.0
      (λ j below x at. subst (λ z. InsideOf (length code) (target_of z x)) (sym (zero_plus j)) (f.2 j below x at))
      (λ inside. f.1 (λ x at. subst (λ z. InsideOf (length code) (target_of z x)) (zero_plus i) (inside x at))) in
      rw (all_read bytes code s, found, zero_plus i) refl

  decoded_code-falls_off : (bytes : List ℕ) (code : List Insn) (i : ℕ) → EncodesCode p bytes code → IsShapeFlaw code (flaw.FallsOff i) → Err (flaw.FallsOff i) ≡ decoded_code p bytes
  unfolding decoded_code
  decoded_code-falls_off bytes code i s f =
      let last : length code - 1 ≡ i = omega (arith, f.0) in
      rw (all_read bytes code s, all_inside code f.2, runs_off-true i code f.0 f.1, last) refl

  decoded_code-bad : (bytes : List ℕ) (code : List Insn) (i word : ℕ) (bad : BadWord) → word ≡ code_word_at bytes i → decoded p word ≡ Err bad → 4 * i + 4 ≤ length bytes → EncodesFirst p bytes i code → Err (flaw.BadWord i word bad) ≡ decoded_code p bytes
  unfolding decoded_code
  decoded_code-bad bytes code i word bad is e within s =
      let m = length bytes / 4 - suc i in
      let count : length bytes / 4 ≡ length code + suc m = omega (arith, s.count) in
      let at : 0 + length code ≡ i = omega (arith, s.count) in
      let read : decoded p (code_word_at bytes (0 + length code)) ≡ Err bad = rw (at, ← is) e in
      let found = decoded_words-bad bytes 0 m bad code (λ k insn has. let z : k ≡ 0 + k = omega arith in subst (λ j. Encodes p (code_word_at bytes j) insn) z (s.each k insn has)) read in
      rw (count, found, at, ← is) refl

  decoded_code-flaw : (bytes : List ℕ) (f : CodeFlaw) → IsFlaw p bytes f → Err f ≡ decoded_code p bytes
  decoded_code-flaw bytes (flaw.BadWord i word bad) h = decoded_code-bad bytes h.3.0 i word bad h.0 ((decoded-flaw p word bad).1 h.1) h.2 h.3.1
  decoded_code-flaw bytes (flaw.Target i) h = decoded_code-target bytes h.0 i h.1 h.2
  decoded_code-flaw bytes (flaw.FallsOff i) h = decoded_code-falls_off bytes h.0 i h.1 h.2

  pub IsDecoded-IsCodeAnswer : (bytes : List ℕ) (r : Result (List Insn) CodeFault) → IsCodeAnswer p bytes r → IsDecoded p bytes r
  IsDecoded-IsCodeAnswer bytes (Ok code) h = decoded_code-ok bytes code h.0 h.1
  IsDecoded-IsCodeAnswer bytes (Err (fault.At f)) h = decoded_code-flaw bytes f h
  IsDecoded-IsCodeAnswer bytes (Err fault.Memory) h = tt

  -- ---- encoded code

  -- each instruction is encoded by its word
  pub AreInsns-EncodesCode : (bytes : List ℕ) (code : List Insn) → EncodesCode p bytes code → AreInsns code
  AreInsns-EncodesCode bytes code s i insn at = (code_word_at bytes i, (s.first.each i insn at).1)

  -- and is the profile's
  pub AreOfProfile-EncodesCode : (bytes : List ℕ) (code : List Insn) → EncodesCode p bytes code → AreOfProfile p code
  AreOfProfile-EncodesCode bytes code s i insn at = (s.first.each i insn at).0

  -- one word more
  one_more : (bytes : List ℕ) (l : List Insn) (k i : ℕ) (x insn : Insn) → AreSpelled bytes k l → Encodes p (code_word_at bytes (k + length l)) insn → slice_get (l ++ insn ∷ []) i ≡ Some x → Encodes p (code_word_at bytes (k + i)) x
  one_more bytes [] k zero x insn each e at = subst (λ z. Encodes p (code_word_at bytes (k + 0)) z) (same_Some insn x at) e
  one_more bytes [] k (suc i) x insn each e at = cc
  one_more bytes (y ∷ l) k zero x insn each e at = each 0 x at
  one_more bytes (y ∷ l) k (suc i) x insn each e at =
      let a : suc k + i ≡ k + suc i = omega arith in
      let b : k + suc (length l) ≡ suc k + length l = omega arith in
      subst (λ j. Encodes p (code_word_at bytes j) x) a (one_more bytes l (suc k) i x insn (rest_spelled bytes k y l each) (subst (λ j. Encodes p (code_word_at bytes j) insn) b e) at)

  pub first_more : (bytes : List ℕ) (code : List Insn) (insn : Insn) (n : ℕ) → EncodesFirst p bytes n code → Encodes p (code_word_at bytes n) insn → EncodesFirst p bytes (n + 1) (code ++ insn ∷ [])
  first_more bytes code insn n h e =
      let here : n ≡ 0 + length code = omega (arith, h.count) in
      record {
        count = omega (arith, length-append code (insn ∷ []), h.count);
        each = λ i x at. let z : 0 + i ≡ i = omega arith in
            subst (λ j. Encodes p (code_word_at bytes j) x) z (one_more bytes code 0 i x insn (λ k y g. let w : k ≡ 0 + k = omega arith in subst (λ j. Encodes p (code_word_at bytes j) y) w (h.each k y g)) (subst (λ j. Encodes p (code_word_at bytes j) insn) here e) at);
      }

  -- the flaw of word i is the first, where those before it encode instructions
  pub flaw-first : (bytes : List ℕ) (i : ℕ) (code : List Insn) (f : CodeFlaw) → EncodesFirst p bytes i code → 4 * i + 4 ≤ length bytes
      → IsFlawAt p bytes i f → IsFlaw p bytes f
  flaw-first bytes i code (flaw.BadWord k word bad) first within h =
      let here : i ≡ k = sym h.0 in
      (h.1 ∙ ap (code_word_at bytes) here, h.2, subst (λ j. 4 * j + 4 ≤ length bytes) here within, (code, subst (λ j. EncodesFirst p bytes j code) here first))
  flaw-first bytes i code (flaw.Target k) first within h = absurd h
  flaw-first bytes i code (flaw.FallsOff k) first within h = absurd h

  -- an error that tells this flaw is right
  pub fault-answers : {A : Type 0} (bytes : List ℕ) (f : CodeFlaw) (r : Result A CodeFault) → IsFlaw p bytes f → IsErrAnd r (λ e. e ≡ fault.At f)
      → IfErr r (λ e. IsCodeAnswer p bytes (Err e))
  fault-answers bytes f (Ok x) h is = tt
  fault-answers bytes f (Err e) h is = subst (λ x. IsCodeAnswer p bytes (Err x)) (sym is) h
