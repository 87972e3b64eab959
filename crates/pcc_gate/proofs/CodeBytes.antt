-- Bytes of whole words encode code, and no other, or have a first flaw.
use Rattle.std.proofs.Common.{◌≡◌, ℕ, zero, suc, ◌+◌, ◌*◌, ◌-◌, ◌/◌, ◌<◌, ◌≤◌, ◌⊎◌, inl, inr, List, [], ◌∷◌, ◌++◌, length}
use Rattle.std.proofs.Common.{slice_get, Option, Some, None, Result, Ok, Err, refl, sym, ◌∙◌, ap, subst, length-append, arith, ℤ, pos, negsuc}
use Rattle.std.proofs.lemmas.Bool.{cases_lt}
use Rattle.std.proofs.lemmas.Option.{same_Some, none-some, slice_get_within}
use Rattle.alpha_words.specs.declared.insn.Insn.{Insn}
use Rattle.alpha_words.specs.declared.fault.BadWord.{BadWord}
use Rattle.alpha_words.specs.Encoding.{Encodes}
use Rattle.alpha_words.specs.Decoding.{decoded}
use Rattle.alpha_words.specs.Lawful.{target_of}
use Rattle.alpha_words.proofs.Words.{decoded-Encodes}
use Rattle.alpha_words.proofs.WordTests.{decoded-flaw}
use Rattle.alpha_cfg.specs.declared.code.TheConstants.{MAX_WORDS}
use Rattle.alpha_cfg.specs.declared.fault.CodeFlaw.{CodeFlaw}
use Rattle.alpha_cfg.specs.declared.fault.CodeFlaw.TheVariants as flaw
use Rattle.alpha_cfg.specs.Flow.{InsideOf, IsInside, IsFinal, AreInsns, IsCode, next_of}
use Rattle.alpha_cfg.specs.CodeBytes.{code_word_at, EncodesFirst, EncodesCode, IsFlaw}
use Rattle.alpha_cfg.specs.CodeDecoding.{decoded_code}
use Rattle.alpha_cfg.proofs.Readings.{decoded_code-ok, AreInsns-EncodesCode}
use Rattle.word_ops.specs.declared.Profile.{Profile}

-- ---- what holds of each element, or not of the first of some

-- a fact of the element at an index, if there is one
abbrev IsAt : {A : Type 0} → (A → Type 0) → List A → ℕ → Type 0
IsAt {A} P xs i = (x : A) → slice_get xs i ≡ Some x → P x

at_decided : {A : Type 0} (P : A → Type 0) (xs : List A) (i : ℕ) → ((x : A) → P x ⊎ (P x → ⊥)) → IsAt P xs i ⊎ (IsAt P xs i → ⊥)
at_decided {A} P xs i decide = go (slice_get xs i) refl where
  go : (o : Option A) → slice_get xs i ≡ o → IsAt P xs i ⊎ (IsAt P xs i → ⊥)
  go None e = inl (λ x at. absurd (none-some x (sym e ∙ at)))
  go (Some y) e = elim (decide y) [ inl right ↦ inl (λ x at. subst P (same_Some y x (sym e ∙ at)) right) | inr wrong ↦ inr (λ all. wrong (all y e)) ]

-- the least number below n at which a fact fails
record IsLeast (P : ℕ → Type 0) (n : ℕ) : Type 0 where
  at : ℕ
  within : at < n
  fails : P at → ⊥
  least : (k : ℕ) → k < at → P k

least_decided : (P : ℕ → Type 0) → ((k : ℕ) → P k ⊎ (P k → ⊥)) → (n : ℕ) → ((k : ℕ) → k < n → P k) ⊎ IsLeast P n
least_decided P decide zero = inl (λ k lt. absurd (omega (arith, lt)))
least_decided P decide (suc n) =
    elim (least_decided P decide n) [
      | inr l ↦ inr (record { at = l.at; within = omega (arith, l.within); fails = l.fails; least = l.least })
      | inl all ↦ elim (decide n) [
        | inr wrong ↦ inr (record { at = n; within = omega arith; fails = wrong; least = all })
        | inl right ↦
            let last : (k : ℕ) → k < suc n → n ≤ k → P k = λ k lt past. let e : n ≡ k = omega (arith, lt, past) in subst P e right in
            inl (λ k lt. elim (cases_lt k n) [ inl below ↦ all k below | inr past ↦ last k lt past ])
      ]
    ]

-- ---- instructions

inside_decided : (n : ℕ) (to : Option ℤ) → InsideOf n to ⊎ (InsideOf n to → ⊥)
inside_decided n None = inl tt
inside_decided n (Some (pos k)) = elim (cases_lt k n) [ inl lt ↦ inl lt | inr ge ↦ inr (λ lt. omega (arith, lt, ge)) ]
inside_decided n (Some (negsuc k)) = inr (λ h. h)

branch_decided : (code : List Insn) (i : ℕ) → IsInside code i ⊎ (IsInside code i → ⊥)
branch_decided code i = at_decided (λ insn. InsideOf (length code) (target_of i insn)) code i (λ insn. inside_decided (length code) (target_of i insn))

final_decided : (insn : Insn) → IsFinal insn ⊎ (IsFinal insn → ⊥)
final_decided insn = go (next_of 0 insn) refl where
  go : (o : Option ℕ) → next_of 0 insn ≡ o → IsFinal insn ⊎ (IsFinal insn → ⊥)
  go None e = inl e
  go (Some j) e = inr (λ none. none-some j (sym none ∙ e))

-- ---- words

-- an element of a list with one more at its end
or_last : {A : Type 0} (xs : List A) (y : A) (k : ℕ) (x : A) → slice_get (xs ++ y ∷ []) k ≡ Some x → (slice_get xs k ≡ Some x) ⊎ ((k ≡ length xs) × (y ≡ x))
or_last [] y zero x e = inr (refl, same_Some y x e)
or_last [] y (suc k) x e = absurd (none-some x e)
or_last (z ∷ zs) y zero x e = inl e
or_last (z ∷ zs) y (suc k) x e = elim (or_last zs y k x e) [ inl before ↦ inl before | inr last ↦ inr (ap suc last.0, last.1) ]

module _ (p : Profile) (bytes : List ℕ) where
  one_more : (n : ℕ) (code : List Insn) (insn : Insn) → EncodesFirst p bytes n code
      → decoded p (code_word_at bytes n) ≡ Ok insn →
      EncodesFirst p bytes (suc n) (code ++ insn ∷ [])
  one_more n code insn first read =
      let one : length (insn ∷ []) ≡ 1 = refl in
      let here : Encodes p (code_word_at bytes n) insn =
      (decoded-Encodes p (code_word_at bytes n) insn).0 read in
      let moved : (k : ℕ) → n ≡ k → Encodes p (code_word_at bytes k) insn = λ k e. subst
      (λ j. Encodes p (code_word_at bytes j) insn) e here in
      record {
        count = omega (arith, length-append code (insn ∷ []), first.count, one);
        each = λ k x at. elim (or_last code insn k x at) [
          | inl before ↦ first.each k x before
          | inr last ↦ subst (Encodes p (code_word_at bytes k)) last.1
              (moved k (sym (last.0 ∙ first.count)))
        ];
      }

  -- instructions that the first n words encode
  record AreFirst (n : ℕ) : Type 0 where
    insns : List Insn
    first : EncodesFirst p bytes n insns

  -- the first of n words that encodes no instruction
  record IsBadWord (n : ℕ) : Type 0 where
    at : ℕ
    within : at < n
    bad : BadWord
    read : decoded p (code_word_at bytes at) ≡ Err bad
    front : AreFirst at

  word_decided : (n : ℕ) → AreFirst n → (r : Result Insn BadWord)
      → decoded p (code_word_at bytes n) ≡ r → AreFirst (suc n) ⊎ IsBadWord (suc n)
  word_decided n f (Ok insn) e = inl (record { insns = f.insns ++ insn ∷ []; first = one_more n f.insns insn f.first e })
  word_decided n f (Err bad) e = inr (record { at = n; within = omega arith; bad = bad; read = e; front = f })

  words_decided : (n : ℕ) → AreFirst n ⊎ IsBadWord n
  words_decided zero = inl (record { insns = []; first = record { count = refl; each = λ k x at. absurd (none-some x at) } })
  words_decided (suc n) =
      elim (words_decided n) [
        | inl f ↦ word_decided n f (decoded p (code_word_at bytes n)) refl
        | inr b ↦ inr (record { at = b.at; within = omega (arith, b.within); bad = b.bad; read = b.read; front = b.front })
      ]

-- ---- whole code

-- code that the bytes encode
pub record IsEncoded (p : Profile) (bytes : List ℕ) : Type 0 where
  pub insns : List Insn
  pub encoded : EncodesCode p bytes insns
  pub code : IsCode insns

-- the first flaw of the bytes
pub record HasFlaw (p : Profile) (bytes : List ℕ) : Type 0 where
  pub which : CodeFlaw
  pub is : IsFlaw p bytes which

shape_decided : (p : Profile) (bytes : List ℕ) (code : List Insn) → EncodesCode p bytes code
    → 0 < length code → length code ≤ MAX_WORDS → IsEncoded p bytes ⊎ HasFlaw p bytes
shape_decided p bytes code encoded some short =
    let last : length code - 1 + 1 ≡ length code = omega (arith, some) in
    elim (least_decided (IsInside code) (branch_decided code) (length code)) [
      | inr out ↦ inr (record { which = flaw.Target out.at; is = (code, encoded, (out.within, out.fails, out.least)) })
      | inl all ↦
          let inside : (i : ℕ) → IsInside code i = λ i insn at. all i (slice_get_within code i insn at) insn at in
          elim (at_decided IsFinal code (length code - 1) final_decided) [
            | inr on ↦ inr (record { which = flaw.FallsOff (length code - 1); is = (code, encoded, (last, on, inside)) })
            | inl ends ↦
                let each : AreInsns code = AreInsns-EncodesCode p bytes code encoded in
                let are : IsCode code = record { nonempty = some; short = short; encoded = each; inside = inside; ends = ends } in
                inl (record { insns = code; encoded = encoded; code = are })
          ]
    ]

pub code_decided : (p : Profile) (bytes : List ℕ) → 4 * (length bytes / 4) ≡ length bytes
    → 0 < length bytes → length bytes ≤ 4 * MAX_WORDS → IsEncoded p bytes ⊎ HasFlaw p bytes
code_decided p bytes whole some short =
    elim (words_decided p bytes (length bytes / 4)) [
      | inr b ↦
          let inside : 4 * b.at + 4 ≤ length bytes = omega (arith, b.within, whole) in
          let bad = (decoded-flaw p (code_word_at bytes b.at) b.bad).0 b.read in
          inr (record { which = flaw.BadWord b.at (code_word_at bytes b.at) b.bad; is = (refl, bad, inside, (b.front.insns, b.front.first)) })
      | inl f ↦
          let count : length f.insns ≡ length bytes / 4 = f.first.count in
          let all : 4 * length f.insns ≡ length bytes = ap (λ n. 4 * n) count ∙ whole in
          let encoded : EncodesCode p bytes f.insns = record {
            whole = all;
            first = subst (λ n. EncodesFirst p bytes n f.insns) (sym count) f.first;
          } in
          shape_decided p bytes f.insns encoded (omega (arith, all, some))
          (omega (arith, all, short))
    ]

-- ---- no other code

abbrev got : List Insn → Result (List Insn) CodeFlaw
got code = Ok code

ok_list : (a b : List Insn) → got a ≡ got b → a ≡ b
ok_list a b e = cc

pub code-one : (p q : Profile) (bytes other : List ℕ) (code out : List Insn) → p ≡ q → bytes ≡ other
    → EncodesCode p bytes code → IsCode code → EncodesCode q other out → IsCode out → code ≡ out
code-one p q bytes other code out same e h is g are =
    ok_list code out
    (decoded_code-ok p bytes code h is ∙ (λ i. decoded_code (same i) (e i))
    ∙ sym (decoded_code-ok q other out g are))
