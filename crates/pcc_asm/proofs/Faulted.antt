-- Assembling tells a fault exactly where the source has it.
use Rattle.std.proofs.Common.{◌≡◌, ℕ, zero, suc, ◌+◌, ◌-◌, ◌<◌, Bool, true, false, cond, List, [], ◌∷◌, length, slice_get, Option, Some, None, Result, Ok, Err, refl, sym, ap, ◌∙◌, subst, arith}
use Rattle.std.specs.List.{AllByRecursion}
use Rattle.std.proofs.lemmas.Bool.{cond-true, cond-false, false_from_ne_true}
use Rattle.std.proofs.lemmas.Option.{same_Some}
use Rattle.alpha_words.specs.declared.insn.Insn.{Insn}
use Rattle.alpha_words.specs.declared.fault.BadWord.{BadWord}
use Rattle.alpha_words.specs.Lawful.{fault_of, target_of}
use Rattle.alpha_cfg.specs.Flow.{InsideOf, IsInside, IsFinalAt}
use Rattle.alpha_cfg.specs.CodeDecoding.{is_inside, first_outside, runs_off}
use Rattle.asm_text.specs.Insns.{SourceInsn}
use Rattle.asm_text.specs.Sources.{Source}
use Rattle.pcc_asm.specs.declared.fault.AsmFlaw.{AsmFlaw}
use Rattle.pcc_asm.specs.declared.fault.AsmFlaw.TheVariants as A
use Rattle.pcc_asm.specs.Assembling.{IsResolved, AreResolved, resolved_insn, with_resolved, resolved_insns, word_flaw, first_unlawful, line_at, in_shape, if_lawful, as_code, assembled_code}
use Rattle.pcc_asm.specs.Faults.{FailsFirst, IsResolvable, IsLawfulAt, IsRefusedAt, IsAsmFault}
use Rattle.pcc_asm.proofs.Resolved.{resolved-is, is-resolved, all-resolved, resolved-all, resolved-length}
use Rattle.pcc_asm.proofs.Shaped.{IsLawful, unlawful-none, none-unlawful, inside_by, by_inside, outside-none, inside-all, all-inside, off-false, false-off, bad_word, bad_target, bad_end}
use Rattle.word_ops.specs.declared.Profile.{Profile}

same_Err : {X : Type 0} (j k : AsmFlaw) → ◌≡◌ {A = Result X AsmFlaw} (Err j) (Err k) → j ≡ k
same_Err j k e = cc

chosen : {X : Type 0} (t : Bool) (x y z : X) → cond t x y ≡ z → (P : Type 0) → (t ≡ true → x ≡ z → P) → (t ≡ false → y ≡ z → P) → P
chosen true x y z e P f g = f refl e
chosen false x y z e P f g = g refl e

true_by : (t : Bool) → (t ≡ false → ⊥) → t ≡ true
true_by true f = refl
true_by false f = absurd (f refl)

-- ---- the first index that fails

first_here : (P : ℕ → Type 0) → (P 0 → ⊥) → FailsFirst P 0
first_here P h = (λ j l. absurd (omega arith), h)

below : (P Q : ℕ → Type 0) (i : ℕ) → P 0 → ((j : ℕ) → Q j → P (suc j)) → ((j : ℕ) → j < i → Q j) → (j : ℕ) → j < suc i → P j
below P Q i z f h zero l = z
below P Q i z f h (suc j) l = f j (h j (omega arith))

first_more : (P Q : ℕ → Type 0) (i : ℕ) → P 0 → ((j : ℕ) → Q j → P (suc j)) → ((j : ℕ) → P (suc j) → Q j) → FailsFirst Q i → FailsFirst P (suc i)
first_more P Q i z f g h = (below P Q i z f h.0, λ p. h.1 (g i p))

first_less : (P Q : ℕ → Type 0) (i : ℕ) → ((j : ℕ) → Q j → P (suc j)) → ((j : ℕ) → P (suc j) → Q j) → FailsFirst P (suc i) → FailsFirst Q i
first_less P Q i f g h = (λ j l. g j (h.0 (suc j) (omega arith)), λ q. h.1 (f i q))

-- the same of another property
first_as : (P Q : ℕ → Type 0) (i : ℕ) → ((j : ℕ) → Q j → P j) → ((j : ℕ) → P j → Q j) → FailsFirst P i → FailsFirst Q i
first_as P Q i f g h = (λ j l. g j (h.0 j l), λ q. h.1 (f i q))

-- ---- lines

line_is : (xs : List (ℕ × SourceInsn)) (i line : ℕ) (said : SourceInsn) → slice_get xs i ≡ Some (line, said) → line_at xs i ≡ line
line_is [] i line said e = cc
line_is (x ∷ xs) zero line said e = ap (λ y. y.0) (same_Some x (line, said) e)
line_is (x ∷ xs) (suc i) line said e = line_is xs i line said e

is_line : (xs : List (ℕ × SourceInsn)) (i : ℕ) → i < length xs → (said : SourceInsn) × (slice_get xs i ≡ Some (line_at xs i, said))
is_line [] i l = absurd (omega arith)
is_line (x ∷ xs) zero l = (x.1, refl)
is_line (x ∷ xs) (suc i) l = is_line xs i (omega arith)

within : {X : Type 0} (xs : List X) (i : ℕ) (x : X) → slice_get xs i ≡ Some x → i < length xs
within [] i x e = cc
within (y ∷ xs) zero x e = omega arith
within (y ∷ xs) (suc i) x e = let l = within xs i x e in omega arith

-- ---- labels

-- the instruction at place k behind b others can be resolved
abbrev CanAt : List (List ℕ × ℕ) → ℕ → List (ℕ × SourceInsn) → ℕ → Type 0
CanAt labels b xs k = (line : ℕ) (said : SourceInsn) → slice_get xs k ≡ Some (line, said) → (insn : Insn) × IsResolved labels (b + k) said insn

can_here : (labels : List (List ℕ × ℕ)) (b : ℕ) (x : ℕ × SourceInsn) (xs : List (ℕ × SourceInsn)) (insn : Insn) → resolved_insn labels b x.1 ≡ Some insn →
    CanAt labels b (x ∷ xs) 0
can_here labels b x xs insn e line said g =
    let z : b ≡ b + 0 = omega arith in (
      insn,
      subst (λ j. IsResolved labels j said insn) z
          (resolved-is labels b said insn (ap (λ y. resolved_insn labels b y.1) (sym (same_Some x (line, said) g)) ∙ e)),
    )

here_can : (labels : List (List ℕ × ℕ)) (b : ℕ) (x : ℕ × SourceInsn) (xs : List (ℕ × SourceInsn)) → CanAt labels b (x ∷ xs) 0 →
    (insn : Insn) × (resolved_insn labels b x.1 ≡ Some insn)
here_can labels b x xs h =
    let r = h x.0 x.1 refl in
    let z : b + 0 ≡ b = omega arith in
    (r.0, is-resolved labels b x.1 r.0 (subst (λ j. IsResolved labels j x.1 r.0) z r.1))

can_more : (labels : List (List ℕ × ℕ)) (b : ℕ) (x : ℕ × SourceInsn) (xs : List (ℕ × SourceInsn)) (j : ℕ) → CanAt labels (suc b) xs j →
    CanAt labels b (x ∷ xs) (suc j)
can_more labels b x xs j h line said e =
    let r = h line said e in
    let z : suc b + j ≡ b + suc j = omega arith in
    (r.0, subst (λ k. IsResolved labels k said r.0) z r.1)

more_can : (labels : List (List ℕ × ℕ)) (b : ℕ) (x : ℕ × SourceInsn) (xs : List (ℕ × SourceInsn)) (j : ℕ) → CanAt labels b (x ∷ xs) (suc j) →
    CanAt labels (suc b) xs j
more_can labels b x xs j h line said e =
    let r = h line said e in
    let z : b + suc j ≡ suc b + j = omega arith in
    (r.0, subst (λ k. IsResolved labels k said r.0) z r.1)

-- the first instruction that can't be resolved stands in the line that is told
abbrev IsLost : List (List ℕ × ℕ) → ℕ → List (ℕ × SourceInsn) → AsmFlaw → Type 0
IsLost labels b xs k = (i line : ℕ) × (said : SourceInsn) × (A.NoLabel line ≡ k) × (slice_get xs i ≡ Some (line, said)) × FailsFirst (CanAt labels b xs) i

lost_by : (labels : List (List ℕ × ℕ)) (b : ℕ) (x : ℕ × SourceInsn) (xs : List (ℕ × SourceInsn)) (k : AsmFlaw)
    (o : Option Insn) (r : Result (List Insn) AsmFlaw) → resolved_insn labels b x.1 ≡ o → with_resolved x.0 o r ≡ Err k →
    (r ≡ Err k → IsLost labels (suc b) xs k) → IsLost labels b (x ∷ xs) k
lost_by labels b x xs k None r e h f =
    let none : CanAt labels b (x ∷ xs) 0 → ⊥ = λ c. let q = here_can labels b x xs c in let s : resolved_insn labels b x.1 ≡ Some q.0 = q.1 in cc in
    (0, x.0, x.1, same_Err _ _ h, refl, first_here (CanAt labels b (x ∷ xs)) none)
lost_by labels b x xs k (Some insn) (Ok code) e h f = cc
lost_by labels b x xs k (Some insn) (Err j) e h f =
    let g = f h in
    let more = first_more (CanAt labels b (x ∷ xs)) (CanAt labels (suc b) xs) g.0 (can_here labels b x xs insn e)
    (λ i c. can_more labels b x xs i c) (λ i c. more_can labels b x xs i c) g.5 in
    (suc g.0, g.1, g.2, g.3, g.4, more)

lost : (labels : List (List ℕ × ℕ)) (b : ℕ) (xs : List (ℕ × SourceInsn)) (k : AsmFlaw) → resolved_insns labels b xs ≡ Err k → IsLost labels b xs k
lost labels b [] k e = cc
lost labels b (x ∷ xs) k e = lost_by labels b x xs k (resolved_insn labels b x.1) (resolved_insns labels (suc b) xs) refl e (λ f. lost labels (suc b) xs k f)

none_here : (labels : List (List ℕ × ℕ)) (b : ℕ) (x : ℕ × SourceInsn) (xs : List (ℕ × SourceInsn)) (o : Option Insn) → resolved_insn labels b x.1 ≡ o →
    (CanAt labels b (x ∷ xs) 0 → ⊥) → o ≡ None
none_here labels b x xs None e h = refl
none_here labels b x xs (Some insn) e h = absurd (h (can_here labels b x xs insn e))

is_lost : (labels : List (List ℕ × ℕ)) (b : ℕ) (xs : List (ℕ × SourceInsn)) (i line : ℕ) (said : SourceInsn) → slice_get xs i ≡ Some (line, said) →
    FailsFirst (CanAt labels b xs) i → resolved_insns labels b xs ≡ Err (A.NoLabel line)
is_lost labels b [] i line said e h = cc
is_lost labels b (x ∷ xs) zero line said e h =
    ap (λ o. with_resolved x.0 o (resolved_insns labels (suc b) xs)) (none_here labels b x xs (resolved_insn labels b x.1) refl h.1)
    ∙ ap (λ y. Err (A.NoLabel y.0)) (same_Some x (line, said) e)
is_lost labels b (x ∷ xs) (suc i) line said e h =
    let here = here_can labels b x xs (h.0 0 (omega arith)) in
    let more = first_less (CanAt labels b (x ∷ xs)) (CanAt labels (suc b) xs) i (λ j c. can_more labels b x xs j c) (λ j c. more_can labels b x xs j c) h in
    ap (λ o. with_resolved x.0 o (resolved_insns labels (suc b) xs)) here.1
    ∙ ap (with_resolved x.0 (Some here.0)) (is_lost labels (suc b) xs i line said e more)

can_from : (s : Source) (i : ℕ) → CanAt s.labels 0 s.insns i → IsResolvable s i
can_from s i h line said e = let r = h line said e in let z : 0 + i ≡ i = omega arith in (r.0, subst (λ k. IsResolved s.labels k said r.0) z r.1)

from_can : (s : Source) (i : ℕ) → IsResolvable s i → CanAt s.labels 0 s.insns i
from_can s i h line said e = let r = h line said e in let z : i ≡ 0 + i = omega arith in (r.0, subst (λ k. IsResolved s.labels k said r.0) z r.1)

-- ---- words

-- the first instruction that the profile refuses stands in the line that is told
abbrev IsBad : Profile → List (ℕ × SourceInsn) → List Insn → AsmFlaw → Type 0
IsBad prof xs code k =
    (i line : ℕ) × (bad : BadWord) × (said : SourceInsn) × (A.Word line bad ≡ k) × (slice_get xs i ≡ Some (line, said)) ×
    FailsFirst (IsLawfulAt prof code) i × IsRefusedAt prof code i bad

lawful_here : (prof : Profile) (insn : Insn) (code : List Insn) → fault_of prof insn ≡ None
    → IsLawfulAt prof (insn ∷ code) 0
lawful_here prof insn code e other g = ap (fault_of prof) (sym (same_Some insn other g)) ∙ e

refused_here : (prof : Profile) (insn : Insn) (code : List Insn) (bad : BadWord)
    → fault_of prof insn ≡ Some bad → IsLawfulAt prof (insn ∷ code) 0 → ⊥
refused_here prof insn code bad e h = let g : fault_of prof insn ≡ None = h insn refl in cc

bad_by : (prof : Profile) (x : ℕ × SourceInsn) (xs : List (ℕ × SourceInsn)) (insn : Insn)
    (code : List Insn) (k : AsmFlaw) (o : Option BadWord) → fault_of prof insn ≡ o →
    word_flaw x.0 o (first_unlawful prof xs code) ≡ Some k →
    (first_unlawful prof xs code ≡ Some k → IsBad prof xs code k)
    → IsBad prof (x ∷ xs) (insn ∷ code) k
bad_by prof x xs insn code k None e h f =
    let g = f h in (
      suc g.0,
      g.1,
      g.2,
      g.3,
      g.4,
      g.5,
      first_more (IsLawfulAt prof (insn ∷ code))
          (IsLawfulAt prof code) g.0 (lawful_here prof insn code e) (λ j c. c) (λ j c. c) g.6,
      g.7,
    )
bad_by prof x xs insn code k (Some bad) e h f = (
  0,
  x.0,
  bad,
  x.1,
  same_Some _ _ h,
  refl,
  first_here (IsLawfulAt prof (insn ∷ code))
      (refused_here prof insn code bad e),
  (insn, refl, e),
)

bad_is : (prof : Profile) (xs : List (ℕ × SourceInsn)) (code : List Insn) (k : AsmFlaw)
    → first_unlawful prof xs code ≡ Some k → IsBad prof xs code k
bad_is prof [] code k e = cc
bad_is prof (x ∷ xs) [] k e = cc
bad_is prof (x ∷ xs) (insn ∷ code) k e =
    bad_by prof x xs insn code k (fault_of prof insn) refl e (λ f. bad_is prof xs code k f)

is_bad : (prof : Profile) (xs : List (ℕ × SourceInsn)) (code : List Insn) (i line : ℕ)
    (said : SourceInsn) (bad : BadWord) → slice_get xs i ≡ Some (line, said) →
    FailsFirst (IsLawfulAt prof code) i → IsRefusedAt prof code i bad
    → first_unlawful prof xs code ≡ Some (A.Word line bad)
is_bad prof [] code i line said bad e h r = cc
is_bad prof (x ∷ xs) [] i line said bad e h r =
    let l : i < 0 = within [] i r.0 r.1 in absurd (omega arith)
is_bad prof (x ∷ xs) (insn ∷ code) zero line said bad e h r =
    ap (λ o. word_flaw x.0 o (first_unlawful prof xs code))
    (ap (fault_of prof) (same_Some insn r.0 r.1) ∙ r.2)
    ∙ ap (λ y. Some (A.Word y.0 bad)) (same_Some x (line, said) e)
is_bad prof (x ∷ xs) (insn ∷ code) (suc i) line said bad e h r =
    ap (λ o. word_flaw x.0 o (first_unlawful prof xs code)) (h.0 0 (omega arith) insn refl)
    ∙ is_bad prof xs code i line said bad e
    (first_less (IsLawfulAt prof (insn ∷ code)) (IsLawfulAt prof code) i (λ j c. c) (λ j c. c) h) r

each_lawful : (prof : Profile) (code : List Insn) → AllByRecursion (IsLawful prof) code → (i : ℕ)
    → IsLawfulAt prof code i
each_lawful prof [] h i insn e = cc
each_lawful prof (x ∷ code) h zero insn e = ap (fault_of prof) (sym (same_Some x insn e)) ∙ h.0
each_lawful prof (x ∷ code) h (suc i) insn e = each_lawful prof code h.1 i insn e

lawful_all : (prof : Profile) (code : List Insn) → ((i : ℕ) → IsLawfulAt prof code i)
    → AllByRecursion (IsLawful prof) code
lawful_all prof [] h = tt
lawful_all prof (x ∷ code) h = (h 0 x refl, lawful_all prof code (λ i. h (suc i)))

-- ---- targets

-- the instruction at place k behind b others doesn't branch to n or past it
abbrev StaysAt : ℕ → ℕ → List Insn → ℕ → Type 0
StaysAt n b code k = (insn : Insn) → slice_get code k ≡ Some insn → InsideOf n (target_of (b + k) insn)

stays_here : (n b : ℕ) (insn : Insn) (code : List Insn) → is_inside n (target_of b insn) ≡ true → StaysAt n b (insn ∷ code) 0
stays_here n b insn code e other g =
    let z : b ≡ b + 0 = omega arith in
    subst (λ j. InsideOf n (target_of j other)) z (subst (λ y. InsideOf n (target_of b y)) (same_Some insn other g) (inside_by n (target_of b insn) e))

here_stays : (n b : ℕ) (insn : Insn) (code : List Insn) → StaysAt n b (insn ∷ code) 0 → is_inside n (target_of b insn) ≡ true
here_stays n b insn code h = let z : b + 0 ≡ b = omega arith in by_inside n (target_of b insn) (subst (λ j. InsideOf n (target_of j insn)) z (h insn refl))

stays_more : (n b : ℕ) (insn : Insn) (code : List Insn) (j : ℕ) → StaysAt n (suc b) code j → StaysAt n b (insn ∷ code) (suc j)
stays_more n b insn code j h other e = let z : suc b + j ≡ b + suc j = omega arith in subst (λ k. InsideOf n (target_of k other)) z (h other e)

more_stays : (n b : ℕ) (insn : Insn) (code : List Insn) (j : ℕ) → StaysAt n b (insn ∷ code) (suc j) → StaysAt n (suc b) code j
more_stays n b insn code j h other e = let z : b + suc j ≡ suc b + j = omega arith in subst (λ k. InsideOf n (target_of k other)) z (h other e)

-- the first instruction that branches outside
abbrev IsOut : ℕ → ℕ → List Insn → ℕ → Type 0
IsOut n b code t = (i : ℕ) × (t ≡ b + i) × (i < length code) × FailsFirst (StaysAt n b code) i

out_by : (n b : ℕ) (insn : Insn) (code : List Insn) (t : ℕ) (inside : Bool) → is_inside n (target_of b insn) ≡ inside →
    cond inside (first_outside n (suc b) code) (Some b) ≡ Some t →
    (first_outside n (suc b) code ≡ Some t → IsOut n (suc b) code t) → IsOut n b (insn ∷ code) t
out_by n b insn code t true e h f =
    let g = f h in
    let at : t ≡ b + suc g.0 = let y = g.1 in omega arith in
    let few : suc g.0 < length (insn ∷ code) = let y = g.2 in omega arith in (
      suc g.0,
      at,
      few,
      first_more (StaysAt n b (insn ∷ code)) (StaysAt n (suc b) code) g.0 (stays_here n b insn code e)
          (λ j c. stays_more n b insn code j c) (λ j c. more_stays n b insn code j c) g.3,
    )
out_by n b insn code t false e h f =
    let none : StaysAt n b (insn ∷ code) 0 → ⊥ = λ c. let g : is_inside n (target_of b insn) ≡ true = here_stays n b insn code c in cc in
    let z : b ≡ b + 0 = omega arith in
    (0, sym (same_Some b t h) ∙ z, omega arith, first_here (StaysAt n b (insn ∷ code)) none)

out_is : (n b : ℕ) (code : List Insn) (t : ℕ) → first_outside n b code ≡ Some t → IsOut n b code t
out_is n b [] t e = cc
out_is n b (insn ∷ code) t e = out_by n b insn code t (is_inside n (target_of b insn)) refl e (λ f. out_is n (suc b) code t f)

is_out : (n b : ℕ) (code : List Insn) (i : ℕ) → i < length code → FailsFirst (StaysAt n b code) i → first_outside n b code ≡ Some (b + i)
is_out n b [] i l h = absurd (omega arith)
is_out n b (insn ∷ code) zero l h =
    let out : is_inside n (target_of b insn) ≡ false = false_from_ne_true (is_inside n (target_of b insn)) (λ e. h.1 (stays_here n b insn code e)) in
    let z : b ≡ b + 0 = omega arith in
    cond-false (is_inside n (target_of b insn)) (first_outside n (suc b) code) (Some b) out ∙ ap Some z
is_out n b (insn ∷ code) (suc i) l h =
    let more = first_less (StaysAt n b (insn ∷ code)) (StaysAt n (suc b) code) i
    (λ j c. stays_more n b insn code j c) (λ j c. more_stays n b insn code j c) h in
    let z : suc b + i ≡ b + suc i = omega arith in
    cond-true (is_inside n (target_of b insn)) (first_outside n (suc b) code) (Some b) (here_stays n b insn code (h.0 0 (omega arith)))
    ∙ is_out n (suc b) code i (omega arith) more ∙ ap Some z

stays_inside : (code : List Insn) (j : ℕ) → StaysAt (length code) 0 code j → IsInside code j
stays_inside code j h insn e = let z : 0 + j ≡ j = omega arith in subst (λ k. InsideOf (length code) (target_of k insn)) z (h insn e)

inside_stays : (code : List Insn) (j : ℕ) → IsInside code j → StaysAt (length code) 0 code j
inside_stays code j h insn e = let z : j ≡ 0 + j = omega arith in subst (λ k. InsideOf (length code) (target_of k insn)) z (h insn e)

-- ---- the end

off_some : (code : List Insn) → runs_off code ≡ true → 0 < length code
off_some [] e = cc
off_some (x ∷ code) e = omega arith

no_final : (code : List Insn) → runs_off code ≡ true → IsFinalAt code (length code - 1) → ⊥
no_final code e h = let f : runs_off code ≡ false = false-off code (off_some code e) h in cc

-- ---- the tests in their order

shape_fault : (prof : Profile) (s : Source) (code : List Insn) (k : AsmFlaw) (o : Option ℕ)
    → AreResolved s.labels 0 s.insns code → first_unlawful prof s.insns code ≡ None →
    first_outside (length code) 0 code ≡ o → in_shape s.insns code o ≡ Err k → IsAsmFault prof s k
shape_fault prof s code k (Some t) r u e h =
    let n = resolved-length s.labels 0 s.insns code r in
    let lawful = each_lawful prof code (unlawful-none prof s.insns code n u) in
    let g = out_is (length code) 0 code t e in
    let at : g.0 ≡ t = let y = g.1 in omega arith in
    let few : t < length s.insns = let y = g.2 in omega (arith, n) in
    let out : FailsFirst (IsInside code) t = subst (λ i. FailsFirst (IsInside code) i) at
    (first_as (StaysAt (length code) 0 code) (IsInside code) g.0 (λ j c. inside_stays code j c) (λ j c. stays_inside code j c) g.3) in
    subst (λ f. IsAsmFault prof s f) (same_Err (A.Target (line_at s.insns t)) k h)
    (code, t, r, is_line s.insns t few, lawful, out)
shape_fault prof s code k None r u e h =
    chosen (runs_off code) _ _ _ h (IsAsmFault prof s k)
    (λ t f.
    let n = resolved-length s.labels 0 s.insns code r in
    let some : 0 < length code = off_some code t in
    let few : length code - 1 < length s.insns = omega (arith, n, some) in
    let lawful = each_lawful prof code (unlawful-none prof s.insns code n u) in
    let inside = inside-all code (outside-none (length code) 0 code e) in
    subst (λ j. IsAsmFault prof s j) (same_Err (A.FallsOff (line_at s.insns (length code - 1))) k f)
    (code, r, is_line s.insns (length code - 1) few, lawful, inside, no_final code t))
    (λ t f. cc)

lawful_fault : (prof : Profile) (s : Source) (code : List Insn) (k : AsmFlaw) (o : Option AsmFlaw)
    → AreResolved s.labels 0 s.insns code → first_unlawful prof s.insns code ≡ o →
    if_lawful s.insns code o ≡ Err k → IsAsmFault prof s k
lawful_fault prof s code k (Some f) r e h =
    let g = bad_is prof s.insns code k (e ∙ ap Some (same_Err f k h)) in
    subst (λ j. IsAsmFault prof s j) g.4 (code, g.0, r, (g.3, g.5), g.6, g.7)
lawful_fault prof s code k None r e h =
    shape_fault prof s code k (first_outside (length code) 0 code) r e refl h

code_fault : (prof : Profile) (s : Source) (k : AsmFlaw) (r : Result (List Insn) AsmFlaw)
    → resolved_insns s.labels 0 s.insns ≡ r → as_code prof s.insns r ≡ Err k → IsAsmFault prof s k
code_fault prof s k (Ok code) e h =
    lawful_fault prof s code k (first_unlawful prof s.insns code)
    (all-resolved s.labels 0 s.insns code e) refl h
code_fault prof s k (Err f) e h =
    let g = lost s.labels 0 s.insns k (e ∙ ap Err (same_Err f k h)) in
    subst (λ j. IsAsmFault prof s j) g.3
    (g.0, (g.2, g.4), first_as (CanAt s.labels 0 s.insns) (IsResolvable s) g.0 (λ j c. from_can s j c) (λ j c. can_from s j c) g.5)

pub fault_is : (prof : Profile) (s : Source) (k : AsmFlaw) → assembled_code prof s ≡ Err k
    → IsAsmFault prof s k
unfolding assembled_code
fault_is prof s k e = code_fault prof s k (resolved_insns s.labels 0 s.insns) refl e

pub is_fault : (prof : Profile) (s : Source) (k : AsmFlaw) → IsAsmFault prof s k
    → assembled_code prof s ≡ Err k
unfolding assembled_code
is_fault prof s (A.NoLabel line) h =
    ap (as_code prof s.insns)
    (is_lost s.labels 0 s.insns h.0 line h.1.0 h.1.1
    (first_as (IsResolvable s) (CanAt s.labels 0 s.insns) h.0 (λ j c. can_from s j c) (λ j c. from_can s j c) h.2))
is_fault prof s (A.Word line bad) h =
    ap (as_code prof s.insns) (resolved-all s.labels 0 s.insns h.0 h.2)
    ∙ bad_word prof s.insns h.0 (A.Word line bad)
    (is_bad prof s.insns h.0 h.1 line h.3.0 bad h.3.1 h.4 h.5)
is_fault prof s (A.Target line) h =
    let code = h.0 in
    let n = resolved-length s.labels 0 s.insns code h.2 in
    let few : h.1 < length code = let y = within s.insns h.1 (line, h.3.0) h.3.1 in omega (arith, n) in
    let z : 0 + h.1 ≡ h.1 = omega arith in
    let out = is_out (length code) 0 code h.1 few
    (first_as (IsInside code) (StaysAt (length code) 0 code) h.1 (λ j c. stays_inside code j c) (λ j c. inside_stays code j c) h.5) in
    ap (as_code prof s.insns) (resolved-all s.labels 0 s.insns code h.2)
    ∙ bad_target prof s.insns code h.1 (none-unlawful prof s.insns code (lawful_all prof code h.4))
    (out ∙ ap Some z)
    ∙ ap (λ l. Err (A.Target l)) (line_is s.insns h.1 line h.3.0 h.3.1)
is_fault prof s (A.FallsOff line) h =
    let code = h.0 in
    let n = resolved-length s.labels 0 s.insns code h.1 in
    let some : 0 < length code = let y = within s.insns (length code - 1) (line, h.2.0) h.2.1 in omega (arith, n) in
    let off : runs_off code ≡ true = true_by (runs_off code) (λ e. h.5 (off-false code some e)) in
    ap (as_code prof s.insns) (resolved-all s.labels 0 s.insns code h.1)
    ∙ bad_end prof s.insns code (none-unlawful prof s.insns code (lawful_all prof code h.3))
    (all-inside code h.4) off
    ∙ ap (λ l. Err (A.FallsOff l)) (line_is s.insns (length code - 1) line h.2.0 h.2.1)
