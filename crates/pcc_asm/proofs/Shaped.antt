-- Instructions pass the tests of code exactly where they are code.
use Rattle.std.proofs.Common.{◌≡◌, ℕ, zero, suc, ◌+◌, ◌-◌, ◌<◌, Bool, true, false, cond, List, [], ◌∷◌, length, slice_get, Option, Some, None, Ok, Err, is_some, refl, ap, ◌∙◌, subst, arith}
use Rattle.std.specs.Prelude.{ℤ, pos, negsuc}
use Rattle.std.specs.List.{AllByRecursion}
use Rattle.std.proofs.lemmas.Bool.{ltb-true, lt-ltb, cond-true, cond-false}
use Rattle.std.proofs.lemmas.Option.{same_Some}
use Rattle.alpha_words.specs.declared.insn.Insn.{Insn}
use Rattle.alpha_words.specs.declared.fault.BadWord.{BadWord}
use Rattle.alpha_words.specs.Lawful.{fault_of, target_of}
use Rattle.alpha_cfg.specs.Flow.{InsideOf, IsInside, IsFinalAt, next_of}
use Rattle.alpha_cfg.specs.CodeDecoding.{is_inside, first_outside, runs_off}
use Rattle.asm_text.specs.Insns.{SourceInsn}
use Rattle.pcc_asm.specs.declared.fault.AsmFlaw.{AsmFlaw}
use Rattle.pcc_asm.specs.declared.fault.AsmFlaw.TheVariants as A
use Rattle.pcc_asm.specs.Assembling.{word_flaw, first_unlawful, line_at, in_shape, if_lawful, as_code}
use Rattle.pcc_asm.proofs.Resolved.{same_Ok}
use Rattle.word_ops.specs.declared.Profile.{Profile}

-- ---- what the profile has

abbrev pub IsLawful : Profile → Insn → Type 0
IsLawful prof insn = fault_of prof insn ≡ None

no_flaw : (line : ℕ) (o : Option BadWord) (r : Option AsmFlaw) → word_flaw line o r ≡ None → (o ≡ None) × (r ≡ None)
no_flaw line None r e = (refl, e)
no_flaw line (Some bad) r e = cc

pub unlawful-none : (prof : Profile) (xs : List (ℕ × SourceInsn)) (code : List Insn)
    → length code ≡ length xs → first_unlawful prof xs code ≡ None
    → AllByRecursion (IsLawful prof) code
unlawful-none prof xs [] n e = tt
unlawful-none prof [] (insn ∷ code) n e = absurd (omega arith)
unlawful-none prof (x ∷ xs) (insn ∷ code) n e =
    let p = no_flaw x.0 (fault_of prof insn) (first_unlawful prof xs code) e in
    (p.0, unlawful-none prof xs code (omega arith) p.1)

pub none-unlawful : (prof : Profile) (xs : List (ℕ × SourceInsn)) (code : List Insn)
    → AllByRecursion (IsLawful prof) code → first_unlawful prof xs code ≡ None
none-unlawful prof [] code h = refl
none-unlawful prof (x ∷ xs) [] h = refl
none-unlawful prof (x ∷ xs) (insn ∷ code) h =
    ap (λ o. word_flaw x.0 o (first_unlawful prof xs code)) h.0 ∙ none-unlawful prof xs code h.1

-- ---- where branches lead

pub inside_by : (n : ℕ) (o : Option ℤ) → is_inside n o ≡ true → InsideOf n o
inside_by n None e = tt
inside_by n (Some (pos k)) e = ltb-true k n e
inside_by n (Some (negsuc k)) e = cc

pub by_inside : (n : ℕ) (o : Option ℤ) → InsideOf n o → is_inside n o ≡ true
by_inside n None h = refl
by_inside n (Some (pos k)) h = lt-ltb k n h
by_inside n (Some (negsuc k)) h = absurd h

-- from index i on no branch leads outside
abbrev pub AreInside : ℕ → ℕ → List Insn → Type 0
AreInside n i [] = Unit {0}
AreInside n i (insn ∷ code) = InsideOf n (target_of i insn) × AreInside n (suc i) code

not_outside : (t : Bool) (i : ℕ) (r : Option ℕ) → cond t r (Some i) ≡ None → (t ≡ true) × (r ≡ None)
not_outside true i r e = (refl, e)
not_outside false i r e = cc

pub outside-none : (n i : ℕ) (code : List Insn) → first_outside n i code ≡ None → AreInside n i code
outside-none n i [] e = tt
outside-none n i (insn ∷ code) e =
    let q = not_outside (is_inside n (target_of i insn)) i (first_outside n (suc i) code) e in
    (inside_by n (target_of i insn) q.0, outside-none n (suc i) code q.1)

none-outside : (n i : ℕ) (code : List Insn) → AreInside n i code → first_outside n i code ≡ None
none-outside n i [] h = refl
none-outside n i (insn ∷ code) h = cond-true (is_inside n (target_of i insn)) (first_outside n (suc i) code) (Some i) (by_inside n (target_of i insn) h.0) ∙ none-outside n (suc i) code h.1

inside-from : (n i : ℕ) (code : List Insn) → AreInside n i code → (k : ℕ) (insn : Insn) → slice_get code k ≡ Some insn → InsideOf n (target_of (i + k) insn)
inside-from n i [] h k insn e = cc
inside-from n i (x ∷ code) h zero insn e = let z : i ≡ i + 0 = omega arith in subst (λ j. InsideOf n (target_of j insn)) z (subst (λ y. InsideOf n (target_of i y)) (same_Some x insn e) h.0)
inside-from n i (x ∷ code) h (suc k) insn e = let z : suc i + k ≡ i + suc k = omega arith in subst (λ j. InsideOf n (target_of j insn)) z (inside-from n (suc i) code h.1 k insn e)

pub inside-all : (code : List Insn) → AreInside (length code) 0 code → (i : ℕ) → IsInside code i
inside-all code h i insn e = let z : 0 + i ≡ i = omega arith in subst (λ j. InsideOf (length code) (target_of j insn)) z (inside-from (length code) 0 code h i insn e)

from-inside : (n i : ℕ) (code : List Insn) → ((k : ℕ) (insn : Insn) → slice_get code k ≡ Some insn → InsideOf n (target_of (i + k) insn)) → AreInside n i code
from-inside n i [] h = tt
from-inside n i (x ∷ code) h =
    let z : i + 0 ≡ i = omega arith in
    (subst (λ j. InsideOf n (target_of j x)) z (h 0 x refl), from-inside n (suc i) code (λ k insn e. let s : i + suc k ≡ suc i + k = omega arith in subst (λ j. InsideOf n (target_of j insn)) s (h (suc k) insn e)))

pub all-inside : (code : List Insn) → ((i : ℕ) → IsInside code i) → first_outside (length code) 0 code ≡ None
all-inside code h = none-outside (length code) 0 code (from-inside (length code) 0 code (λ k insn e. let z : k ≡ 0 + k = omega arith in subst (λ j. InsideOf (length code) (target_of j insn)) z (h k insn e)))

-- ---- the end

none_by : {X : Type 0} (o : Option X) → is_some o ≡ false → o ≡ None
none_by None e = refl
none_by (Some x) e = cc

ends_by : (code : List Insn) (i : ℕ) → i + 1 ≡ length code → runs_off code ≡ false → IsFinalAt code i
ends_by [] i n e insn s = cc
ends_by (x ∷ []) zero n e insn s =
    subst (λ y. next_of 0 y ≡ None) (same_Some x insn s) (none_by (next_of 0 x) e)
ends_by (x ∷ []) (suc i) n e insn s = absurd (omega arith)
ends_by (x ∷ y ∷ code) zero n e insn s = absurd (omega arith)
ends_by (x ∷ y ∷ code) (suc i) n e insn s = ends_by (y ∷ code) i (omega arith) e insn s

pub off-false : (code : List Insn) → 0 < length code → runs_off code ≡ false → IsFinalAt code (length code - 1)
off-false code h e = ends_by code (length code - 1) (omega arith) e

by_ends : (code : List Insn) (i : ℕ) → i + 1 ≡ length code → IsFinalAt code i → runs_off code ≡ false
by_ends [] i n h = absurd (omega arith)
by_ends (x ∷ []) zero n h = ap is_some (h x refl)
by_ends (x ∷ []) (suc i) n h = absurd (omega arith)
by_ends (x ∷ y ∷ code) zero n h = absurd (omega arith)
by_ends (x ∷ y ∷ code) (suc i) n h = by_ends (y ∷ code) i (omega arith) h

pub false-off : (code : List Insn) → 0 < length code → IsFinalAt code (length code - 1) → runs_off code ≡ false
false-off code h e = by_ends code (length code - 1) (omega arith) e

-- ---- all tests

off_ok : (xs : List (ℕ × SourceInsn)) (all code : List Insn) (t : Bool) → runs_off all ≡ t → cond t (Err (A.FallsOff (line_at xs (length all - 1)))) (Ok all) ≡ Ok code → (◌≡◌ {A = Option ℕ} None None) × (runs_off all ≡ false) × (all ≡ code)
off_ok xs all code true e f = cc
off_ok xs all code false e f = (refl, e, same_Ok _ _ f)

shape_ok : (xs : List (ℕ × SourceInsn)) (all code : List Insn) (o : Option ℕ) → in_shape xs all o ≡ Ok code → (o ≡ None) × (runs_off all ≡ false) × (all ≡ code)
shape_ok xs all code (Some i) e = cc
shape_ok xs all code None e = off_ok xs all code (runs_off all) refl e

-- what passes all tests
pub record Passes (prof : Profile) (xs : List (ℕ × SourceInsn)) (all code : List Insn)
    : Type 0 where
  pub lawful : first_unlawful prof xs all ≡ None
  pub inside : first_outside (length all) 0 all ≡ None
  pub ends : runs_off all ≡ false
  pub same : all ≡ code

passes_by : (prof : Profile) (xs : List (ℕ × SourceInsn)) (all code : List Insn)
    (o : Option AsmFlaw) → first_unlawful prof xs all ≡ o → if_lawful xs all o ≡ Ok code
    → Passes prof xs all code
passes_by prof xs all code (Some k) f e = cc
passes_by prof xs all code None f e =
    let g = shape_ok xs all code (first_outside (length all) 0 all) e in record
    { lawful = f; inside = g.0; ends = g.1; same = g.2 }

pub passes : (prof : Profile) (xs : List (ℕ × SourceInsn)) (all code : List Insn)
    → as_code prof xs (Ok all) ≡ Ok code → Passes prof xs all code
passes prof xs all code e = passes_by prof xs all code (first_unlawful prof xs all) refl e

pub bad_word : (prof : Profile) (xs : List (ℕ × SourceInsn)) (code : List Insn) (k : AsmFlaw)
    → first_unlawful prof xs code ≡ Some k → as_code prof xs (Ok code) ≡ Err k
bad_word prof xs code k r = ap (if_lawful xs code) r

pub bad_target : (prof : Profile) (xs : List (ℕ × SourceInsn)) (code : List Insn) (i : ℕ)
    → first_unlawful prof xs code ≡ None → first_outside (length code) 0 code ≡ Some i
    → as_code prof xs (Ok code) ≡ Err (A.Target (line_at xs i))
bad_target prof xs code i r o = ap (if_lawful xs code) r ∙ ap (in_shape xs code) o

pub bad_end : (prof : Profile) (xs : List (ℕ × SourceInsn)) (code : List Insn)
    → first_unlawful prof xs code ≡ None → first_outside (length code) 0 code ≡ None
    → runs_off code ≡ true → as_code prof xs (Ok code)
    ≡ Err (A.FallsOff (line_at xs (length code - 1)))
bad_end prof xs code r o f =
    ap (if_lawful xs code) r ∙ ap (in_shape xs code) o
    ∙ cond-true (runs_off code) (Err (A.FallsOff (line_at xs (length code - 1)))) (Ok code) f

pub good_code : (prof : Profile) (xs : List (ℕ × SourceInsn)) (code : List Insn)
    → first_unlawful prof xs code ≡ None → first_outside (length code) 0 code ≡ None
    → runs_off code ≡ false → as_code prof xs (Ok code) ≡ Ok code
good_code prof xs code r o f =
    ap (if_lawful xs code) r ∙ ap (in_shape xs code) o
    ∙ cond-false (runs_off code) (Err (A.FallsOff (line_at xs (length code - 1)))) (Ok code) f
