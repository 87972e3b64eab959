-- The test for loop heads is exact.
use Rattle.std.proofs.Common.{◌≡◌, ℕ, zero, suc, ◌+◌, ◌-◌, ◌<◌, true, false, ◌↔◌, List, [], ◌∷◌, length, drop, slice_get, Option, Some, None}
use Rattle.std.proofs.Common.{refl, sym, ap, ◌∙◌, subst, arith, inl, inr}
use Rattle.std.proofs.lemmas.Bool.{cases_eq, ne_eqb, eq-eqb, or_left, or_right, or_cases}
use Rattle.std.proofs.lemmas.Option.{same_Some, slice_get_within}
use Rattle.alpha_words.specs.declared.insn.Insn.{Insn}
use Rattle.alpha_cfg.specs.Flow.{jump_of}
use Rattle.native_code.specs.Heads.{IsLoopHead, leads_to, jump_to, is_loop_head}

-- ---- one jump

leads-some : (head : ℕ) (o : Option ℕ) → leads_to head o ≡ true → o ≡ Some head
leads-some head None e = absurd cc
leads-some head (Some i) e = elim (cases_eq i head) [
  | inl same ↦ ap Some same
  | inr n ↦ let wrong : true ≡ false = sym e ∙ ne_eqb i head n in absurd cc
]

some-leads : (head : ℕ) (o : Option ℕ) → o ≡ Some head → leads_to head o ≡ true
some-leads head o e = ap (leads_to head) e ∙ eq-eqb head head refl

-- ---- a list of instructions

-- one of them, whose first stands at an index, jumps to the head
record Jumps (head from : ℕ) (l : List Insn) : Type 0 where
  place : ℕ
  insn : Insn
  here : slice_get l place ≡ Some insn
  leads : jump_of (from + place) insn ≡ Some head

found : (l : List Insn) (head from : ℕ) → jump_to head from l ≡ true → Jumps head from l
found [] head from e = absurd cc
found (insn ∷ rest) head from e = elim (or_cases (leads_to head (jump_of from insn)) (jump_to head (suc from) rest) e) [
  | inl first ↦
      let same : from ≡ from + 0 = omega arith in
      record { place = 0; insn = insn; here = refl; leads = subst (λ k. jump_of k insn ≡ Some head) same (leads-some head (jump_of from insn) first) }
  | inr later ↦
      let f = found rest head (suc from) later in
      let same : suc from + f.place ≡ from + suc f.place = omega arith in
      record { place = suc f.place; insn = f.insn; here = f.here; leads = subst (λ k. jump_of k f.insn ≡ Some head) same f.leads }
]

pub reaches : (l : List Insn) (head from place : ℕ) (insn : Insn) → slice_get l place ≡ Some insn → jump_of (from + place) insn ≡ Some head →
    jump_to head from l ≡ true
reaches [] head from place insn here leads = absurd cc
reaches (first ∷ rest) head from zero insn here leads =
    let same : from + 0 ≡ from = omega arith in
    let jump : jump_of from first ≡ Some head =
    ap (jump_of from) (same_Some first insn here) ∙ subst (λ k. jump_of k insn ≡ Some head) same leads in
    or_left (leads_to head (jump_of from first)) (jump_to head (suc from) rest) (some-leads head (jump_of from first) jump)
reaches (first ∷ rest) head from (suc place) insn here leads =
    let same : from + suc place ≡ suc from + place = omega arith in
    or_right (leads_to head (jump_of from first)) (jump_to head (suc from) rest)
    (reaches rest head (suc from) place insn here (subst (λ k. jump_of k insn ≡ Some head) same leads))

-- ---- from an index on

dropped : (n : ℕ) (l : List Insn) (k : ℕ) → slice_get (drop n l) k ≡ slice_get l (n + k)
dropped zero l k = let same : k ≡ 0 + k = omega arith in ap (slice_get l) same
dropped (suc n) [] k = refl
dropped (suc n) (x ∷ l) k = let same : suc (n + k) ≡ suc n + k = omega arith in dropped n l k ∙ ap (slice_get (x ∷ l)) same

pub head-from : (code : List Insn) (head : ℕ) → is_loop_head code head ≡ true → IsLoopHead code head
head-from code head e =
    let f = found (drop head code) head head e in
    record { from = head + f.place; back = omega arith; insn = f.insn; here = sym (dropped head code f.place) ∙ f.here; leads = f.leads }

head-to : (code : List Insn) (head : ℕ) → IsLoopHead code head → is_loop_head code head ≡ true
head-to code head h =
    let b = h.back in
    let same : h.from ≡ head + (h.from - head) = omega (arith, b) in
    reaches (drop head code) head head (h.from - head) h.insn
    (dropped head code (h.from - head) ∙ ap (slice_get code) (sym same) ∙ h.here)
    (subst (λ k. jump_of k h.insn ≡ Some head) same h.leads)

pub heads : (code : List Insn) (head : ℕ) → (is_loop_head code head ≡ true) ↔ IsLoopHead code head
heads code head = (head-from code head, head-to code head)

-- a loop head is an index of the code
pub head-inside : (code : List Insn) (i : ℕ) → is_loop_head code i ≡ true → i < length code
head-inside code i e =
    let h : IsLoopHead code i = (heads code i).0 e in
    let low = slice_get_within code h.from h.insn h.here in
    let b = h.back in
    omega (arith, low, b)
