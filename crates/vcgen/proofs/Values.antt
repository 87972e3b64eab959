-- What expressions of an instruction stand for, and what an assignment makes of a valuation.
use Rattle.std.proofs.Common.{◌≡◌, ℕ, zero, suc, ◌+◌, ◌%◌, ◌^◌, ◌≤◌, List, [], ◌∷◌, map, length, get_or, set, refl, sym, ◌∙◌, ap, arith, inl, inr, ℤ, ◌-◌, ◌<◌, bit_and}
use Rattle.std.proofs.lemmas.Bool.{eq-eqb, ne_eqb, cases_eq}
use Rattle.std.proofs.lemmas.List.{map-set, set_past}
use Rattle.std.specs.Int.{cast_unsigned, w64}
use Rattle.word_ops.specs.Registers.{read_reg, write_reg}
use Rattle.alpha_words.specs.declared.insn.Rhs.{Rhs}
use Rattle.alpha_words.specs.declared.insn.Rhs.TheVariants.{Reg, Lit}
use Rattle.alpha_cfg.specs.Machine.{rhs_word, address_of, aligned}
use Rattle.formula_tree.specs.Formulas.{Exp, MemExp}
use Rattle.formula_tree.specs.Truth.{Valuation, Bound, exp_value, mem_value, substitution_value}
use Rattle.vcgen.specs.Assignments.{regs_from, unchanged, for_reg, for_memory, for_left}
use Rattle.vcgen.specs.Conditions.{reg_exp, rhs_exp, address_exp, aligned_exp}
use Rattle.vcgen.proofs.Substitutions.{unchanged-regs, unchanged-memory, unchanged-left}
use Rattle.std.proofs.lemmas.Nat.{mod_below}
use Rattle.std.proofs.lemmas.Nat.Bits.{and_high_mask}

-- ---- operands

pub reg_exp-value : (r : ℕ) (v : Valuation) (ρ : List Bound) → exp_value (reg_exp r) v ρ ≡ read_reg v.regs r
reg_exp-value r v ρ = elim (cases_eq r 31) [ inl e ↦ rw (eq-eqb r 31 e) refl | inr apart ↦ rw (ne_eqb r 31 apart) (rw (ne_eqb r 31 apart) refl) ]

pub rhs_exp-value : (rhs : Rhs) (v : Valuation) (ρ : List Bound) → exp_value (rhs_exp rhs) v ρ ≡ rhs_word v.regs rhs
rhs_exp-value (Reg r) v ρ = reg_exp-value r v ρ
rhs_exp-value (Lit n) v ρ = refl

pub address_exp-value : (rb : ℕ) (disp : ℤ) (v : Valuation) (ρ : List Bound) → exp_value (address_exp rb disp) v ρ ≡ address_of v.regs rb disp
address_exp-value rb disp v ρ = ap (λ x. (x + cast_unsigned w64 disp) % 2 ^ 64) (reg_exp-value rb v ρ)

-- the low three bits of a word cleared
cleared : (a : ℕ) → a < 2 ^ 64 → bit_and a (2 ^ 64 - 8) ≡ aligned a
cleared a h = and_high_mask 64 3 (omega arith) a h ∙ omega arith

pub aligned_exp-value : (rb : ℕ) (disp : ℤ) (v : Valuation) (ρ : List Bound) → exp_value (aligned_exp (address_exp rb disp)) v ρ ≡ aligned (address_of v.regs rb disp)
aligned_exp-value rb disp v ρ =
    let a : ℕ = address_of v.regs rb disp in
    ap (λ x. bit_and x (2 ^ 64 - 8)) (address_exp-value rb disp v ρ) ∙ cleared a (mod_below (read_reg v.regs rb + cast_unsigned w64 disp) (2 ^ 64) (omega arith))

-- ---- the registers, each for itself

-- n entries of a list from place k on
abbrev entries : List ℕ → ℕ → ℕ → List ℕ
entries l zero k = []
entries l (suc n) k = get_or l k 0 ∷ entries l n (suc k)

entries-cons : (w : ℕ) (l : List ℕ) (n k : ℕ) → entries (w ∷ l) n (suc k) ≡ entries l n k
entries-cons w l zero k = refl
entries-cons w l (suc n) k = ap (λ t. get_or l k 0 ∷ t) (entries-cons w l n (suc k))

entries-all : (l : List ℕ) → entries l (length l) 0 ≡ l
entries-all [] = refl
entries-all (w ∷ l) = ap (λ t. w ∷ t) (entries-cons w l (length l) 0 ∙ entries-all l)

regs_from-values : (v : Valuation) (ρ : List Bound) (n k : ℕ) → n + k ≤ 31 → map (λ e. exp_value e v ρ) (regs_from n k) ≡ entries v.regs n k
regs_from-values v ρ zero k h = refl
regs_from-values v ρ (suc n) k h =
    let here : read_reg v.regs k ≡ get_or v.regs k 0 = rw (ne_eqb k 31 (λ e. omega (arith, h, e))) refl in
    let rest = regs_from-values v ρ n (suc k) (omega (arith, h)) in
    λ i. here i ∷ rest i

unchanged-values : (v : Valuation) (ρ : List Bound) → length v.regs ≡ 31 → map (λ e. exp_value e v ρ) unchanged.regs ≡ v.regs
unchanged-values v ρ len =
    ap (map (λ e. exp_value e v ρ)) (unchanged-regs (length v.regs) len) ∙ regs_from-values v ρ (length v.regs) 0 (omega (arith, len)) ∙ entries-all v.regs

-- ---- assignments

pub for_reg-value : (r : ℕ) (e : Exp) (v : Valuation) (ρ : List Bound) → length v.regs ≡ 31 → substitution_value (for_reg r e) v ρ ≡ record v { regs = set v.regs r (exp_value e v ρ) }
for_reg-value r e v ρ len =
    let regs : map (λ x. exp_value x v ρ) (set unchanged.regs r e) ≡ set v.regs r (exp_value e v ρ) = map-set (λ x. exp_value x v ρ) unchanged.regs r e ∙ ap (λ l. set l r (exp_value e v ρ)) (unchanged-values v ρ len) in
    λ i. record { regs = regs i; memory = mem_value (unchanged-memory i) v ρ; left = exp_value (unchanged-left i) v ρ }

pub for_memory-value : (m : MemExp) (v : Valuation) (ρ : List Bound) → length v.regs ≡ 31 → substitution_value (for_memory m) v ρ ≡ record v { memory = mem_value m v ρ }
for_memory-value m v ρ len = λ i. record { regs = unchanged-values v ρ len i; memory = mem_value m v ρ; left = exp_value (unchanged-left i) v ρ }

pub for_left-value : (e : Exp) (v : Valuation) (ρ : List Bound) → length v.regs ≡ 31 → substitution_value (for_left e) v ρ ≡ record v { left = exp_value e v ρ }
for_left-value e v ρ len = λ i. record { regs = unchanged-values v ρ len i; memory = mem_value (unchanged-memory i) v ρ; left = exp_value e v ρ }

-- a write to register 31 changes nothing
pub write_reg-set : (regs : List ℕ) (r w : ℕ) → length regs ≡ 31 → write_reg regs r w ≡ set regs r w
write_reg-set regs r w len = elim (cases_eq r 31) [ inl e ↦ rw (eq-eqb r 31 e) (sym (set_past regs r w (omega (arith, len, e)))) | inr apart ↦ rw (ne_eqb r 31 apart) refl ]
