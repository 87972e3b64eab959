-- A closed formula that is true says that the formula is true of all registers and memories.
use Rattle.std.proofs.Common.{◌≡◌, ℕ, zero, suc, ◌+◌, ◌<◌, ◌^◌, List, [], ◌∷◌, map, length, get_or, Option, Some, None, refl, sym, ◌∙◌, ap, subst, arith}
use Rattle.word_ops.specs.Rights.{Rights}
use Rattle.word_ops.specs.Registers.{AreRegs}
use Rattle.word_ops.specs.Memory.{IsMemory}
use Rattle.formula_tree.specs.Formulas.{EVar, MVar, Form}
use Rattle.formula_tree.specs.Substitution.{subst_form}
use Rattle.formula_tree.specs.Truth.{Valuation, Bound, BWord, BMem, bound_at, bound_word, bound_memory, exp_value, mem_value, IsTrueIn, nowhere, substitution_value}
use Rattle.formula_tree.proofs.Meaning.{subst-truth}
use Rattle.lf_encode.specs.Contexts.{vars_down, machine_names}
use Rattle.vcgen.specs.Conditions.{alls, close}
use Rattle.vcgen.specs.Safety.{IsStepCount}
use Rattle.vcgen.proofs.WalkTrees.{length-machine_names}
use Rattle.vcgen.proofs.BoundValues.{IgnoresBound}

-- ---- the parts of the names, by a number of registers that isn't written out

names-regs : (n : ℕ) → n ≡ 31 → machine_names.regs ≡ vars_down n
unfolding machine_names
names-regs n e = ap vars_down (sym e)

names-memory : (n : ℕ) → n ≡ 31 → machine_names.memory ≡ MVar n
unfolding machine_names
names-memory n e = ap MVar (sym e)

names-left : (n : ℕ) → n ≡ 31 → machine_names.left ≡ EVar (suc n)
unfolding machine_names
names-left n e = ap (λ k. EVar (suc k)) (sym e)

-- ---- words before other values, the last word nearest

abbrev push : List ℕ → List Bound → List Bound
push [] ρ = ρ
push (w ∷ ws) ρ = push ws (BWord w ∷ ρ)

push-past : (ws : List ℕ) (ρ : List Bound) (j : ℕ) → bound_at (push ws ρ) (length ws + j) ≡ bound_at ρ j
push-past [] ρ j = let e : 0 + j ≡ j = omega arith in ap (bound_at ρ) e
push-past (w ∷ ws) ρ j = let e : suc (length ws) + j ≡ length ws + suc j = omega arith in ap (bound_at (push ws (BWord w ∷ ρ))) e ∙ push-past ws (BWord w ∷ ρ) (suc j)

push-at : (ws : List ℕ) (ρ : List Bound) (n j : ℕ) → n ≡ length ws + j → bound_at (push ws ρ) n ≡ bound_at ρ j
push-at ws ρ n j e = ap (bound_at (push ws ρ)) e ∙ push-past ws ρ j

vars_down-values : (ws : List ℕ) (v : Valuation) (ρ : List Bound) → map (λ e. exp_value e v (push ws ρ)) (vars_down (length ws)) ≡ ws
vars_down-values [] v ρ = refl
vars_down-values (w ∷ ws) v ρ =
    let here : bound_word (bound_at (push ws (BWord w ∷ ρ)) (length ws)) ≡ w = ap bound_word (push-at ws (BWord w ∷ ρ) (length ws) 0 (omega arith)) in
    let rest = vars_down-values ws v (BWord w ∷ ρ) in
    λ i. here i ∷ rest i

alls-true : (R : Rights) (F : Form) (v : Valuation) (n : ℕ) (ws : List ℕ) (ρ : List Bound) → length ws ≡ n → ((k : ℕ) → get_or ws k 0 < 2 ^ 64) → IsTrueIn R (alls n F) v ρ → IsTrueIn R F v (push ws ρ)
alls-true R F v zero [] ρ len words t = t
alls-true R F v (suc n) [] ρ len words t = absurd (omega (arith, len))
alls-true R F v zero (w ∷ ws) ρ len words t = absurd (omega (arith, len))
alls-true R F v (suc n) (w ∷ ws) ρ len words t = alls-true R F v n ws (BWord w ∷ ρ) (omega (arith, len)) (λ k. words (suc k)) (t w (words 0))

-- ---- closing

-- what the names stand for, the steps that are left being furthest
names-value : (v : Valuation) (ρ : List Bound) → length v.regs ≡ 31
    → bound_word (bound_at ρ 0) ≡ v.left →
    substitution_value machine_names nowhere (push v.regs (BMem v.memory ∷ ρ)) ≡ v
names-value v ρ len is =
    let n : ℕ = length v.regs in
    let far : List Bound = BMem v.memory ∷ ρ in
    let σ : List Bound = push v.regs far in
    let regs : map (λ x. exp_value x nowhere σ) machine_names.regs ≡ v.regs =
    ap (map (λ x. exp_value x nowhere σ)) (names-regs n len) ∙ vars_down-values v.regs nowhere far
    in
    let memory : mem_value machine_names.memory nowhere σ ≡ v.memory =
    ap (λ m. mem_value m nowhere σ) (names-memory n len)
    ∙ ap bound_memory (push-at v.regs far n 0 (omega arith))
    in
    let left : exp_value machine_names.left nowhere σ ≡ v.left =
    ap (λ e. exp_value e nowhere σ) (names-left n len)
    ∙ ap bound_word (push-at v.regs far (suc n) 1 (omega arith)) ∙ is
    in
    λ i. record { regs = regs i; memory = memory i; left = left i }

names-true : (R : Rights) (F : Form) (v : Valuation) (ρ : List Bound) → IgnoresBound F
    → AreRegs v.regs → bound_word (bound_at ρ 0) ≡ v.left
    → IsTrueIn R (alls 31 (subst_form F machine_names)) nowhere (BMem v.memory ∷ ρ)
    → IsTrueIn R F v []
names-true R F v ρ ignores are left t =
    let far : List Bound = BMem v.memory ∷ ρ in
    let σ : List Bound = push v.regs far in
    let named : Form = subst_form F machine_names in
    let put : IsTrueIn R named nowhere σ =
    alls-true R named nowhere 31 v.regs far are.count are.words t in
    let there : IsTrueIn R F v σ =
    subst (λ (u : Valuation). IsTrueIn R F u σ) (names-value v ρ are.count left)
    ((subst-truth R F machine_names nowhere σ length-machine_names).0 put) in
    (ignores R v σ are.count).0 there

pub close-true : (R : Rights) (bound : Option ℕ) (F : Form) (v : Valuation) → IgnoresBound F
    → AreRegs v.regs → IsMemory v.memory → IsStepCount bound v.left
    → IsTrueIn R (close bound F) nowhere [] → IsTrueIn R F v []
close-true R None F v ignores are mem none t =
    names-true R F v [] ignores are (sym none) (t v.memory mem)
close-true R (Some bound) F v ignores are mem few t =
    names-true R F v (BWord v.left ∷ []) ignores are refl (t v.left few v.memory mem)
