-- One round of the class's search, and that it doesn't go by how many rounds are left where they are enough.
use Rattle.std.proofs.Common.{◌≡◌, ℕ, zero, suc, ◌≤◌, max, Option, Some, None, refl, ◌∙◌, ap, arith, option_map}
use Rattle.term_table.specs.Tree.{Tree, Var}
use Rattle.term_table.specs.Subst.{bind}
use Rattle.formula_tree.specs.Formulas.{Form, FTrue, FFalse, FRel, FRd, FWr, FAnd, FOr, FImp, FAll, FAllm, shift_form}
use Rattle.lf_terms.specs.ProofTerms.{ff_e, and_i, or_l, or_r, imp_i, all_i, allm_i}
use Rattle.prover_class.specs.Hypotheses.{Hyps, find_hyp, raised_hyps, split_hyps, with_new}
use Rattle.prover_class.specs.Goals.{first_of, absurdity, levels, Prover, by_shape, goal_proof}
use Rattle.prover_goals.specs.Provers.{whole_proof}

pub levels-shift : (A : Form) (k c : ℕ) → levels (shift_form k c A) ≡ levels A
levels-shift FTrue k c = refl
levels-shift FFalse k c = refl
levels-shift (FRel r a b) k c = refl
levels-shift (FRd a) k c = refl
levels-shift (FWr a) k c = refl
levels-shift (FAnd A B) k c = λ i. suc (max (levels-shift A k c i) (levels-shift B k c i))
levels-shift (FOr A B) k c = λ i. suc (max (levels-shift A k c i) (levels-shift B k c i))
levels-shift (FImp A B) k c = λ i. suc (max (levels-shift A k c i) (levels-shift B k c i))
levels-shift (FAll A) k c = ap suc (levels-shift A k (suc c))
levels-shift (FAllm A) k c = ap suc (levels-shift A k (suc c))

-- what a round does beside the goal's shape
abbrev before_shape : Hyps → Form → Option Tree → Option Tree
before_shape Γ A o = first_of (find_hyp Γ A) (first_of (option_map (ff_e A) (absurdity Γ)) o)

-- each goal has a level
some_level : (A : Form) → levels A ≤ 0 → ⊥
some_level FTrue h = omega (arith, h)
some_level FFalse h = omega (arith, h)
some_level (FRel r a b) h = omega (arith, h)
some_level (FRd a) h = omega (arith, h)
some_level (FWr a) h = omega (arith, h)
some_level (FAnd A B) h = omega (arith, h)
some_level (FOr A B) h = omega (arith, h)
some_level (FImp A B) h = omega (arith, h)
some_level (FAll A) h = omega (arith, h)
some_level (FAllm A) h = omega (arith, h)

-- what proves the goal's parts alike proves the goal alike
shapes : (leaf f g : Prover) (n m out : ℕ) (Γ : Hyps) (A : Form) → ((out : ℕ) (Γ : Hyps) (B : Form) → levels B ≤ n → levels B ≤ m → f out Γ B ≡ g out Γ B) → levels A ≤ suc n → levels A ≤ suc m → by_shape f leaf out Γ A ≡ by_shape g leaf out Γ A
shapes leaf f g n m out Γ FTrue alike h k = refl
shapes leaf f g n m out Γ FFalse alike h k = refl
shapes leaf f g n m out Γ (FRel r a b) alike h k = refl
shapes leaf f g n m out Γ (FRd a) alike h k = refl
shapes leaf f g n m out Γ (FWr a) alike h k = refl
shapes leaf f g n m out Γ (FAnd A B) alike h k =
    let a = alike out Γ A (omega (arith, h)) (omega (arith, k)) in
    let b = alike out Γ B (omega (arith, h)) (omega (arith, k)) in
    λ i. bind (a i) (λ p. option_map (and_i A B p) (b i))
shapes leaf f g n m out Γ (FOr A B) alike h k =
    let a = alike out Γ A (omega (arith, h)) (omega (arith, k)) in
    let b = alike out Γ B (omega (arith, h)) (omega (arith, k)) in
    λ i. first_of (option_map (or_l A B) (a i)) (option_map (or_r A B) (b i))
shapes leaf f g n m out Γ (FImp A B) alike h k =
    let s : levels (shift_form 1 0 B) ≡ levels B = levels-shift B 1 0 in
    ap (option_map (imp_i A B)) (alike (suc out) (with_new (raised_hyps Γ) (split_hyps (shift_form 1 0 A) (Var 0))) (shift_form 1 0 B) (omega (arith, h, s)) (omega (arith, k, s)))
shapes leaf f g n m out Γ (FAll A) alike h k = ap (option_map (all_i A)) (alike (suc out) (raised_hyps Γ) A (omega (arith, h)) (omega (arith, k)))
shapes leaf f g n m out Γ (FAllm A) alike h k = ap (option_map (allm_i A)) (alike (suc out) (raised_hyps Γ) A (omega (arith, h)) (omega (arith, k)))

-- enough rounds are as good as any more
pub enough : (leaf : Prover) (n m out : ℕ) (Γ : Hyps) (A : Form) → levels A ≤ n → levels A ≤ m → goal_proof leaf n out Γ A ≡ goal_proof leaf m out Γ A
enough leaf zero m out Γ A h k = absurd (some_level A h)
enough leaf (suc n) zero out Γ A h k = absurd (some_level A k)
enough leaf (suc n) (suc m) out Γ A h k = ap (before_shape Γ A) (shapes leaf (goal_proof leaf n) (goal_proof leaf m) n m out Γ A (enough leaf n m) h k)

-- nothing is found beside the goal's shape
quiet : (Γ : Hyps) (A : Form) (o : Option Tree) → find_hyp Γ A ≡ None → absurdity Γ ≡ None → before_shape Γ A o ≡ o
quiet Γ A o f a = ap (λ z. first_of z (first_of (option_map (ff_e A) (absurdity Γ)) o)) f ∙ ap (λ z. first_of (option_map (ff_e A) z) o) a

-- where no hypothesis is the goal and nothing is absurd, the goal's shape decides
pub by_round : (leaf : Prover) (out : ℕ) (Γ : Hyps) (A : Form) → find_hyp Γ A ≡ None → absurdity Γ ≡ None → whole_proof leaf out Γ A ≡ by_shape (whole_proof leaf) leaf out Γ A
by_round leaf out Γ FTrue f a = quiet Γ FTrue _ f a
by_round leaf out Γ FFalse f a = quiet Γ FFalse _ f a
by_round leaf out Γ (FRel r x y) f a = quiet Γ (FRel r x y) _ f a
by_round leaf out Γ (FRd x) f a = quiet Γ (FRd x) _ f a
by_round leaf out Γ (FWr x) f a = quiet Γ (FWr x) _ f a
by_round leaf out Γ (FAnd A B) f a =
    let l = enough leaf (max (levels A) (levels B)) (levels A) out Γ A (omega arith) (omega arith) in
    let r = enough leaf (max (levels A) (levels B)) (levels B) out Γ B (omega arith) (omega arith) in
    quiet Γ (FAnd A B) _ f a ∙ (λ i. bind (l i) (λ p. option_map (and_i A B p) (r i)))
by_round leaf out Γ (FOr A B) f a =
    let l = enough leaf (max (levels A) (levels B)) (levels A) out Γ A (omega arith) (omega arith) in
    let r = enough leaf (max (levels A) (levels B)) (levels B) out Γ B (omega arith) (omega arith) in
    quiet Γ (FOr A B) _ f a ∙ (λ i. first_of (option_map (or_l A B) (l i)) (option_map (or_r A B) (r i)))
by_round leaf out Γ (FImp A B) f a =
    let s : levels (shift_form 1 0 B) ≡ levels B = levels-shift B 1 0 in
    quiet Γ (FImp A B) _ f a
    ∙ ap (option_map (imp_i A B)) (enough leaf (max (levels A) (levels B)) (levels (shift_form 1 0 B)) (suc out) (with_new (raised_hyps Γ) (split_hyps (shift_form 1 0 A) (Var 0))) (shift_form 1 0 B) (omega (arith, s)) (omega arith))
by_round leaf out Γ (FAll A) f a = quiet Γ (FAll A) _ f a
by_round leaf out Γ (FAllm A) f a = quiet Γ (FAllm A) _ f a

-- a hypothesis is the goal
pub by_found : (leaf : Prover) (out : ℕ) (Γ : Hyps) (A : Form) (p : Tree) → find_hyp Γ A ≡ Some p → whole_proof leaf out Γ A ≡ Some p
by_found leaf out Γ A p f = go A f
  where
    each : (A : Form) (o : Option Tree) → find_hyp Γ A ≡ Some p → before_shape Γ A o ≡ Some p
    each A o f = ap (λ z. first_of z (first_of (option_map (ff_e A) (absurdity Γ)) o)) f

    go : (A : Form) → find_hyp Γ A ≡ Some p → whole_proof leaf out Γ A ≡ Some p
    go FTrue f = each FTrue _ f
    go FFalse f = each FFalse _ f
    go (FRel r x y) f = each (FRel r x y) _ f
    go (FRd x) f = each (FRd x) _ f
    go (FWr x) f = each (FWr x) _ f
    go (FAnd A B) f = each (FAnd A B) _ f
    go (FOr A B) f = each (FOr A B) _ f
    go (FImp A B) f = each (FImp A B) _ f
    go (FAll A) f = each (FAll A) _ f
    go (FAllm A) f = each (FAllm A) _ f

-- from an absurdity
pub by_absurdity : (leaf : Prover) (out : ℕ) (Γ : Hyps) (A : Form) (p : Tree) → find_hyp Γ A ≡ None → absurdity Γ ≡ Some p → whole_proof leaf out Γ A ≡ Some (ff_e A p)
by_absurdity leaf out Γ A p f a = go A f
  where
    each : (A : Form) (o : Option Tree) → find_hyp Γ A ≡ None → before_shape Γ A o ≡ Some (ff_e A p)
    each A o f = ap (λ z. first_of z (first_of (option_map (ff_e A) (absurdity Γ)) o)) f ∙ ap (λ z. first_of (option_map (ff_e A) z) o) a

    go : (A : Form) → find_hyp Γ A ≡ None → whole_proof leaf out Γ A ≡ Some (ff_e A p)
    go FTrue f = each FTrue _ f
    go FFalse f = each FFalse _ f
    go (FRel r x y) f = each (FRel r x y) _ f
    go (FRd x) f = each (FRd x) _ f
    go (FWr x) f = each (FWr x) _ f
    go (FAnd A B) f = each (FAnd A B) _ f
    go (FOr A B) f = each (FOr A B) _ f
    go (FImp A B) f = each (FImp A B) _ f
    go (FAll A) f = each (FAll A) _ f
    go (FAllm A) f = each (FAllm A) _ f
