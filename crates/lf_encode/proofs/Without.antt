-- Contexts without one of their variables.
use Rattle.std.proofs.Common.{◌≡◌, ℕ, zero, suc, ◌+◌, ◌-◌, ◌<◌, ◌≤◌, Bool, true, false, T, ◌||◌, cond, Some}
use Rattle.std.proofs.Common.{List, [], ◌∷◌, ◌++◌, take, drop, length, refl, sym, ◌∙◌, ap, subst, arith, inl, inr, length-append, length-drop, Option, None}
use Rattle.std.proofs.lemmas.Bool.{cases_lt}
use Rattle.std.proofs.lemmas.List.{length-take-le, take-append-drop, take_at, drop_at, take_all, drop_all, drop-drop}
use Rattle.formula_tree.specs.Formulas.{Exp, ELit, ESel, MemExp, Form, FRd}
use Rattle.formula_tree.specs.Variables.{Part, subst_var_exp, subst_var_mem, subst_var}
use Rattle.formula_tree.specs.Scope.{VarSort, sort_at, IsWithin, IsWithinPart, part_sort}
use Rattle.lf_encode.specs.declared.contexts.Sort as sort
use Rattle.lf_encode.specs.declared.contexts.Sort.TheVariants as S
use Rattle.lf_encode.specs.Contexts.{var_sort, put_nearest, has_words, has_machine, has_left, machine_count, sorts_of, bound_sorts, without_var, registers_in}
use Rattle.lf_encode.specs.Contexts.{IsExpIn, IsMemIn, IsFormIn, IsPartIn}
use Rattle.lf_encode.proofs.Naming.{below, Front, Alone, Machine, Counted, front_count, reg_count, has_steps}
use Rattle.lf_encode.proofs.Named.{put_nearest-append, count, length-sorts_of, split, machine-apart}
use Rattle.lf_encode.proofs.Counts.{count_bound}
use Rattle.formula_tree.proofs.Parts.{var-scope}
use Rattle.lf_encode.proofs.NamedParts.{IsNear}

-- ---- the machine's variables stay

has_words-front : (n k : ℕ) (ctx more : List sort.Sort) → n ≤ k → has_words n ctx ≡ true → has_words n (take k ctx ++ more) ≡ true
has_words-front zero k ctx more h q = refl
has_words-front (suc n) zero ctx more h q = absurd (omega (arith, h))
has_words-front (suc n) (suc k) [] more h q = cc
has_words-front (suc n) (suc k) (S.Exp ∷ ctx) more h q = has_words-front n k ctx more (omega (arith, h)) q
has_words-front (suc n) (suc k) (S.Mem ∷ ctx) more h q = cc

has_machine-front : (k : ℕ) (ctx more : List sort.Sort) → 32 ≤ k → has_machine ctx ≡ true → has_machine (take k ctx ++ more) ≡ true
has_machine-front zero ctx more h q = absurd (omega (arith, h))
has_machine-front (suc k) [] more h q = cc
has_machine-front (suc k) (S.Exp ∷ ctx) more h q = cc
has_machine-front (suc k) (S.Mem ∷ ctx) more h q = has_words-front 31 k ctx more (omega (arith, h)) q

pub length-without : (x : ℕ) (ctx : List sort.Sort) → length (without_var x ctx) ≡ (length ctx - suc x) + (length ctx - (length ctx - x))
length-without x ctx =
    length-append (take (length ctx - suc x) ctx) (drop (length ctx - x) ctx)
    ∙ (λ i. length-take-le (length ctx - suc x) ctx (omega arith) i + length-drop (length ctx - x) ctx i)

has_left-front : (k : ℕ) (ctx more : List sort.Sort) → 33 ≤ k → has_left ctx ≡ true →
    has_left (take k ctx ++ more) ≡ true
has_left-front zero ctx more h q = absurd (omega (arith, h))
has_left-front (suc k) [] more h q = cc
has_left-front (suc k) (S.Exp ∷ ctx) more h q = has_machine-front k ctx more (omega (arith, h)) q
has_left-front (suc k) (S.Mem ∷ ctx) more h q = cc

count-machine : (ctx : List sort.Sort) → has_machine ctx ≡ true → machine_count ctx ≡ 32
count-machine ctx e = ap (λ b. cond b 32 (cond (has_left ctx) 33 0)) e

count-left : (ctx : List sort.Sort) → has_left ctx ≡ true → machine_count ctx ≡ 33
count-left ctx g = let e = machine-apart ctx g in λ i. cond (e i) 32 (cond (g i) 33 0)

-- registers are named in a context with the machine's variables alone, and the others are one fewer then
pub machine-without : (ctx : List sort.Sort) (x : ℕ) (s : VarSort) → sort_at (bound_sorts ctx) x ≡ Some s → 0 < registers_in ctx 32 →
    IsNear (count ctx) (count (without_var x ctx)) x
machine-without ctx x s q = go (has_machine ctx) refl (has_left ctx) refl
  where
    more : List sort.Sort
    more = drop (length ctx - x) ctx

    near : x < count ctx
    near = below (bound_sorts ctx) x s q

    fewer : (n : ℕ) → machine_count ctx ≡ n → machine_count (without_var x ctx) ≡ n →
        IsNear (count ctx) (count (without_var x ctx)) x
    fewer n m k =
        let all = count_bound ctx in
        let rest = count_bound (without_var x ctx) in
        let one = length-without x ctx in
        record { count = omega (arith, near, all, rest, one, m, k); near = omega (arith, near, all, rest, one, m, k) }

    go : (b : Bool) → has_machine ctx ≡ b → (c : Bool) → has_left ctx ≡ c →
        0 < registers_in ctx 32 → IsNear (count ctx) (count (without_var x ctx)) x
    go true e c g h =
        let m = count-machine ctx e in
        let all = count_bound ctx in
        let kept = has_machine-front (length ctx - suc x) ctx more (omega (arith, near, all, m)) e in
        fewer 32 m (count-machine (without_var x ctx) kept)
    go false e true g h =
        let m = count-left ctx g in
        let all = count_bound ctx in
        let kept = has_left-front (length ctx - suc x) ctx more (omega (arith, near, all, m)) g in
        fewer 33 m (count-left (without_var x ctx) kept)
    go false e false g h =
        let none : registers_in ctx 32 ≡ 0 = λ i. cond (e i || g i) 32 0 in absurd (omega (arith, none, h))

-- where the steps that are left are named, registers are
pub left-without : (ctx : List sort.Sort) (x : ℕ) (s : VarSort) →
    sort_at (bound_sorts ctx) x ≡ Some s → T (has_left ctx) →
    IsNear (count ctx) (count (without_var x ctx)) x
left-without ctx x s q h =
    let p = split ctx in
    machine-without ctx x s q (go p.front (p.registers 32) (subst (λ b. T b) p.left h))
  where
    go : (f : Front) → registers_in ctx 32 ≡ reg_count f 32 → T (has_steps f) →
        0 < registers_in ctx 32
    go Alone e t = absurd t
    go Machine e t = absurd t
    go Counted e t = omega (arith, e)

-- ---- which variable is taken away

sorts-append : (c e : List sort.Sort) (G : List VarSort) → put_nearest (c ++ e) G ≡ put_nearest e (put_nearest c G)
sorts-append [] e G = refl
sorts-append (s ∷ c) e G = sorts-append c e (var_sort s ∷ G)

sorts-both : (c e : List sort.Sort) → sorts_of (c ++ e) ≡ sorts_of e ++ sorts_of c
sorts-both c e = sorts-append c e [] ∙ put_nearest-append e (sorts_of c)

sorts-cut : (j : ℕ) (ctx : List sort.Sort) → sorts_of (drop j ctx) ++ sorts_of (take j ctx) ≡ sorts_of ctx
sorts-cut j ctx = sym (sorts-both (take j ctx) (drop j ctx)) ∙ ap sorts_of (take-append-drop j ctx)

length-nearer : (j : ℕ) (ctx : List sort.Sort) → length (sorts_of (drop j ctx)) ≡ length ctx - j
length-nearer j ctx = length-sorts_of (drop j ctx) ∙ length-drop j ctx

-- the y nearest, and the others
nearest : (y : ℕ) (ctx : List sort.Sort) → take y (sorts_of ctx) ≡ sorts_of (drop (length ctx - y) ctx)
nearest y ctx =
    let many = length-sorts_of ctx in
    elim (cases_lt y (length ctx)) [
      | inl lt ↦
          let j : ℕ = length ctx - y in
          let all = length-nearer j ctx in
          ap (take y) (sym (sorts-cut j ctx)) ∙ take_at (sorts_of (drop j ctx)) (sorts_of (take j ctx)) y (omega (arith, all, lt))
      | inr ge ↦
          let none : 0 ≡ length ctx - y = omega (arith, ge) in take_all y (sorts_of ctx) (omega (arith, ge, many)) ∙ ap (λ j. sorts_of (drop j ctx)) none
    ]

furthest : (y : ℕ) (ctx : List sort.Sort) → drop y (sorts_of ctx) ≡ sorts_of (take (length ctx - y) ctx)
furthest y ctx =
    let many = length-sorts_of ctx in
    elim (cases_lt y (length ctx)) [
      | inl lt ↦
          let j : ℕ = length ctx - y in
          let all = length-nearer j ctx in
          ap (drop y) (sym (sorts-cut j ctx)) ∙ drop_at (sorts_of (drop j ctx)) (sorts_of (take j ctx)) y (omega (arith, all, lt))
      | inr ge ↦
          let none : 0 ≡ length ctx - y = omega (arith, ge) in drop_all y (sorts_of ctx) (omega (arith, ge, many)) ∙ ap (λ j. sorts_of (take j ctx)) none
    ]

pub sorts-without : (ctx : List sort.Sort) (x : ℕ) → sorts_of (without_var x ctx) ≡ take x (sorts_of ctx) ++ drop (suc x) (sorts_of ctx)
sorts-without ctx x =
    sorts-both (take (length ctx - suc x) ctx) (drop (length ctx - x) ctx) ∙ (λ i. sym (nearest x ctx) i ++ sym (furthest (suc x) ctx) i)

drop-front : (n k : ℕ) (ctx more : List sort.Sort) → n ≤ k → k ≤ length ctx → drop n (take k ctx ++ more) ≡ take (k - n) (drop n ctx) ++ more
drop-front zero k ctx more h l = let same : k ≡ k - 0 = omega arith in ap (λ j. take j ctx ++ more) same
drop-front (suc n) zero ctx more h l = absurd (omega (arith, h))
drop-front (suc n) (suc k) [] more h l = absurd (omega (arith, l))
drop-front (suc n) (suc k) (s ∷ ctx) more h l =
    let same : k - n ≡ suc k - suc n = omega arith in
    drop-front n k ctx more (omega (arith, h)) (omega (arith, l)) ∙ ap (λ j. take j (drop n ctx) ++ more) same

drop-without : (n x : ℕ) (ctx : List sort.Sort) → n + suc x ≤ length ctx → drop n (without_var x ctx) ≡ without_var x (drop n ctx)
drop-without n x ctx h =
    let rest = length-drop n ctx in
    let front : (length ctx - suc x) - n ≡ length (drop n ctx) - suc x = omega (arith, rest) in
    let back : length ctx - x ≡ n + (length (drop n ctx) - x) = omega (arith, rest, h) in
    drop-front n (length ctx - suc x) ctx (drop (length ctx - x) ctx) (omega (arith, h)) (omega arith)
    ∙ (λ i. take (front i) (drop n ctx) ++ drop (back i) ctx)
    ∙ ap (λ l. take (length (drop n ctx) - suc x) (drop n ctx) ++ l) (sym (drop-drop (length (drop n ctx) - x) n ctx))

pub bound-without : (ctx : List sort.Sort) (x : ℕ) → x < count ctx →
    machine_count (without_var x ctx) ≡ machine_count ctx →
    bound_sorts (without_var x ctx) ≡ take x (bound_sorts ctx) ++ drop (suc x) (bound_sorts ctx)
bound-without ctx x h same =
    let n : ℕ = machine_count ctx in
    let all = count_bound ctx in
    ap (λ k. sorts_of (drop k (without_var x ctx))) same
    ∙ ap sorts_of (drop-without n x ctx (omega (arith, all, h)))
    ∙ sorts-without (drop n ctx) x

-- contexts with as many variables of the machine name the same
named-alike : (ctx rest : List sort.Sort) (r : ℕ) → machine_count rest ≡ machine_count ctx →
    (has_left rest ≡ has_left ctx) × (registers_in rest r ≡ registers_in ctx r)
named-alike ctx rest r same =
    let p = split ctx in
    let q = split rest in
    let f = fronts q.front p.front (sym q.count ∙ same ∙ p.count) in
    (q.left ∙ ap has_steps f ∙ sym p.left, q.registers r ∙ ap (λ z. reg_count z r) f ∙ sym (p.registers r))
  where
    fronts : (f g : Front) → front_count f ≡ front_count g → f ≡ g
    fronts Alone Alone e = refl
    fronts Alone Machine e = absurd (omega (arith, e))
    fronts Alone Counted e = absurd (omega (arith, e))
    fronts Machine Alone e = absurd (omega (arith, e))
    fronts Machine Machine e = refl
    fronts Machine Counted e = absurd (omega (arith, e))
    fronts Counted Alone e = absurd (omega (arith, e))
    fronts Counted Machine e = absurd (omega (arith, e))
    fronts Counted Counted e = refl

-- ---- what is over the context without it

-- a context's sorts around one of them
taken : (B : List VarSort) (x : ℕ) (s : VarSort) → sort_at B x ≡ Some s → B ≡ take x B ++ s ∷ drop (suc x) B
taken [] x s q = cc
taken (t ∷ B) zero s q = ap (λ o. sort_or o ∷ B) q
  where
    sort_or : Option VarSort → VarSort
    sort_or (Some u) = u
    sort_or None = s
taken (t ∷ B) (suc x) s q = ap (λ l. t ∷ l) (taken B x s q)

pub form-without : (ctx : List sort.Sort) (r : ℕ) (F : Form) (x : ℕ) (p : Part) →
    IsFormIn ctx r F → sort_at (bound_sorts ctx) x ≡ Some (part_sort p) → IsPartIn (without_var x ctx) r p →
    machine_count (without_var x ctx) ≡ machine_count ctx →
    IsFormIn (without_var x ctx) r (subst_var F x p)
form-without ctx r F x p h q o same =
    let B : List VarSort = bound_sorts ctx in
    let near = below B x (part_sort p) q in
    let H : List VarSort = take x B ++ drop (suc x) B in
    let k : ℕ = registers_in ctx r in
    let l : Bool = has_left ctx in
    let bound : bound_sorts (without_var x ctx) ≡ H = bound-without ctx x near same in
    let alike = named-alike ctx (without_var x ctx) r same in
    let deep : length (take x B) ≡ x = length-take-le x B (omega (arith, near)) in
    let part : IsWithinPart l k p H = subst (λ (X : Type 0). X) (λ i. IsWithinPart (alike.0 i) (alike.1 i) p (bound i)) o in
    let over : IsWithin l k F (take x B ++ part_sort p ∷ drop (suc x) B) = subst (λ G. IsWithin l k F G) (taken B x (part_sort p) q) h in
    let done : IsWithin l k (subst_var F x p) H =
    subst (λ z. IsWithin l k (subst_var F z p) H) deep (var-scope l k F p (take x B) (drop (suc x) B) over part) in
    subst (λ (X : Type 0). X) (sym (λ i. IsWithin (alike.0 i) (alike.1 i) (subst_var F x p) (bound i))) done

pub exp-without : (ctx : List sort.Sort) (r : ℕ) (e : Exp) (x : ℕ) (p : Part) →
    IsExpIn ctx r e → sort_at (bound_sorts ctx) x ≡ Some (part_sort p) → IsPartIn (without_var x ctx) r p →
    machine_count (without_var x ctx) ≡ machine_count ctx →
    IsExpIn (without_var x ctx) r (subst_var_exp e x p)
exp-without ctx r e x p = form-without ctx r (FRd e) x p

pub mem-without : (ctx : List sort.Sort) (r : ℕ) (m : MemExp) (x : ℕ) (p : Part) →
    IsMemIn ctx r m → sort_at (bound_sorts ctx) x ≡ Some (part_sort p) → IsPartIn (without_var x ctx) r p →
    machine_count (without_var x ctx) ≡ machine_count ctx →
    IsMemIn (without_var x ctx) r (subst_var_mem m x p)
mem-without ctx r m x p h q o same = (form-without ctx r (FRd (ESel m (ELit 0))) x p (h, omega arith) q o same).0
