-- Where each variable of a term stands for itself, or doesn't occur, putting changes nothing.
use Rattle.std.proofs.Common.{◌≡◌, ℕ, suc, ◌+◌, ◌-◌, ◌<◌, ◌≤◌, ◌⊎◌, inl, inr, Bool, true, cond, Option, Some, refl, sym, ◌∙◌, ap, subst, arith, lt-ltb}
use Rattle.std.proofs.lemmas.Bool.{cases_lt, le-ltb, ltb-true}
use Rattle.std.specs.Bool.{Decides}
use Rattle.term_table.specs.Tree.{Tree, Var, Con, App, Lam, Fam, TApp, Pi, shift}
use Rattle.term_table.specs.Scope.{is_scoped}
use Rattle.term_table.specs.Table.{TableView, Extends}
use Rattle.term_table.proofs.Options.{some_injective}
use Rattle.lf_signature.specs.Laws.Booleans.{both}
use Rattle.lf_encode.specs.PutTree.{MachineTerms, put_for, put_tree}
use Rattle.gate_match.specs.declared.uses.Place.{Place}
use Rattle.gate_match.specs.declared.uses.Uses.{Uses}
use Rattle.gate_match.specs.Inside.Uses.{IsFreeOf, IsIdle, AreIdleFrom, IsRow, AreUses}

pub scoped-lacks : (n : ℕ) (t : Tree) → is_scoped n t ≡ true → IsFreeOf n t
scoped-lacks n (Var m) h = λ e. absurd (omega (arith, ltb-true m n h, e))
scoped-lacks n (Con c) h = tt
scoped-lacks n (App f a) h = let q = both _ _ (both _ _ h).1 in (scoped-lacks n f q.0, scoped-lacks n a q.1)
scoped-lacks n (Lam b) h = scoped-lacks (suc n) b (both _ _ h).1
scoped-lacks n (Fam a) h = tt
scoped-lacks n (TApp p a) h = tt
scoped-lacks n (Pi a b) h = tt

-- each of the machine's variables stands for itself, or doesn't occur where d variables are nearer
abbrev pub AreIdle : MachineTerms → ℕ → Tree → Type 0
AreIdle p d t = (k : ℕ) → k < 33 → (put_for p k ≡ Var k) ⊎ IsFreeOf (k + d) t

near : (p : MachineTerms) (d k : ℕ) → k < d → put_tree p d (Var k) ≡ Var k
near p d k h = ap (λ b. cond b (Var k) (shift d 0 (put_for p (k - d)))) (lt-ltb k d h)

far : (p : MachineTerms) (d k : ℕ) → put_for p k ≡ Var k → put_tree p d (Var (k + d)) ≡ Var (k + d)
far p d k e =
    let same : (k + d) - d ≡ k = omega arith in
    let turn : d + k ≡ k + d = omega arith in
    ap (λ b. cond b (Var (k + d)) (shift d 0 (put_for p ((k + d) - d)))) (le-ltb (k + d) d (omega arith)) ∙ ap (λ n. shift d 0 (put_for p n)) same ∙ ap (shift d 0) e ∙ ap Var turn

variable-stays : (p : MachineTerms) (d n : ℕ) → n < 33 + d → AreIdle p d (Var n) → put_tree p d (Var n) ≡ Var n
variable-stays p d n h idle =
    elim (cases_lt n d) [
      | inl e ↦ near p d n e
      | inr e ↦ let same : (n - d) + d ≡ n = omega (arith, e) in
          elim (idle (n - d) (omega (arith, e, h))) [
            | inl is ↦ subst (λ z. put_tree p d (Var z) ≡ Var z) same (far p d (n - d) is)
            | inr lack ↦ absurd (lack (sym same))
          ]
    ]

lacks-under : (k d : ℕ) (b : Tree) → IsFreeOf (suc (k + d)) b → IsFreeOf (k + suc d) b
lacks-under k d b h =
    let same : suc (k + d) ≡ k + suc d = omega arith in
    subst (λ n. IsFreeOf n b) same h

pub stays : (p : MachineTerms) (d : ℕ) (t : Tree) → is_scoped (33 + d) t ≡ true → AreIdle p d t → put_tree p d t ≡ t
stays p d (Var n) h idle = variable-stays p d n (ltb-true n (33 + d) h) idle
stays p d (Con c) h idle = refl
stays p d (App f a) h idle =
    let q = both _ _ (both _ _ h).1 in
    let first : AreIdle p d f = λ k l. elim (idle k l) [ inl e ↦ inl e | inr e ↦ inr e.0 ] in
    let second : AreIdle p d a = λ k l. elim (idle k l) [ inl e ↦ inl e | inr e ↦ inr e.1 ] in
    λ i. App (stays p d f q.0 first i) (stays p d a q.1 second i)
stays p d (Lam b) h idle =
    let under : AreIdle p (suc d) b = λ k l. elim (idle k l) [ inl e ↦ inl e | inr e ↦ inr (lacks-under k d b e) ] in
    let room : suc (33 + d) ≡ 33 + suc d = omega arith in
    ap Lam (stays p (suc d) b (subst (λ n. is_scoped n b ≡ true) room (both _ _ h).1) under)
stays p d (Fam a) h idle = refl
stays p d (TApp f a) h idle = refl
stays p d (Pi a b) h idle = refl

-- what stays at the machine's own variables
pub stays_whole : (p : MachineTerms) (t : Tree) → is_scoped 33 t ≡ true → AreIdleFrom 0 p t → put_tree p 0 t ≡ t
stays_whole p t h idle =
    let room : 33 ≡ 33 + 0 = omega arith in
    let each : AreIdle p 0 t = λ k l. elim (idle k (omega arith) l) [ inl e ↦ inl e | inr e ↦ inr (lacks-at k t e) ] in
    stays p 0 t (subst (λ n. is_scoped n t ≡ true) room h) each
  where
    lacks-at : (k : ℕ) (t : Tree) → IsFreeOf k t → IsFreeOf (k + 0) t
    lacks-at k t h = let same : k ≡ k + 0 = omega arith in subst (λ n. IsFreeOf n t) same h

pub idle_none : (p : MachineTerms) (t : Tree) (k : ℕ) → 33 ≤ k → AreIdleFrom k p t
idle_none p t k h = λ j l m. absurd (omega (arith, h, l, m))

pub idle_more : (p : MachineTerms) (t : Tree) (k : ℕ) → IsIdle k p t → AreIdleFrom (k + 1) p t → AreIdleFrom k p t
idle_more p t k first rest = λ j l m.
    elim (cases_lt k j) [
      | inl e ↦ rest j (omega (arith, e)) m
      | inr e ↦ let same : k ≡ j = omega (arith, l, e) in subst (λ i. IsIdle i p t) same first
    ]

pub uses-more : (uses : Uses) (t u : TableView) → AreUses t uses → Extends t u → AreUses u uses
uses-more uses t u h e = record {
  each = λ place lacks i.
      let row = h.each place lacks i in
      (omega (arith, row.0, e.longer), λ b. subst (IsFreeOf place.variable) (sym (e.same place.id row.0)) (row.1 b));
}

-- one answer more
pub uses-keep : (t : TableView) (old after : Place → Option Bool) (eq : Place → Place → Bool) (place : Place) (row : Bool) → ((a b : Place) → Decides (eq a b) (a ≡ b)) →
    ((p : Place) (r : Bool) → old p ≡ Some r → IsRow t p r) → IsRow t place row → ((p : Place) → after p ≡ cond (eq place p) (Some row) (old p)) →
    (p : Place) (r : Bool) → after p ≡ Some r → IsRow t p r
uses-keep t old after eq place row same h new up p r i = go (eq place p) refl
  where
    go : (b : Bool) → eq place p ≡ b → IsRow t p r
    go true e =
        let s : place ≡ p = (same place p).0 e in
        let k : row ≡ r = some_injective (sym (up p ∙ ap (λ b. cond b (Some row) (old p)) e) ∙ i) in
        subst (λ z. IsRow t z r) s (subst (λ (z : Bool). IsRow t place z) k new)
    go _ e = h p r (sym (up p ∙ ap (λ b. cond b (Some row) (old p)) e) ∙ i)
