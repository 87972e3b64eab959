-- A variable put in its own place.
use Rattle.std.proofs.Common.{◌≡◌, ℕ, zero, suc, ◌<◌, ◌≤◌, Bool, true, false, nat_lt, refl, sym, ◌∙◌, ap, one-add, arith}
use Rattle.std.proofs.lemmas.Bool.{ltb-true, ltb-false}
use Rattle.term_table.specs.Tree.{Tree, Var, Con, App, Lam, Fam, TApp, Pi, shift, raise, spot}
use Rattle.lf_terms.specs.Plain.{plain_spot, plain_subst}
use Rattle.lf_terms.proofs.Shifts.{spot-own, spot-under, spot-over, raise-under}

raise-past : (c n : ℕ) → c ≤ n → raise 1 c n ≡ suc n
raise-past zero n h = omega arith
raise-past (suc c) zero h = absurd (omega (arith, h))
raise-past (suc c) (suc n) h = ap suc (raise-past c n (omega (arith, h)))

eta-var : (c n : ℕ) → plain_spot (Var c) (spot c (raise 1 (suc c) n)) ≡ Var n
eta-var c n = below (nat_lt n c) refl
  where
    past : (m : ℕ) → n ≡ m → c ≤ m → plain_spot (Var c) (spot c (raise 1 (suc c) n)) ≡ Var n
    past zero q h =
        let own : c ≡ n = omega (arith, q, h) in
        let same : raise 1 (suc c) n ≡ c = raise-under 1 (suc c) n (omega (arith, own)) ∙ sym own in
        ap (λ z. plain_spot (Var c) (spot c z)) same ∙ ap (plain_spot (Var c)) (spot-own c) ∙ ap Var own
    past (suc k) q h = which (nat_lt k c) refl
      where
        which : (b : Bool) → nat_lt k c ≡ b → plain_spot (Var c) (spot c (raise 1 (suc c) n)) ≡ Var n
        which true g =
            let own : c ≡ n = omega (arith, q, h, ltb-true k c g) in
            let same : raise 1 (suc c) n ≡ c = raise-under 1 (suc c) n (omega (arith, own)) ∙ sym own in
            ap (λ z. plain_spot (Var c) (spot c z)) same ∙ ap (plain_spot (Var c)) (spot-own c) ∙ ap Var own
        which false g =
            let low : suc c ≤ n = omega (arith, q, ltb-false k c g) in
            let next : raise 1 (suc c) n ≡ suc n = raise-past (suc c) n low in
            ap (λ z. plain_spot (Var c) (spot c z)) next ∙ ap (plain_spot (Var c)) (spot-over c n (omega (arith, low)))

    below : (b : Bool) → nat_lt n c ≡ b → plain_spot (Var c) (spot c (raise 1 (suc c) n)) ≡ Var n
    below true g =
        let low : n < c = ltb-true n c g in
        ap (λ z. plain_spot (Var c) (spot c z)) (raise-under 1 (suc c) n (omega (arith, low))) ∙ ap (plain_spot (Var c)) (spot-under c n low)
    below false g = past n refl (ltb-false n c g)

pub eta : (t : Tree) (c : ℕ) → plain_subst (Var c) c (shift 1 (suc c) t) ≡ t
eta (Var n) c = eta-var c n
eta (Con d) c = refl
eta (App f a) c = λ i. App (eta f c i) (eta a c i)
eta (Lam b) c = ap (λ z. Lam (plain_subst (Var z) (suc c) (shift 1 (suc (suc c)) b))) (one-add c) ∙ ap Lam (eta b (suc c))
eta (Fam a) c = refl
eta (TApp p a) c = λ i. TApp (eta p c i) (eta a c i)
eta (Pi a b) c =
    ap (λ z. Pi (plain_subst (Var c) c (shift 1 (suc c) a)) (plain_subst (Var z) (suc c) (shift 1 (suc (suc c)) b))) (one-add c)
    ∙ (λ i. Pi (eta a c i) (eta b (suc c) i))
