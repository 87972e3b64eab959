-- Substitution's law on well-typed input, and that where a variable would reach 2 ^ 32 there is no result.
use Rattle.std.proofs.Common.{◌≡◌, ℕ, suc, ◌+◌, Option, List, [], ◌∷◌, ◌++◌, length, true, false, ◌⊎◌, inl, inr, refl, sym, ◌∙◌, ap, subst, suc-add, arith}
use Rattle.term_table.specs.Tree.{Tree, App, Lam, Const, at, shift, fits, Here, Other}
use Rattle.term_table.specs.Subst.{Simple, Arrow, erase, HSub, in_lam, in_other, in_head, Keeps, keep_var, keep_con, keep_app, Meets, meet_var, meet_app, hsub}
use Rattle.term_table.proofs.Agree.{hsub_is, hsub_follows, hsub_unique}
use Rattle.lf_signature.specs.Typing.{Checks}
use Rattle.lf_signature.specs.Simply.{simply, erased, SChecks}
use Rattle.lf_signature.specs.Laws.Simple.{checks_simply}
use Rattle.lf_lemmas.specs.Overflow.{Overflows, over_here, over_in, over_fun, over_arg, over_met, HasOneResult}
use Rattle.lf_lemmas.proofs.SimpleSubst.{SplitsTypes, SplitsTypes-under, SplitsTypes-first, WidensTypes, schecks-shift, hsub_simply}
use Rattle.lf_lemmas.proofs.SimpleTotal.{Has, hsub_total}

splits : (H G : List Tree) (A : Tree) → SplitsTypes (length H) (erase A) (erased (H ++ G)) (erased (H ++ A ∷ G))
splits [] G A = SplitsTypes-first (erase A) (erased G)
splits (B ∷ H) G A = SplitsTypes-under (length H) (erase A) (erase B) (erased (H ++ G)) (erased (H ++ A ∷ G)) (splits H G A)

at-later : (H : List Tree) (G : List Simple) (F : List Tree) (n : ℕ) → erased F ≡ G → at (erased (H ++ F)) (length H + n) ≡ at G n
at-later [] G F n e = let z : 0 + n ≡ n = omega arith in ap (at (erased F)) z ∙ ap (λ l. at l n) e
at-later (B ∷ H) G F n e = ap (at (erase B ∷ erased (H ++ F))) (suc-add (length H) n) ∙ at-later H G F n e

widens : (H G : List Tree) → WidensTypes (length H) 0 (erased G) (erased (H ++ G))
widens H G n = at-later H (erased G) G n refl

module _ (sig : Const → Option Tree) where
  -- a result, or a shift on the way reaches 2 ^ 32
  pub substitution_total : (G H : List Tree) (M N A B : Tree) → Checks sig G M A → Checks sig (H ++ A ∷ G) N B →
      Has (hsub (erase A) (shift (length H) 0 M) (length H) N) (Overflows (erase A) (shift (length H) 0 M) (length H) N)
  substitution_total G H M N A B d g =
      hsub_total (simply sig) (erase A) (checks_simply sig g) (shift (length H) 0 M) (length H) (erased (H ++ G))
      (splits H G A) (schecks-shift (simply sig) (checks_simply sig d) (length H) 0 (erased (H ++ G)) (widens H G))

  -- which has the simple type
  pub substitution_simply : (G H : List Tree) (M N A B out : Tree) → Checks sig G M A → Checks sig (H ++ A ∷ G) N B →
      HSub (erase A) (shift (length H) 0 M) (length H) N out → SChecks (simply sig) (erased (H ++ G)) out (erase B)
  substitution_simply G H M N A B out d g h =
      hsub_simply (simply sig) (erase A) (checks_simply sig g) (shift (length H) 0 M) (length H) (erased (H ++ G)) out
      (splits H G A) (schecks-shift (simply sig) (checks_simply sig d) (length H) 0 (erased (H ++ G)) (widens H G)) (hsub_is h)

  -- Substitution's law on well-typed input. M is in G, x has its type A, and H stands further in; M is put under H.
  pub substitution_law : (G H : List Tree) (M N A B : Tree) → Checks sig G M A → Checks sig (H ++ A ∷ G) N B →
      HasOneResult (simply sig) (erased (H ++ G)) (erase A) (shift (length H) 0 M) (length H) N (erase B) ⊎ Overflows (erase A) (shift (length H) 0 M) (length H) N
  substitution_law G H M N A B d g = go (substitution_total G H M N A B d g)
    where
      go : Has (hsub (erase A) (shift (length H) 0 M) (length H) N) (Overflows (erase A) (shift (length H) 0 M) (length H) N) →
          HasOneResult (simply sig) (erased (H ++ G)) (erase A) (shift (length H) 0 M) (length H) N (erase B) ⊎ Overflows (erase A) (shift (length H) 0 M) (length H) N
      go (inr o) = inr o
      go (inl w) =
          let h = hsub_follows (erase A) (shift (length H) 0 M) (length H) N w.0 w.1 in
          inl (record { out = w.0; result = h; only = λ other k. hsub_unique k h; checks = substitution_simply G H M N A B w.0 d g h })

-- ---- where a variable would reach 2 ^ 32 there is no result

keeps_not : {s u : Simple} {m : Tree} {x : ℕ} {t r r' : Tree} → Keeps s m x t r → Meets s m x t r' u → ⊥
keeps_not (keep_var e) (meet_var k) = let q : Here ≡ Other _ = sym k ∙ e in cc
keeps_not (keep_app h g) (meet_app k j l) = keeps_not h k
keeps_not keep_con k = elim k [ ]

meets_same : {s u u' : Simple} {m : Tree} {x : ℕ} {t r r' : Tree} → Meets s m x t r u → Meets s m x t r' u' → (r ≡ r') × (u ≡ u')
meets_same (meet_var e) (meet_var k) = (refl, refl)
meets_same {r = r} {r' = r'} (meet_app {s₁ = s₁} {s₂ = s₂} {b = b} {a' = a} h g k) (meet_app {s₁ = t₁} {s₂ = t₂} {b = c} {a' = d} h' g' k') =
    let w = meets_same h h' in
    let eb : b ≡ c = let q = w.0 in cc in
    let e₁ : s₁ ≡ t₁ = let q = w.1 in cc in
    let e₂ : s₂ ≡ t₂ = let q = w.1 in cc in
    let ea : a ≡ d = hsub_unique g g' in
    let k₁ : HSub t₁ a 0 b r = subst (λ z. HSub z a 0 b r) e₁ k in
    let k₂ : HSub t₁ d 0 b r = subst (λ z. HSub t₁ z 0 b r) ea k₁ in
    let k₃ : HSub t₁ d 0 c r = subst (λ z. HSub t₁ d 0 z r) eb k₂ in
    (hsub_unique k₃ k', e₂)

met_none : {s s₁ s₂ : Simple} {m : Tree} {x : ℕ} {f b a a' out : Tree} → Meets s m x f (Lam b) (Arrow s₁ s₂) → HSub s m x a a' → ((r : Tree) → HSub s₁ a' 0 b r → ⊥) → HSub s m x (App f a) out → ⊥
met_none k h o (in_other (keep_app i g)) = keeps_not i k
met_none {s₁ = s₁} {b = b} {a' = a'} k h o (in_head (meet_app {s₁ = t₁} {b = c} {a' = d} {r = r} i g j)) =
    let w = meets_same i k in
    let eb : c ≡ b = let q = w.0 in cc in
    let e₁ : t₁ ≡ s₁ = let q = w.1 in cc in
    let j₁ : HSub s₁ d 0 c r = subst (λ z. HSub z d 0 c r) e₁ j in
    let j₂ : HSub s₁ a' 0 c r = subst (λ z. HSub s₁ z 0 c r) (hsub_unique g h) j₁ in
    o r (subst (λ z. HSub s₁ a' 0 z r) eb j₂)

here_none : {s : Simple} {m : Tree} {x : ℕ} {b out : Tree} → fits (shift 1 0 m) ≡ false → HSub s m x (Lam b) out → ⊥
here_none e (in_lam k h) = let q : false ≡ true = sym e ∙ k in cc
here_none e (in_other h) = elim h [ ]
here_none e (in_head h) = elim h [ ]

in_none : {s : Simple} {m : Tree} {x : ℕ} {b out : Tree} → ((r : Tree) → HSub s (shift 1 0 m) (suc x) b r → ⊥) → HSub s m x (Lam b) out → ⊥
in_none o (in_lam {b' = r} k h) = o r h
in_none o (in_other h) = elim h [ ]
in_none o (in_head h) = elim h [ ]

fun_none : {s : Simple} {m : Tree} {x : ℕ} {f a out : Tree} → ((r : Tree) → HSub s m x f r → ⊥) → HSub s m x (App f a) out → ⊥
fun_none o (in_other (keep_app {f' = r} h g)) = o r (in_other h)
fun_none o (in_head (meet_app {b = b} h g k)) = o (Lam b) (in_head h)

arg_none : {s : Simple} {m : Tree} {x : ℕ} {f a out : Tree} → ((r : Tree) → HSub s m x a r → ⊥) → HSub s m x (App f a) out → ⊥
arg_none o (in_other (keep_app {a' = r} h g)) = o r g
arg_none o (in_head (meet_app {a' = r} h g k)) = o r g

pub overflow_none : {s : Simple} {m : Tree} {x : ℕ} {t : Tree} → Overflows s m x t → (out : Tree) → HSub s m x t out → ⊥
overflow_none (over_here e) out h = here_none e h
overflow_none (over_in o) out h = in_none (overflow_none o) h
overflow_none (over_fun o) out h = fun_none (overflow_none o) h
overflow_none (over_arg o) out h = arg_none (overflow_none o) h
overflow_none (over_met k g o) out h = met_none k g (overflow_none o) h
