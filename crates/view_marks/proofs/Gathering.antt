-- Formulas and hypotheses, one after another.
use Rattle.std.proofs.Common.{◌≡◌, ◌<◌, ◌≤◌, ◌+◌, ℕ, zero, suc, Bool, true, false, if◌then◌else◌, List, [], ◌∷◌, ◌++◌, map, length, get_or, drop, append_assoc, append-nil, refl, sym, ◌∙◌, ap, subst, arith}
use Rattle.std.proofs.lemmas.List.{map-append}
use Rattle.term_table.specs.Tree.{Tree, Var}
use Rattle.term_table.specs.Table.{TableView, IsKnown, AllKnown, tree_at, Extends}
use Rattle.formula_tree.specs.Formulas.{Exp, Form}
use Rattle.lf_terms.specs.Encoding.{form_encoding}
use Rattle.prover_ids.specs.Hypotheses.{AreHyps}
use Rattle.prover_ids.specs.declared.hypotheses.Hypothesis.{Hypothesis}
use Rattle.prover_bounds.proofs.Scans.{IsHypAt, hyp_at, dropped}
use Rattle.prover_class.specs.Hypotheses.{Hyps, split_hyps, with_new}
use Rattle.prover_class.specs.Access.{Access}
use Rattle.view_marks.specs.Hints.{known_hyps, is_near, near}
use Rattle.view_marks.specs.Inside.Known.{AreSplitTo}

-- ---- lists of ids

pub all_known-more : (t u : TableView) (l : List ℕ) → AllKnown t l → Extends t u → AllKnown u l
all_known-more t u [] k x = tt
all_known-more t u (id ∷ l) k x = (omega (arith, k.0, x.longer), all_known-more t u l k.1 x)

known-append : (t : TableView) (l : List ℕ) (id : ℕ) → AllKnown t l → IsKnown t id
    → AllKnown t (l ++ id ∷ [])
known-append t [] id k i = (i, tt)
known-append t (x ∷ l) id k i = (k.0, known-append t l id k.1 i)

pub known_push : (t : TableView) (l m : List ℕ) (id : ℕ) → AllKnown t l → IsKnown t id
    → m ≡ l ++ id ∷ [] → AllKnown t m
known_push t l m id k i e = subst (AllKnown t) (sym e) (known-append t l id k i)

pub known_at : (t : TableView) (l : List ℕ) (i d : ℕ) → AllKnown t l → i < length l
    → IsKnown t (get_or l i d)
known_at t [] i d k low = absurd (omega (arith, low))
known_at t (x ∷ l) zero d k low = k.0
known_at t (x ∷ l) (suc i) d k low = known_at t l i d k.1 (omega (arith, low))

pub trees-kept : (t u : TableView) (l : List ℕ) → AllKnown t l → Extends t u
    → map (tree_at u) l ≡ map (tree_at t) l
trees-kept t u [] k x = refl
trees-kept t u (id ∷ l) k x = λ i. x.same id k.0 i ∷ trees-kept t u l k.1 x i

-- ---- known formulas

-- a formula, which the id stands for, and those behind it
pub record IsFormAt (t : TableView) (Fs : List Form) (i id : ℕ) : Type 0 where
  pub now : Form
  pub is : tree_at t id ≡ form_encoding now
  pub rest : drop i Fs ≡ now ∷ drop (suc i) Fs

pub form_at : (t : TableView) (l : List ℕ) (Fs : List Form) (i d : ℕ)
    → map (tree_at t) l ≡ map form_encoding Fs → i < length l → IsFormAt t Fs i (get_or l i d)
form_at t [] Fs i d e low = absurd (omega (arith, low))
form_at t (x ∷ l) [] i d e low =
    let wrong : tree_at t x ∷ map (tree_at t) l ≡ [] = e in cc
form_at t (x ∷ l) (F ∷ Fs) zero d e low = record {
  now = F;
  is = ap (λ (m : List Tree). get_or m 0 (Var 0)) e;
  rest = refl;
}
form_at t (x ∷ l) (F ∷ Fs) (suc i) d e low =
    let at = form_at t l Fs i d (ap (drop 1) e) (omega (arith, low)) in
    record { now = at.now; is = at.is; rest = at.rest }

-- the next formula is split, too
pub split-step : (s t u : TableView) (l : List ℕ) (Fs : List Form) (i d : ℕ)
    (hyps more : List Hypothesis)
    → AllKnown s l → Extends s t → map (tree_at s) l ≡ map form_encoding Fs → i < length l
    → ((Γ : Hyps) (F : Form) → AreHyps t hyps Γ → tree_at t (get_or l i d) ≡ form_encoding F
    → AreHyps u more (with_new Γ (split_hyps F (Var i))))
    → AreSplitTo t hyps i Fs → AreSplitTo u more (i + 1) Fs
split-step s t u l Fs i d hyps more k x e low added before =
    let at = form_at s l Fs i d e low in
    let next : suc i ≡ i + 1 = omega arith in
    let now = with_new before.now (split_hyps at.now (Var i)) in
    record {
      now = now;
      are = added before.now at.now before.are
          (x.same (get_or l i d) (known_at s l i d k low) ∙ at.is);
      rest = ap (λ (n : ℕ). known_hyps now n (drop n Fs)) (sym next)
          ∙ ap (known_hyps before.now i) (sym at.rest) ∙ before.rest;
    }

-- ---- hypotheses that are near

-- the formulas that were found, and those that will be
abbrev pub AreFound : TableView → List ℕ → Access → Exp → Hyps → ℕ → Type 0
AreFound t found k a Γ i =
    map (tree_at t) found ++ map form_encoding (near k a (drop i Γ))
    ≡ map form_encoding (near k a Γ)

module _ (s t u : TableView) (l : List Hypothesis) (Γ : Hyps) (i : ℕ) (k : Access) (a : Exp)
    (x : Hypothesis) (found : List ℕ) (b : Bool)
  where
    at-place : x ≡ get_or l i x → AreHyps s l Γ → i < length l → IsHypAt s Γ i x
    at-place is h low =
        subst (λ (z : Hypothesis). IsHypAt s Γ i z) (sym is) (hyp_at s l Γ i x h low)

    -- those from the place on
    from-place : (o : IsHypAt s Γ i x)
        → near k a (drop i Γ)
        ≡ (if is_near k a o.now.0 then o.now.0 ∷ near k a (drop (i + 1) Γ)
        else near k a (drop (i + 1) Γ))
    from-place o =
        let next : suc i ≡ i + 1 = omega arith in
        ap (near k a) o.rest
        ∙ ap (λ (n : ℕ). if is_near k a o.now.0 then o.now.0 ∷ near k a (drop n Γ)
        else near k a (drop n Γ)) next

    -- one that isn't near
    pub far-step : x ≡ get_or l i x → AreHyps s l Γ → i < length l → Extends s t → IsKnown s x.form
        → AllKnown t found → Extends t u
        → ((A : Form) → tree_at t x.form ≡ form_encoding A → b ≡ is_near k a A) → b ≡ false
        → AreFound t found k a Γ i → AreFound u found k a Γ (i + 1)
    far-step is h low st kx kf tu told e before =
        let o = at-place is h low in
        let far : is_near k a o.now.0 ≡ false =
        sym (told o.now.0 (st.same x.form kx ∙ o.form)) ∙ e in
        let others = near k a (drop (i + 1) Γ) in
        let rest : near k a (drop i Γ) ≡ others =
        from-place o ∙ ap (λ (z : Bool). if z then o.now.0 ∷ others else others) far in
        ap (λ z. z ++ map form_encoding others) (trees-kept t u found kf tu)
        ∙ ap (λ (z : List Form). map (tree_at t) found ++ map form_encoding z) (sym rest) ∙ before

    -- one that is
    pub near-step : (more : List ℕ) → x ≡ get_or l i x → AreHyps s l Γ → i < length l
        → Extends s t → IsKnown s x.form → AllKnown t found → Extends t u
        → ((A : Form) → tree_at t x.form ≡ form_encoding A → b ≡ is_near k a A) → b ≡ true
        → more ≡ found ++ x.form ∷ []
        → AreFound t found k a Γ i → AreFound u more k a Γ (i + 1)
    near-step more is h low st kx kf tu told e pushed before =
        let o = at-place is h low in
        let there : tree_at t x.form ≡ form_encoding o.now.0 = st.same x.form kx ∙ o.form in
        let near_is : is_near k a o.now.0 ≡ true = sym (told o.now.0 there) ∙ e in
        let others = near k a (drop (i + 1) Γ) in
        let rest : near k a (drop i Γ) ≡ o.now.0 ∷ others =
        from-place o ∙ ap (λ (z : Bool). if z then o.now.0 ∷ others else others) near_is in
        let kx_t : IsKnown t x.form = omega (arith, kx, st.longer) in
        let old = map (tree_at t) found in
        let tail = map form_encoding others in
        let all : map (tree_at u) more ≡ old ++ form_encoding o.now.0 ∷ [] =
        ap (map (tree_at u)) pushed ∙ map-append (tree_at u) found (x.form ∷ [])
        ∙ (λ j. trees-kept t u found kf tu j ++ (tu.same x.form kx_t ∙ there) j ∷ []) in
        ap (λ z. z ++ tail) all ∙ append_assoc old (form_encoding o.now.0 ∷ []) tail
        ∙ ap (λ (z : List Form). old ++ map form_encoding z) (sym rest) ∙ before

-- all were tried
pub near-end : (s t : TableView) (l : List Hypothesis) (Γ : Hyps) (i : ℕ) (k : Access) (a : Exp)
    (found : List ℕ) → AreHyps s l Γ → length l ≤ i → AreFound t found k a Γ i
    → map (tree_at t) found ≡ map form_encoding (near k a Γ)
near-end s t l Γ i k a found h low before =
    let none : drop i Γ ≡ [] = dropped s l Γ i h low in
    sym (append-nil (map (tree_at t) found))
    ∙ ap (λ (z : Hyps). map (tree_at t) found ++ map form_encoding (near k a z)) (sym none)
    ∙ before
