-- Whether an address that a hypothesis offers opens, and what its half says.
use Rattle.std.proofs.Common.{◌≡◌, ℕ, Bool, true, false, true≢false, if◌then◌else◌, List, [], ◌∷◌, Option, option_map}
use Rattle.std.proofs.Common.{Some, None, is_some, inl, inr, refl, sym, ◌∙◌, ap}
use Rattle.term_table.specs.Tree.{Tree, Var}
use Rattle.term_table.specs.Subst.{bind}
use Rattle.formula_tree.specs.Formulas.{Exp, Form, FTrue, FAnd, FImp, FAll}
use Rattle.formula_tree.specs.Variables.{PExp, subst_var, subst_var_exp}
use Rattle.lf_terms.specs.ProofTerms.{ff_e, tt_i}
use Rattle.prover_class.specs.Hypotheses.{Hyps, find_hyp}
use Rattle.prover_class.specs.Goals.{Prover, first_of, absurdity, by_shape, by_words_alone}
use Rattle.prover_class.specs.Access.{Access, Load, Store, Side, Left, Right, Opened, access_form, right_address}
use Rattle.prover_class.specs.Access.{same_address, instance_of, opening_of, opened_with, opened_at, from_side, no_way}
use Rattle.prover_class.specs.Access.{first_way, first_opened, granted_by, by_hyp, by_hyps, by_access}
use Rattle.prover_class.specs.Access.{without_access, by_all_means}
use Rattle.prover_goals.specs.Provers.{whole_proof}
use Rattle.view_marks.specs.declared.halves.Half.{Half}
use Rattle.view_marks.specs.declared.halves.Half.TheVariants.{Premise, Conclusion}
use Rattle.view_marks.specs.Marks.{is_easy}
use Rattle.view_marks.specs.Halves.{is_granted, half_by, half_of, IsAmong, HasHardPremise}
use Rattle.view_marks.proofs.Wholes.{by_parts}

-- ---- options

none-of : {A : Type 0} (o : Option A) → is_some o ≡ false → o ≡ None
none-of None e = refl
none-of (Some x) e = absurd (true≢false e)

not-some : {A : Type 0} (x : A) → ◌≡◌ {A = Option A} (Some x) None → ⊥
not-some x e = absurd (true≢false (ap is_some e))

mapped-none : {A B : Type 0} (f : A → B) (o : Option A) → option_map f o ≡ None → o ≡ None
mapped-none f None e = refl
mapped-none f (Some x) e = absurd (not-some (f x) e)

first-none : (o p : Option Tree) → first_of o p ≡ None → (o ≡ None) × (p ≡ None)
first-none None p e = (refl, e)
first-none (Some x) p e = absurd (not-some x e)

-- ---- ways down through conjunctions

way-none : (o : Option Opened) → no_way o ≡ None → o ≡ None
way-none None e = refl
way-none (Some x) e = absurd (not-some ([], x) e)

way-some : (o : Option Opened) → is_some (no_way o) ≡ true → is_some o ≡ true
way-some None e = e
way-some (Some x) e = refl

sides-none : (o p : Option (List Side × Opened)) → first_way (from_side Left o) (from_side Right p) ≡ None
    → (o ≡ None) × (p ≡ None)
sides-none None None e = (refl, refl)
sides-none None (Some x) e = absurd (not-some (Right ∷ x.0, x.1) e)
sides-none (Some x) p e = absurd (not-some (Left ∷ x.0, x.1) e)

module _ (k : Access) (f g : Exp → Option Opened) where
  -- what opens by no address for f doesn't for g, where no address does
  shut : ((z : Exp) → f z ≡ None → g z ≡ None) → (A : Form) → first_opened k f A ≡ None
      → first_opened k g A ≡ None
  shut each (FAnd A B) e =
      let n = sides-none (first_opened k f A) (first_opened k f B) e in
      let a = shut each A n.0 in
      let b = shut each B n.1 in
      λ i. first_way (from_side Left (a i)) (from_side Right (b i))
  shut each A e = at_right (right_address k A) e
    where
      at_right : (r : Option Exp) → no_way (bind r f) ≡ None → no_way (bind r g) ≡ None
      at_right None n = refl
      at_right (Some z) n = ap no_way (each z (way-none (f z) n))

  -- an address that opens for f, and doesn't for g
  pub record IsApart : Type 0 where
    pub at : Exp
    pub opens : is_some (f at) ≡ true
    pub stays : g at ≡ None

  apart : (A : Form) → is_some (first_opened k f A) ≡ true → first_opened k g A ≡ None → IsApart
  apart (FAnd A B) h e =
      let n = sides-none (first_opened k g A) (first_opened k g B) e in
      in_sides (first_opened k f A) (first_opened k f B) h (λ o. apart A o n.0) (λ o. apart B o n.1)
    where
      in_sides : (o p : Option (List Side × Opened))
          → is_some (first_way (from_side Left o) (from_side Right p)) ≡ true
          → (is_some o ≡ true → IsApart) → (is_some p ≡ true → IsApart) → IsApart
      in_sides (Some x) p s one two = one refl
      in_sides None (Some x) s one two = two refl
      in_sides None None s one two = absurd (true≢false (sym s))
  apart A h e = at_right (right_address k A) h e
    where
      at_right : (r : Option Exp) → is_some (no_way (bind r f)) ≡ true → no_way (bind r g) ≡ None
          → IsApart
      at_right None s n = absurd (true≢false (sym s))
      at_right (Some z) s n = record { at = z; opens = way-some (f z) s; stays = way-none (g z) n }

-- ---- one address

-- tt has a proof under all hypotheses
truth-found : (counted : Bool) (out : ℕ) (Γ : Hyps) → is_some (without_access counted out Γ FTrue) ≡ true
truth-found counted out Γ = third (find_hyp Γ FTrue) (option_map (ff_e FTrue) (absurdity Γ))
  where
    third : (o p : Option Tree) → is_some (first_of o (first_of p (Some tt_i))) ≡ true
    third (Some x) p = refl
    third None (Some x) = refl
    third None None = refl

tested-none : (b : Bool) (t o : Option Tree) (f : Tree → Opened) → is_some t ≡ true
    → (if b then option_map f t else None) ≡ None → (if b then option_map f o else None) ≡ None
tested-none true (Some x) o f s e = absurd (not-some (f x) e)
tested-none true None o f s e = absurd (true≢false (sym s))
tested-none false t o f s e = refl

tested-hard : (b : Bool) (t o : Option Tree) (f : Tree → Opened)
    → is_some (if b then option_map f t else None) ≡ true
    → (if b then option_map f o else None) ≡ None → is_some o ≡ false
tested-hard true t None f s e = refl
tested-hard true t (Some x) f s e = absurd (not-some (f x) e)
tested-hard false t o f s e = absurd (true≢false (sym s))

module _ (counted : Bool) (a : Exp) (Δ Γ : Hyps) (P : Form) where
  abbrev free : Bool → Exp → Option Opened
  free q = opened_at (without_access counted) q 33 Δ a FTrue

  -- what doesn't open with tt as premise doesn't open by any proof of the premise
  closed-at : (prove : Prover) (q : Bool) (z : Exp) → free q z ≡ None
      → opened_at prove q 33 Γ a P z ≡ None
  closed-at prove false z e =
      tested-none (same_address 33 z a) (without_access counted 33 Δ FTrue) (prove 33 Γ P) (opening_of z z)
      (truth-found counted 33 Δ) e
  closed-at prove true z e = at_index (instance_of 33 a z) e
    where
      at_index : (o : Option Exp)
          → bind o (opened_with (without_access counted) 33 Δ a FTrue z) ≡ None
          → bind o (opened_with prove 33 Γ a P z) ≡ None
      at_index None n = refl
      at_index (Some o) n =
          let there = subst_var_exp z 0 (PExp o) in
          tested-none (same_address 33 there a) (without_access counted 33 Δ FTrue)
          (prove 33 Γ (subst_var P 0 (PExp o))) (opening_of there o) (truth-found counted 33 Δ) n

  -- what opens with tt as premise but not with the premise has a premise that isn't easy
  hard-plain : (z : Exp) → is_some (free false z) ≡ true
      → opened_at (without_access counted) false 33 Γ a P z ≡ None
      → is_some (without_access counted 33 Γ P) ≡ false
  hard-plain z s e =
      tested-hard (same_address 33 z a) (without_access counted 33 Δ FTrue)
      (without_access counted 33 Γ P) (opening_of z z) s e

  hard-instance : (z : Exp) → is_some (free true z) ≡ true
      → opened_at (without_access counted) true 33 Γ a P z ≡ None
      → (o : Exp) × (is_some (without_access counted 33 Γ (subst_var P 0 (PExp o))) ≡ false)
  hard-instance z s e = at_index (instance_of 33 a z) s e
    where
      at_index : (o : Option Exp)
          → is_some (bind o (opened_with (without_access counted) 33 Δ a FTrue z)) ≡ true
          → bind o (opened_with (without_access counted) 33 Γ a P z) ≡ None
          → (o : Exp) × (is_some (without_access counted 33 Γ (subst_var P 0 (PExp o))) ≡ false)
      at_index None t n = absurd (true≢false (sym t))
      at_index (Some o) t n =
          let there = subst_var_exp z 0 (PExp o) in (
            o,
            tested-hard (same_address 33 there a) (without_access counted 33 Δ FTrue)
                (without_access counted 33 Γ (subst_var P 0 (PExp o))) (opening_of there o) t n,
          )

-- ---- a hypothesis

is_premise : Option Half → Bool
is_premise (Some Premise) = true
is_premise o = false

by-conclusion : (b : Bool) → Some (half_by b) ≡ Some Conclusion → b ≡ false
unfolding is_premise
by-conclusion false e = refl
by-conclusion true e = absurd (true≢false (ap is_premise e))

by-premise : (b : Bool) → Some (half_by b) ≡ Some Premise → b ≡ true
unfolding is_premise
by-premise true e = refl
by-premise false e = absurd (true≢false (sym (ap is_premise e)))

no-half : (h : Half) → ◌≡◌ {A = Option Half} None (Some h) → ⊥
no-half h e = absurd (true≢false (sym (ap is_some e)))

-- a right by hypotheses alone
by-right : (prove : Prover) (out : ℕ) (k : Access) (a : Exp) (Γ : Hyps)
    → by_access prove out Γ (access_form k a) ≡ by_hyps prove out Γ k a Γ
by-right prove out Load a Γ = refl
by-right prove out Store a Γ = refl

only-one : {A : Type 0} (f : A → Tree) (o : Option A) (b : Bool) → is_some (first_of (option_map f o) None) ≡ b
    → is_some o ≡ b
only-one f None b e = e
only-one f (Some x) b e = e

module _ (counted : Bool) (k : Access) (a : Exp) where
  abbrev alone_with : Form → Hyps
  alone_with F = (F, Var 0) ∷ []

  granted-plain : (Q : Form) (b : Bool) → is_granted counted (access_form k a) (FImp FTrue Q) ≡ b
      → is_some (first_opened k (free counted a (alone_with (FImp FTrue Q)) [] FTrue false) Q) ≡ b
  granted-plain Q b e =
      let F = FImp FTrue Q in
      let Δ = alone_with F in
      only-one (granted_by false 33 k a FTrue Q (Var 0))
      (first_opened k (free counted a Δ [] FTrue false) Q) b
      (sym (ap is_some (by-right (without_access counted) 33 k a Δ)) ∙ e)

  granted-all : (Q : Form) (b : Bool) → is_granted counted (access_form k a) (FAll (FImp FTrue Q)) ≡ b
      → is_some (first_opened k (free counted a (alone_with (FAll (FImp FTrue Q))) [] FTrue true) Q) ≡ b
  granted-all Q b e =
      let Δ = alone_with (FAll (FImp FTrue Q)) in
      only-one (granted_by true 33 k a FTrue Q (Var 0))
      (first_opened k (free counted a Δ [] FTrue true) Q) b
      (sym (ap is_some (by-right (without_access counted) 33 k a Δ)) ∙ e)

  -- a conclusion that isn't easy grants nothing by any proof of the premise
  pub conclusion-grants-none : (F : Form) → half_of counted (access_form k a) F ≡ Some Conclusion
      → (prove : Prover) (Γ : Hyps) (p : Tree) → by_hyp prove 33 Γ k a F p ≡ None
  conclusion-grants-none (FImp P Q) h prove Γ p =
      let Δ = alone_with (FImp FTrue Q) in
      let e = by-conclusion (is_granted counted (access_form k a) (FImp FTrue Q)) h in
      let f = free counted a Δ Γ P false in
      let n = none-of (first_opened k f Q) (granted-plain Q false e) in
      ap (option_map (granted_by false 33 k a P Q p))
      (shut k f (opened_at prove false 33 Γ a P) (closed-at counted a Δ Γ P prove false) Q n)
  conclusion-grants-none (FAll (FImp P Q)) h prove Γ p =
      let Δ = alone_with (FAll (FImp FTrue Q)) in
      let e = by-conclusion (is_granted counted (access_form k a) (FAll (FImp FTrue Q))) h in
      let f = free counted a Δ Γ P true in
      let n = none-of (first_opened k f Q) (granted-all Q false e) in
      ap (option_map (granted_by true 33 k a P Q p))
      (shut k f (opened_at prove true 33 Γ a P) (closed-at counted a Δ Γ P prove true) Q n)
  conclusion-grants-none F h prove Γ p = absurd (no-half Conclusion h)

  -- a premise that isn't easy, where the hypothesis doesn't grant the access
  premise-hard : (Γ : Hyps) (F : Form) (p : Tree)
      → by_hyp (without_access counted) 33 Γ k a F p ≡ None
      → half_of counted (access_form k a) F ≡ Some Premise → HasHardPremise counted Γ F
  premise-hard Γ (FImp P Q) p none h =
      let Δ = alone_with (FImp FTrue Q) in
      let e = by-premise (is_granted counted (access_form k a) (FImp FTrue Q)) h in
      let g = opened_at (without_access counted) false 33 Γ a P in
      let at = apart k (free counted a Δ Γ P false) g Q (granted-plain Q true e)
      (mapped-none (granted_by false 33 k a P Q p) (first_opened k g Q) none) in
      hard-plain counted a Δ Γ P at.at at.opens at.stays
  premise-hard Γ (FAll (FImp P Q)) p none h =
      let Δ = alone_with (FAll (FImp FTrue Q)) in
      let e = by-premise (is_granted counted (access_form k a) (FAll (FImp FTrue Q))) h in
      let g = opened_at (without_access counted) true 33 Γ a P in
      let at = apart k (free counted a Δ Γ P true) g Q (granted-all Q true e)
      (mapped-none (granted_by true 33 k a P Q p) (first_opened k g Q) none) in
      hard-instance counted a Δ Γ P at.at at.opens at.stays
  premise-hard Γ F p none h = absurd (no-half Premise h)

  -- a hypothesis among others that grant nothing doesn't
  among-none : (Γ l : Hyps) (F : Form) (p : Tree) → by_hyps (without_access counted) 33 Γ k a l ≡ None
      → IsAmong F p l → by_hyp (without_access counted) 33 Γ k a F p ≡ None
  among-none Γ [] F p none among = absurd among
  among-none Γ (x ∷ l) F p none (inl here) =
      let first = first-none (by_hyp (without_access counted) 33 Γ k a x.0 x.1)
      (by_hyps (without_access counted) 33 Γ k a l) none in
      (λ i. by_hyp (without_access counted) 33 Γ k a (sym here.0 i) (sym here.1 i)) ∙ first.0
  among-none Γ (x ∷ l) F p none (inr later) =
      among-none Γ l F p
      (first-none (by_hyp (without_access counted) 33 Γ k a x.0 x.1)
      (by_hyps (without_access counted) 33 Γ k a l) none).1 later

module _
    (found : (leaf : Prover) (out : ℕ) (Γ : Hyps) (A : Form) (p : Tree)
    → find_hyp Γ A ≡ Some p → whole_proof leaf out Γ A ≡ Some p)
    (absurdly : (leaf : Prover) (out : ℕ) (Γ : Hyps) (A : Form) (p : Tree)
    → find_hyp Γ A ≡ None → absurdity Γ ≡ Some p → whole_proof leaf out Γ A ≡ Some (ff_e A p))
    (shape : (leaf : Prover) (out : ℕ) (Γ : Hyps) (A : Form)
    → find_hyp Γ A ≡ None → absurdity Γ ≡ None
    → whole_proof leaf out Γ A ≡ by_shape (whole_proof leaf) leaf out Γ A)
  where
    -- an access that isn't easy isn't granted by hypotheses
    hyps-none : (counted : Bool) (Γ : Hyps) (k : Access) (a : Exp)
        → is_easy counted 33 Γ (access_form k a) ≡ false
        → by_hyps (without_access counted) 33 Γ k a Γ ≡ None
    unfolding is_easy
    hyps-none counted Γ Load a h =
        let leaf = by_parts found absurdly shape (by_all_means counted) 33 Γ (access_form Load a) h in
        let none = none-of (by_all_means counted 33 Γ (access_form Load a)) leaf in
        (first-none (by_words_alone counted 33 Γ (access_form Load a))
        (by_access (without_access counted) 33 Γ (access_form Load a)) none).1
    hyps-none counted Γ Store a h =
        let leaf = by_parts found absurdly shape (by_all_means counted) 33 Γ (access_form Store a) h in
        let none = none-of (by_all_means counted 33 Γ (access_form Store a)) leaf in
        (first-none (by_words_alone counted 33 Γ (access_form Store a))
        (by_access (without_access counted) 33 Γ (access_form Store a)) none).1

    pub premise-left : (counted : Bool) (Γ : Hyps) (k : Access) (a : Exp) (F : Form) (p : Tree)
        → IsAmong F p Γ → is_easy counted 33 Γ (access_form k a) ≡ false
        → half_of counted (access_form k a) F ≡ Some Premise → HasHardPremise counted Γ F
    premise-left counted Γ k a F p among hard h =
        premise-hard counted k a Γ F p (among-none counted k a Γ Γ F p (hyps-none counted Γ k a hard) among) h
