-- Giving the next argument to a rule's type is hereditary substitution.
use Rattle.std.proofs.Common.{◌≡◌, ℕ, zero, suc, ◌+◌, ◌-◌, ◌<◌, ◌≤◌, ◌^◌, Bool, true, false, Option, Some, List, [], ◌∷◌, refl, sym, ◌∙◌, ap, option_map, length, arith}
use Rattle.term_table.specs.Tree.{Tree, Var, Con, App, Lam, Fam, TApp, Pi, shift, spot, at, IsTerm}
use Rattle.term_table.specs.Subst.{Simple, Base, Arrow, bind, raised, reduce, walk, hsub, hsub_type, at_spot}
use Rattle.word_ops.specs.Operators.{op_constant}
use Rattle.lf_signature.specs.Numbers.{rel_constant}
use Rattle.lf_signature.specs.Terms.{exp, mem, form, pf, app1, app2, app3}
use Rattle.lf_signature.specs.Rules.{Sort, OfExp, OfMem, OfForm, OfExpForm, OfMemForm, sort_type, SExp, SPar, SOwn, SLit, SOp, SSel, SMem, MPar, MOwn, SUpd, SForm, STrue, SFalse, FPar, FOf, FOfMem, SRel, SAnd, SOr, SImp, SAll, SAllm, Premise, Plain, Under, ForExp, ForMem, over_sorts}
use Rattle.lf_signature.specs.Laws.Booleans.{both}
use Rattle.lf_terms.specs.Plain.{plain_subst, beta, var_bound, binder_depth}
use Rattle.lf_terms.proofs.Room.{var_bound_shift, binder_depth_shift, term_shift, unapplied_shift, raised_room}
use Rattle.lf_terms.proofs.Shifts.{shift-split, shift-more, shift-none, shift-add, spot-own, spot-under}
use Rattle.lf_terms.proofs.Walks.{app_walk, lam_walk, cancel, plain_next, hsub_plain}
use Rattle.lf_terms.proofs.Slots.{Slot, Bound, Got, slot_tree, slot_app, next, exp_in, mem_in, form_in, premise_in, under_in, is_base, is_fun, ok_exp, ok_mem, ok_atom, ok_mem_atom, ok_form, ok_premise, ok_premises, IsFun, IsFunType, BaseClear, FunClear}

reduce-nil : (s : Simple) (m : Tree) → reduce s m [] ≡ Some m
reduce-nil (Base b) m = refl
reduce-nil (Arrow s t) m = refl

-- n is given at the simple type s; K slots are bound; terms have at most d binder_depth in one another
module _ (s : Simple) (n : Tree) (K d : ℕ) (room : var_bound n + (d + d) + 16 ≤ 2 ^ 32) where
  abbrev r : Tree → List Tree → Option Tree
  r = reduce s

  slot_goes : (p : Slot) → BaseClear d K p → (k c y : ℕ) → y ≡ c + k → K ≤ suc k → k ≤ 12 → c ≤ d →
      walk r (shift c 0 (shift k 0 n)) y (shift c 0 (slot_tree p (suc k))) [] ≡ Some (shift c 0 (slot_tree (next n p) k))
  slot_goes (Bound zero) h k c y e l b w =
      let q : c + (suc k - 1) ≡ y = omega (arith, e) in
      ap (at_spot (r (shift c 0 (shift k 0 n)) []) (λ j. Some (Var j))) (ap (spot y) q ∙ spot-own y) ∙ reduce-nil s (shift c 0 (shift k 0 n))
  slot_goes (Bound (suc j)) h k c y e l b w =
      let q : suc k - suc (suc j) ≡ k - suc j = omega arith in
      ap (at_spot (r (shift c 0 (shift k 0 n)) []) (λ j. Some (Var j))) (ap (λ z. spot y (c + z)) q ∙ spot-under y (c + (k - suc j)) (omega (arith, h, e, l)))
  slot_goes (Got m) h k c y e l b w =
      let q : shift c 0 (shift (suc k) 0 m) ≡ shift 1 y (shift c 0 (shift k 0 m)) =
      shift-add m 0 c (suc k) ∙ ap (λ z. shift z 0 m) (omega (arith, e)) ∙ shift-split m 0 y ∙ ap (λ z. shift 1 y (shift z 0 m)) e ∙ ap (shift 1 y) (sym (shift-add m 0 c k)) in
      let p : IsTerm (shift c 0 (shift k 0 m)) = term_shift (shift k 0 m) c 0 (term_shift m k 0 h.0) in
      let z : binder_depth (shift c 0 (shift k 0 m)) ≡ binder_depth m = binder_depth_shift (shift k 0 m) c 0 ∙ binder_depth_shift m k 0 in
      ap (λ t. walk r (shift c 0 (shift k 0 n)) y t []) q
      ∙ cancel r (shift c 0 (shift k 0 m)) p (shift c 0 (shift k 0 n)) y (omega (arith, room, h.1, h.2, b, w, z, var_bound_shift (shift k 0 n) c 0, var_bound_shift n k 0))

  slot_next : (p : Slot) → BaseClear d K p → (k : ℕ) → K ≤ suc k → k ≤ 12 → hsub s (shift k 0 n) k (slot_tree p (suc k)) ≡ Some (slot_tree (next n p) k)
  slot_next p h k l b =
      (λ i. walk r (sym (shift-none (shift k 0 n) 0) i) k (sym (shift-none (slot_tree p (suc k)) 0) i) [])
      ∙ slot_goes p h k 0 k (omega arith) l b (omega arith) ∙ ap Some (shift-none (slot_tree (next n p) k) 0)

  -- the variable of a premise
  own_goes : (k c y : ℕ) → y ≡ c + k → 0 < k → walk r (shift c 0 (shift k 0 n)) y (shift c 0 (Var 0)) [] ≡ Some (shift c 0 (Var 0))
  own_goes k c y e l = ap (at_spot (r (shift c 0 (shift k 0 n)) []) (λ j. Some (Var j))) (spot-under y (c + 0) (omega (arith, e, l)))

  -- A function's slot at a word or memory that becomes another.
  app_next : (p : Slot) → FunClear d n s K p → (k : ℕ) → K ≤ suc k → k ≤ 12 → (X X' : Tree) → var_bound X' + d ≤ 2 ^ 32 →
      ((c y : ℕ) → y ≡ c + k → c ≤ d → walk r (shift c 0 (shift k 0 n)) y (shift c 0 X) [] ≡ Some (shift c 0 X')) →
      hsub s (shift k 0 n) k (slot_app p (suc k) X) ≡ Some (slot_app (next n p) k X')
  app_next p h k l b X X' w goes = by_slot p h
    where
      plain_goes : walk r (shift k 0 n) k X [] ≡ Some X'
      plain_goes = (λ i. walk r (sym (shift-none (shift k 0 n) 0) i) k (sym (shift-none X 0) i) []) ∙ goes 0 k (omega arith) (omega arith) ∙ ap Some (shift-none X' 0)

      given : (u : Tree) (t : Simple) → IsFun d u → IsFunType t → reduce t (shift k 0 u) (X' ∷ []) ≡ Some (beta (shift k 0 u) X')
      given (Lam B) (Arrow (Base e) (Base f)) q g =
          ap (λ o. bind o (λ m'. reduce (Base f) m' [])) (hsub_plain (shift k 1 B) 0 (unapplied_shift B 0 k 1 (omega arith) q.0) e X' (omega (arith, w, q.1, binder_depth_shift B k 1)))
      given (Lam B) (Base e) q g = elim g [ ]
      given (Lam B) (Arrow (Arrow x y) z) q g = elim g [ ]
      given (Lam B) (Arrow (Base e) (Arrow x y)) q g = elim g [ ]
      given (Var v) t q g = elim q [ ]
      given (Con v) t q g = elim q [ ]
      given (App v u) t q g = elim q [ ]
      given (Fam v) t q g = elim q [ ]
      given (TApp v u) t q g = elim q [ ]
      given (Pi v u) t q g = elim q [ ]

      got : (m : Tree) → IsFun d m → hsub s (shift k 0 n) k (beta (shift (suc k) 0 m) X) ≡ Some (beta (shift k 0 m) X')
      got (Lam B) q =
          ap (λ z. hsub s (shift k 0 n) k (plain_subst X 0 z)) (shift-split B 1 k)
          ∙ (λ i. walk r (sym (shift-none (shift k 0 n) 0) i) k (plain_subst (sym (shift-none X 0) i) 0 (shift 1 (suc k) (shift k 1 B))) [])
          ∙ plain_next r (shift k 0 n) k X X' d goes (omega (arith, room, b, var_bound_shift n k 0)) (shift k 1 B) 0 k (unapplied_shift B 0 k 1 (omega arith) q.0) (omega arith) (omega (arith, q.1, binder_depth_shift B k 1))
          ∙ ap (λ z. Some (plain_subst z 0 (shift k 1 B))) (shift-none X' 0)
      got (Var v) q = elim q [ ]
      got (Con v) q = elim q [ ]
      got (App v u) q = elim q [ ]
      got (Fam v) q = elim q [ ]
      got (TApp v u) q = elim q [ ]
      got (Pi v u) q = elim q [ ]

      by_slot : (p : Slot) → FunClear d n s K p → hsub s (shift k 0 n) k (slot_app p (suc k) X) ≡ Some (slot_app (next n p) k X')
      by_slot (Bound zero) h =
          let q : suc k - 1 ≡ k = omega arith in
          app_walk r (shift k 0 n) k (Var (suc k - 1)) X X' [] plain_goes
          ∙ ap (at_spot (r (shift k 0 n) (X' ∷ [])) (λ j. Some (App (Var j) X'))) (ap (spot k) q ∙ spot-own k) ∙ given n s h.1 h.2
      by_slot (Bound (suc j)) h =
          let q : suc k - suc (suc j) ≡ k - suc j = omega arith in
          app_walk r (shift k 0 n) k (Var (suc k - suc (suc j))) X X' [] plain_goes
          ∙ ap (at_spot (r (shift k 0 n) (X' ∷ [])) (λ j. Some (App (Var j) X'))) (ap (spot k) q ∙ spot-under k (k - suc j) (omega (arith, h, l)))
      by_slot (Got m) h = got m h

  abbrev two : ℕ → Option Tree → Option Tree → Option Tree
  two c a b = bind b (λ b'. bind a (λ a'. Some (app2 c a' b')))

  slot_bound : (p : Slot) → BaseClear d K p → (k : ℕ) → k ≤ 12 → var_bound (slot_tree (next n p) k) + d ≤ 2 ^ 32
  slot_bound (Bound zero) h k b = omega (arith, room, b, var_bound_shift n k 0)
  slot_bound (Bound (suc j)) h k b = omega (arith, room, b)
  slot_bound (Got m) h k b = omega (arith, h.2, b, var_bound_shift m k 0)

  module _ (σ : ℕ → Slot) (ts : List Sort) (base : (i : ℕ) → is_base (at ts i) ≡ true → BaseClear d K (σ i)) (fun : (i : ℕ) → is_fun (at ts i) ≡ true → FunClear d n s K (σ i)) where
    abbrev τ : ℕ → Slot
    τ i = next n (σ i)

    -- whether the schema's own variable may stand there, the depth k is past it
    abbrev Past : Bool → ℕ → Type 0
    Past own k = own ≡ true → 0 < k

    mutual
      exp_next : (own : Bool) (a : SExp) → ok_exp own ts a ≡ true → (k : ℕ) → Past own k → K ≤ suc k → k ≤ 12 → hsub s (shift k 0 n) k (exp_in a σ (suc k)) ≡ Some (exp_in a τ k)
      exp_next own (SPar i) q k o l b = slot_next (σ i) (base i q) k l b
      exp_next own SOwn q k o l b = ap (at_spot (r (shift k 0 n) []) (λ j. Some (Var j))) (spot-under k 0 (o q))
      exp_next own (SLit w) q k o l b = refl
      exp_next own (SOp p x y) q k o l b = let h = both _ _ q in λ i. two (op_constant p) (exp_next own x h.0 k o l b i) (exp_next own y h.1 k o l b i)
      exp_next own (SSel m x) q k o l b = let h = both _ _ q in λ i. two 11 (mem_next own m h.0 k o l b i) (exp_next own x h.1 k o l b i)

      mem_next : (own : Bool) (m : SMem) → ok_mem own ts m ≡ true → (k : ℕ) → Past own k → K ≤ suc k → k ≤ 12 → hsub s (shift k 0 n) k (mem_in m σ (suc k)) ≡ Some (mem_in m τ k)
      mem_next own (MPar i) q k o l b = slot_next (σ i) (base i q) k l b
      mem_next own MOwn q k o l b = ap (at_spot (r (shift k 0 n) []) (λ j. Some (Var j))) (spot-under k 0 (o q))
      mem_next own (SUpd m x y) q k o l b =
          let h = both _ _ q in
          let g = both _ _ h.1 in
          λ i. bind (exp_next own y g.1 k o l b i) (λ y'. bind (exp_next own x g.0 k o l b i) (λ x'. bind (mem_next own m h.0 k o l b i) (λ m'. Some (app3 12 m' x' y'))))

    exp_app : (own : Bool) (p : Slot) → FunClear d n s K p → (a : SExp) → ok_atom own ts a ≡ true → (k : ℕ) → Past own k → K ≤ suc k → k ≤ 12 →
        hsub s (shift k 0 n) k (slot_app p (suc k) (exp_in a σ (suc k))) ≡ Some (slot_app (next n p) k (exp_in a τ k))
    exp_app own p h (SPar i) q k o l b =
        app_next p h k l b (slot_tree (σ i) (suc k)) (slot_tree (τ i) k) (slot_bound (σ i) (base i q) k b) (λ c y e w. slot_goes (σ i) (base i q) k c y e l b w)
    exp_app own p h SOwn q k o l b = app_next p h k l b (Var 0) (Var 0) (omega (arith, room)) (λ c y e w. own_goes k c y e (o q))
    exp_app own p h (SLit w) q k o l b = cc
    exp_app own p h (SOp w x y) q k o l b = cc
    exp_app own p h (SSel m x) q k o l b = cc

    mem_app : (own : Bool) (p : Slot) → FunClear d n s K p → (a : SMem) → ok_mem_atom own ts a ≡ true → (k : ℕ) → Past own k → K ≤ suc k → k ≤ 12 →
        hsub s (shift k 0 n) k (slot_app p (suc k) (mem_in a σ (suc k))) ≡ Some (slot_app (next n p) k (mem_in a τ k))
    mem_app own p h (MPar i) q k o l b =
        app_next p h k l b (slot_tree (σ i) (suc k)) (slot_tree (τ i) k) (slot_bound (σ i) (base i q) k b) (λ c y e w. slot_goes (σ i) (base i q) k c y e l b w)
    mem_app own p h MOwn q k o l b = app_next p h k l b (Var 0) (Var 0) (omega (arith, room)) (λ c y e w. own_goes k c y e (o q))
    mem_app own p h (SUpd m x y) q k o l b = cc

    all_next : (c : ℕ) (p : Slot) → FunClear d n s K p → (k : ℕ) → K ≤ suc k → suc k ≤ 12 →
        hsub s (shift k 0 n) k (app1 c (Lam (slot_app p (suc (suc k)) (Var 0)))) ≡ Some (app1 c (Lam (slot_app (next n p) (suc k) (Var 0))))
    all_next c p h k l b =
        let e = app_next p h (suc k) (omega (arith, l)) b (Var 0) (Var 0) (omega (arith, room)) (λ c y e w. own_goes (suc k) c y e (omega arith)) in
        ap (λ o. bind o (λ z. Some (app1 c z)))
        (lam_walk r (shift k 0 n) k (slot_app p (suc (suc k)) (Var 0)) (slot_app (next n p) (suc k) (Var 0)) (omega (arith, room, b, var_bound_shift n k 0))
        ((λ i. walk r (shift-more n 0 k i) (suc k) (slot_app p (suc (suc k)) (Var 0)) []) ∙ e))

    pub form_next : (own : Bool) (p : SForm) → ok_form own ts p ≡ true → (k : ℕ) → Past own k → K ≤ suc k → suc k ≤ 12 → hsub s (shift k 0 n) k (form_in p σ (suc k)) ≡ Some (form_in p τ k)
    form_next own STrue q k o l b = refl
    form_next own SFalse q k o l b = refl
    form_next own (FPar i) q k o l b = slot_next (σ i) (base i q) k l (omega (arith, b))
    form_next own (FOf i a) q k o l b = let h = both _ _ q in exp_app own (σ i) (fun i h.0) a h.1 k o l (omega (arith, b))
    form_next own (FOfMem i a) q k o l b = let h = both _ _ q in mem_app own (σ i) (fun i h.0) a h.1 k o l (omega (arith, b))
    form_next own (SRel p x y) q k o l b =
        let w : k ≤ 12 = omega (arith, b) in
        let h = both _ _ q in
        λ i. two (rel_constant p) (exp_next own x h.0 k o l w i) (exp_next own y h.1 k o l w i)
    form_next own (SAnd A B) q k o l b = let h = both _ _ q in λ i. two 22 (form_next own A h.0 k o l b i) (form_next own B h.1 k o l b i)
    form_next own (SOr A B) q k o l b = let h = both _ _ q in λ i. two 23 (form_next own A h.0 k o l b i) (form_next own B h.1 k o l b i)
    form_next own (SImp A B) q k o l b = let h = both _ _ q in λ i. two 24 (form_next own A h.0 k o l b i) (form_next own B h.1 k o l b i)
    form_next own (SAll i) q k o l b = all_next 25 (σ i) (fun i q) k l b
    form_next own (SAllm i) q k o l b = all_next 26 (σ i) (fun i q) k l b

    raised_next : (k : ℕ) → k ≤ 12 → raised (shift k 0 n) ≡ Some (shift (suc k) 0 n)
    raised_next k b = raised_room (shift k 0 n) (omega (arith, room, b, var_bound_shift n k 0)) ∙ ap Some (shift-more n 0 k)

    pf_next : (own : Bool) (p : SForm) → ok_form own ts p ≡ true → (k : ℕ) → Past own k → K ≤ suc k → suc k ≤ 12 → hsub_type s (shift k 0 n) k (pf (form_in p σ (suc k))) ≡ Some (pf (form_in p τ k))
    pf_next own p q k o l b = ap (option_map (TApp (Fam 3))) (form_next own p q k o l b)

    pi_next : (k : ℕ) (A B A' B' : Tree) → k ≤ 12 → hsub_type s (shift k 0 n) k A ≡ Some A' → hsub_type s (shift (suc k) 0 n) (suc k) B ≡ Some B' → hsub_type s (shift k 0 n) k (Pi A B) ≡ Some (Pi A' B')
    pi_next k A B A' B' b p q =
        ap (λ o. bind o (λ a'. bind (raised (shift k 0 n)) (λ m'. option_map (Pi a') (hsub_type s m' (suc k) B)))) p
        ∙ ap (λ o. bind o (λ m'. option_map (Pi A') (hsub_type s m' (suc k) B))) (raised_next k b) ∙ ap (option_map (Pi A')) q

    nothing : (k : ℕ) → Past false k
    nothing k = λ e. cc

    premise_next : (p : Premise) → ok_premise ts p ≡ true → (k : ℕ) → K ≤ suc k → suc (suc k) ≤ 12 → hsub_type s (shift k 0 n) k (premise_in p σ (suc k)) ≡ Some (premise_in p τ k)
    premise_next (Plain A) q k l b = pf_next false A q k (nothing k) l (omega (arith, b))
    premise_next (Under A B) q k l b =
        let h = both _ _ q in
        pi_next k (pf (form_in A σ (suc k))) (pf (form_in B σ (suc (suc k)))) (pf (form_in A τ k)) (pf (form_in B τ (suc k))) (omega (arith, b))
        (pf_next false A h.0 k (nothing k) l (omega (arith, b))) (pf_next false B h.1 (suc k) (nothing (suc k)) (omega (arith, l)) b)
    premise_next (ForExp A) q k l b =
        pi_next k exp (pf (form_in A σ (suc (suc k)))) exp (pf (form_in A τ (suc k))) (omega (arith, b)) refl (pf_next true A q (suc k) (λ _. omega arith) (omega (arith, l)) b)
    premise_next (ForMem A) q k l b =
        pi_next k mem (pf (form_in A σ (suc (suc k)))) mem (pf (form_in A τ (suc k))) (omega (arith, b)) refl (pf_next true A q (suc k) (λ _. omega arith) (omega (arith, l)) b)

    pub under_next : (ps : List Premise) (C : SForm) → ok_premises ts ps ≡ true → ok_form false ts C ≡ true → (k : ℕ) → K ≤ suc k → k + length ps + 2 ≤ 12 →
        hsub_type s (shift k 0 n) k (under_in ps C σ (suc k)) ≡ Some (under_in ps C τ k)
    under_next [] C q c k l b = pf_next false C c k (nothing k) l (omega (arith, b))
    under_next (p ∷ ps) C q c k l b =
        let h = both _ _ q in
        pi_next k (premise_in p σ (suc k)) (under_in ps C σ (suc (suc k))) (premise_in p τ k) (under_in ps C τ (suc k)) (omega (arith, b))
        (premise_next p h.0 k l (omega (arith, b))) (under_next ps C h.1 c (suc k) (omega (arith, l)) (omega (arith, b)))

    sort_next : (t : Sort) (k : ℕ) → k ≤ 12 → hsub_type s (shift k 0 n) k (sort_type t) ≡ Some (sort_type t)
    sort_next OfExp k b = refl
    sort_next OfMem k b = refl
    sort_next OfForm k b = refl
    sort_next OfExpForm k b = pi_next k exp form exp form b refl refl
    sort_next OfMemForm k b = pi_next k mem form mem form b refl refl

    pub sorts_next : (rest : List Sort) (ps : List Premise) (C : SForm) → ok_premises ts ps ≡ true → ok_form false ts C ≡ true → (k e : ℕ) → e ≡ k + length rest → K ≤ suc e → e + length ps + 2 ≤ 12 →
        hsub_type s (shift k 0 n) k (over_sorts rest (under_in ps C σ (suc e))) ≡ Some (over_sorts rest (under_in ps C τ e))
    sorts_next [] ps C q c k e i l b =
        let z : k ≡ e = omega (arith, i) in
        ap (λ x. hsub_type s (shift x 0 n) x (under_in ps C σ (suc e))) z ∙ under_next ps C q c e l b
    sorts_next (t ∷ rest) ps C q c k e i l b =
        pi_next k (sort_type t) (over_sorts rest (under_in ps C σ (suc e))) (sort_type t) (over_sorts rest (under_in ps C τ e)) (omega (arith, i, b))
        (sort_next t k (omega (arith, i, b))) (sorts_next rest ps C q c (suc k) e (omega (arith, i)) l b)
