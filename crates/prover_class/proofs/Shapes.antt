-- What the prover answers proves the goal, if what it asks of goals without parts does.
use Rattle.std.proofs.Common.{◌≡◌, ℕ, zero, suc, ◌+◌, ◌^◌, ◌<◌, ◌≤◌, Option, Some, None, List, [], ◌∷◌, ◌⊎◌, inl, inr, length, refl, subst, option_map, arith}
use Rattle.term_table.specs.Tree.{Tree, Var}
use Rattle.term_table.specs.Subst.{bind}
use Rattle.term_table.proofs.Options.{bind_some, map_some, some_injective}
use Rattle.lf_signature.specs.Terms.{exp, mem, pf, falsity}
use Rattle.lf_signature.specs.Constants.{the_rules}
use Rattle.formula_tree.specs.Formulas.{Form, FTrue, FFalse, FRel, FRd, FWr, FAnd, FOr, FImp, FAll, FAllm, shift_form}
use Rattle.lf_terms.specs.Encoding.{form_encoding}
use Rattle.prover_class.proofs.Scope.{Over, nesting}
use Rattle.prover_class.proofs.Encoded.{over_wider, wider_one}
use Rattle.lf_terms.specs.ProofTerms.{AForm, tt_i, ff_e, and_i, or_l, or_r, imp_i, imp_e, all_i, allm_i}
use Rattle.prover_class.specs.Hypotheses.{Hyps, find_hyp, raised_hyps, split_hyps, with_new}
use Rattle.prover_class.specs.Goals.{first_of, refute, refuted, absurdity, Prover, by_shape, goal_proof}
use Rattle.prover_class.proofs.Proved.{Proves, IsHyp, AreHyps}
use Rattle.prover_class.proofs.Uses.{rule_proves, stays_now, nesting-shift}
use Rattle.prover_class.proofs.Named.{imp_i_proves, all_i_proves, allm_i_proves}
use Rattle.prover_class.proofs.Hypotheses.{with_new_are, raised_are, find_proves, first_hyp, split_are}
use Rattle.lf_signature.specs.declared.editions.WordSignature.{WordSignature}
use Rattle.lf_signature.specs.declared.numbers.TheConstants.{AND_I, FF_E, IMP_E, OR_L, OR_R, TT_I}

pub else_some : (a b : Option Tree) (p : Tree) → first_of a b ≡ Some p → (a ≡ Some p) ⊎ (b ≡ Some p)
else_some (Some q) b p e = inl e
else_some None b p e = inr e

-- contexts have at most e entries, formulas at most d binders in one another; where a goal without parts stands, s further binders have room
module _ (sig : WordSignature) (e d : ℕ) (room : e + (d + d + d) + 16 ≤ 2 ^ 32) (some : 0 < d) (s : ℕ) where
  abbrev Says : List Tree → Form → Tree → Type 0
  Says ctx A p = Proves sig (e + d) ctx (pf (form_encoding A)) p

  -- every answer proves the goal
  abbrev pub IsSound : Prover → Type 0
  IsSound f = (k out : ℕ) (ctx : List Tree) (Γ : Hyps) (A : Form) (p : Tree) → length ctx + k ≤ e → AreHyps sig (e + d) d k ctx Γ → Over sig A ctx → nesting A + s ≤ k → nesting A ≤ d → f out Γ A ≡ Some p → Says ctx A p

  module _ (k : ℕ) (ctx : List Tree) (w : length ctx + k ≤ e) where
    refute_says : (Γ : Hyps) → AreHyps sig (e + d) d k ctx Γ → (A : Form) (h p : Tree) → IsHyp sig (e + d) d k ctx (A, h) → refute Γ A h ≡ Some p → Proves sig (e + d) ctx (pf falsity) p
    unfolding the_rules
    refute_says Γ g (FImp F FFalse) h p i q =
        let m = map_some (find_hyp Γ F) (λ p. imp_e F FFalse h p) p q in
        let n : nesting F ≤ d = omega (arith, i.nesting) in
        subst (λ z. Proves sig (e + d) ctx (pf falsity) z) m.2
        (rule_proves sig e d room IMP_E _ refl ctx (omega (arith, w)) (AForm F ∷ AForm FFalse ∷ []) (h ∷ m.0 ∷ []) ((i.over.0, n), ((tt, omega arith), tt))
        (stays_now sig (e + d) k ctx (form_encoding (FImp F FFalse)) h i.stays, (find_proves sig (e + d) d k ctx Γ g F m.0 m.1, tt)))
    refute_says Γ g _ h p i q = cc

    refuted_says : (Γ l : Hyps) → AreHyps sig (e + d) d k ctx Γ → AreHyps sig (e + d) d k ctx l → (p : Tree) → refuted Γ l ≡ Some p → Proves sig (e + d) ctx (pf falsity) p
    refuted_says Γ [] g h p q = cc
    refuted_says Γ (x ∷ l) g h p q = go (else_some (refute Γ x.0 x.1) (refuted Γ l) p q) (λ f. refuted_says Γ l g h.1 p f)
      where
        go : (refute Γ x.0 x.1 ≡ Some p) ⊎ (refuted Γ l ≡ Some p) → (refuted Γ l ≡ Some p → Proves sig (e + d) ctx (pf falsity) p) → Proves sig (e + d) ctx (pf falsity) p
        go (inl f) rest = refute_says Γ g x.0 x.1 p h.0 f
        go (inr f) rest = rest f

    absurd_says : (Γ : Hyps) → AreHyps sig (e + d) d k ctx Γ → (p : Tree) → absurdity Γ ≡ Some p → Proves sig (e + d) ctx (pf falsity) p
    absurd_says Γ g p q = go (else_some (find_hyp Γ FFalse) (refuted Γ Γ) p q)
      where
        go : (find_hyp Γ FFalse ≡ Some p) ⊎ (refuted Γ Γ ≡ Some p) → Proves sig (e + d) ctx (pf falsity) p
        go (inl f) = find_proves sig (e + d) d k ctx Γ g FFalse p f
        go (inr f) = refuted_says Γ Γ g g p f

    from_absurd : (Γ : Hyps) → AreHyps sig (e + d) d k ctx Γ → (A : Form) (p : Tree) → Over sig A ctx → nesting A ≤ d → option_map (ff_e A) (absurdity Γ) ≡ Some p → Says ctx A p
    unfolding the_rules
    from_absurd Γ g A p o n q =
        let m = map_some (absurdity Γ) (ff_e A) p q in
        subst (λ z. Says ctx A z) m.2 (rule_proves sig e d room FF_E _ refl ctx (omega (arith, w)) (AForm A ∷ []) (m.0 ∷ []) ((o, n), tt) (absurd_says Γ g m.0 m.1, tt))

  module _ (again leaf : Prover) (sa : IsSound again) (sl : IsSound leaf) where
    and_says : (k out : ℕ) (ctx : List Tree) (Γ : Hyps) (A B : Form) (p : Tree) → length ctx + k ≤ e → AreHyps sig (e + d) d k ctx Γ → Over sig (FAnd A B) ctx → nesting (FAnd A B) + s ≤ k → nesting (FAnd A B) ≤ d →
        bind (again out Γ A) (λ p. option_map (and_i A B p) (again out Γ B)) ≡ Some p → Says ctx (FAnd A B) p
    unfolding the_rules
    and_says k out ctx Γ A B p w g o n m q =
        let a = bind_some (again out Γ A) (λ p. option_map (and_i A B p) (again out Γ B)) p q in
        let b = map_some (again out Γ B) (and_i A B a.0) p a.2 in
        subst (λ z. Says ctx (FAnd A B) z) b.2
        (rule_proves sig e d room AND_I _ refl ctx (omega (arith, w)) (AForm A ∷ AForm B ∷ []) (a.0 ∷ b.0 ∷ []) ((o.0, omega (arith, m)), ((o.1, omega (arith, m)), tt))
        (sa k out ctx Γ A a.0 w g o.0 (omega (arith, n)) (omega (arith, m)) a.1, (sa k out ctx Γ B b.0 w g o.1 (omega (arith, n)) (omega (arith, m)) b.1, tt)))

    or_says : (k out : ℕ) (ctx : List Tree) (Γ : Hyps) (A B : Form) (p : Tree) → length ctx + k ≤ e → AreHyps sig (e + d) d k ctx Γ → Over sig (FOr A B) ctx → nesting (FOr A B) + s ≤ k → nesting (FOr A B) ≤ d →
        first_of (option_map (or_l A B) (again out Γ A)) (option_map (or_r A B) (again out Γ B)) ≡ Some p → Says ctx (FOr A B) p
    unfolding the_rules
    or_says k out ctx Γ A B p w g o n m q = go (else_some (option_map (or_l A B) (again out Γ A)) (option_map (or_r A B) (again out Γ B)) p q)
      where
        go : (option_map (or_l A B) (again out Γ A) ≡ Some p) ⊎ (option_map (or_r A B) (again out Γ B) ≡ Some p) → Says ctx (FOr A B) p
        go (inl f) =
            let a = map_some (again out Γ A) (or_l A B) p f in
            subst (λ z. Says ctx (FOr A B) z) a.2
            (rule_proves sig e d room OR_L _ refl ctx (omega (arith, w)) (AForm A ∷ AForm B ∷ []) (a.0 ∷ []) ((o.0, omega (arith, m)), ((o.1, omega (arith, m)), tt))
            (sa k out ctx Γ A a.0 w g o.0 (omega (arith, n)) (omega (arith, m)) a.1, tt))
        go (inr f) =
            let a = map_some (again out Γ B) (or_r A B) p f in
            subst (λ z. Says ctx (FOr A B) z) a.2
            (rule_proves sig e d room OR_R _ refl ctx (omega (arith, w)) (AForm A ∷ AForm B ∷ []) (a.0 ∷ []) ((o.0, omega (arith, m)), ((o.1, omega (arith, m)), tt))
            (sa k out ctx Γ B a.0 w g o.1 (omega (arith, n)) (omega (arith, m)) a.1, tt))

    imp_says : (k out : ℕ) (ctx : List Tree) (Γ : Hyps) (A B : Form) (p : Tree) → length ctx + suc k ≤ e → AreHyps sig (e + d) d (suc k) ctx Γ → Over sig (FImp A B) ctx → nesting (FImp A B) + s ≤ suc k → nesting (FImp A B) ≤ d →
        option_map (imp_i A B) (again (suc out) (with_new (raised_hyps Γ) (split_hyps (shift_form 1 0 A) (Var 0))) (shift_form 1 0 B)) ≡ Some p → Says ctx (FImp A B) p
    imp_says k out ctx Γ A B p w g o n m q =
        let under = pf (form_encoding A) ∷ ctx in
        let Γ' = with_new (raised_hyps Γ) (split_hyps (shift_form 1 0 A) (Var 0)) in
        let a = map_some (again (suc out) Γ' (shift_form 1 0 B)) (imp_i A B) p q in
        let w' : length under + k ≤ e = omega (arith, w) in
        let h : AreHyps sig (e + d) d k under Γ' =
        with_new_are sig (e + d) d k under (raised_hyps Γ) (split_hyps (shift_form 1 0 A) (Var 0)) (raised_are sig (e + d) d k ctx (pf (form_encoding A)) Γ g)
        (split_are sig e d room some k under w' (shift_form 1 0 A) (Var 0) (first_hyp sig e d room some k ctx w A o.0 (omega (arith, m)))) in
        let b : Says under (shift_form 1 0 B) a.0 =
        sa k (suc out) under Γ' (shift_form 1 0 B) a.0 w' h (over_wider sig B 0 ctx under (wider_one ctx (pf (form_encoding A))) o.1) (omega (arith, n, nesting-shift B 1 0)) (omega (arith, m, nesting-shift B 1 0)) a.1 in
        subst (λ z. Says ctx (FImp A B) z) a.2 (imp_i_proves sig e d room ctx (omega (arith, w)) A B o.0 (omega (arith, m)) o.1 (omega (arith, m)) a.0 b)

    all_says : (k out : ℕ) (ctx : List Tree) (Γ : Hyps) (A : Form) (p : Tree) → length ctx + suc k ≤ e → AreHyps sig (e + d) d (suc k) ctx Γ → Over sig (FAll A) ctx → nesting (FAll A) + s ≤ suc k → nesting (FAll A) ≤ d →
        option_map (all_i A) (again (suc out) (raised_hyps Γ) A) ≡ Some p → Says ctx (FAll A) p
    all_says k out ctx Γ A p w g o n m q =
        let a = map_some (again (suc out) (raised_hyps Γ) A) (all_i A) p q in
        subst (λ z. Says ctx (FAll A) z) a.2
        (all_i_proves sig e d room ctx (omega (arith, w)) A o (omega (arith, m)) a.0
        (sa k (suc out) (exp ∷ ctx) (raised_hyps Γ) A a.0 (omega (arith, w)) (raised_are sig (e + d) d k ctx exp Γ g) o (omega (arith, n)) (omega (arith, m)) a.1))

    allm_says : (k out : ℕ) (ctx : List Tree) (Γ : Hyps) (A : Form) (p : Tree) → length ctx + suc k ≤ e → AreHyps sig (e + d) d (suc k) ctx Γ → Over sig (FAllm A) ctx → nesting (FAllm A) + s ≤ suc k → nesting (FAllm A) ≤ d →
        option_map (allm_i A) (again (suc out) (raised_hyps Γ) A) ≡ Some p → Says ctx (FAllm A) p
    allm_says k out ctx Γ A p w g o n m q =
        let a = map_some (again (suc out) (raised_hyps Γ) A) (allm_i A) p q in
        subst (λ z. Says ctx (FAllm A) z) a.2
        (allm_i_proves sig e d room ctx (omega (arith, w)) A o (omega (arith, m)) a.0
        (sa k (suc out) (mem ∷ ctx) (raised_hyps Γ) A a.0 (omega (arith, w)) (raised_are sig (e + d) d k ctx mem Γ g) o (omega (arith, n)) (omega (arith, m)) a.1))

    true_says : (ctx : List Tree) → length ctx ≤ e → Says ctx FTrue tt_i
    unfolding the_rules
    true_says ctx w = rule_proves sig e d room TT_I _ refl ctx w [] [] tt tt

    shape_sound : IsSound (by_shape again leaf)
    shape_sound k out ctx Γ FTrue p w g o n m q = subst (λ z. Says ctx FTrue z) (some_injective q) (true_says ctx (omega (arith, w)))
    shape_sound k out ctx Γ (FAnd A B) p w g o n m q = and_says k out ctx Γ A B p w g o n m q
    shape_sound k out ctx Γ (FOr A B) p w g o n m q = or_says k out ctx Γ A B p w g o n m q
    shape_sound (suc k) out ctx Γ (FImp A B) p w g o n m q = imp_says k out ctx Γ A B p w g o n m q
    shape_sound (suc k) out ctx Γ (FAll A) p w g o n m q = all_says k out ctx Γ A p w g o n m q
    shape_sound (suc k) out ctx Γ (FAllm A) p w g o n m q = allm_says k out ctx Γ A p w g o n m q
    shape_sound zero out ctx Γ (FImp A B) p w g o n m q = absurd (omega (arith, n))
    shape_sound zero out ctx Γ (FAll A) p w g o n m q = absurd (omega (arith, n))
    shape_sound zero out ctx Γ (FAllm A) p w g o n m q = absurd (omega (arith, n))
    shape_sound k out ctx Γ FFalse p w g o n m q = sl k out ctx Γ FFalse p w g o n m q
    shape_sound k out ctx Γ (FRel r a b) p w g o n m q = sl k out ctx Γ (FRel r a b) p w g o n m q
    shape_sound k out ctx Γ (FRd a) p w g o n m q = sl k out ctx Γ (FRd a) p w g o n m q
    shape_sound k out ctx Γ (FWr a) p w g o n m q = sl k out ctx Γ (FWr a) p w g o n m q

  module _ (leaf : Prover) (sl : IsSound leaf) where
    pub goal_sound : (n : ℕ) → IsSound (goal_proof leaf n)
    goal_sound zero k out ctx Γ A p w g o nk nd q = cc
    goal_sound (suc n) k out ctx Γ A p w g o nk nd q =
        go (shape_sound (goal_proof leaf n) leaf (goal_sound n) sl k out ctx Γ A p w g o nk nd) (else_some (find_hyp Γ A) (first_of (option_map (ff_e A) (absurdity Γ)) (by_shape (goal_proof leaf n) leaf out Γ A)) p q)
      where
        rest : (by_shape (goal_proof leaf n) leaf out Γ A ≡ Some p → Says ctx A p) → (option_map (ff_e A) (absurdity Γ) ≡ Some p) ⊎ (by_shape (goal_proof leaf n) leaf out Γ A ≡ Some p) → Says ctx A p
        rest z (inl f) = from_absurd k ctx w Γ g A p o nd f
        rest z (inr f) = z f

        go : (by_shape (goal_proof leaf n) leaf out Γ A ≡ Some p → Says ctx A p) → (find_hyp Γ A ≡ Some p) ⊎ (first_of (option_map (ff_e A) (absurdity Γ)) (by_shape (goal_proof leaf n) leaf out Γ A) ≡ Some p) → Says ctx A p
        go z (inl f) = find_proves sig (e + d) d k ctx Γ g A p f
        go z (inr f) = rest z (else_some (option_map (ff_e A) (absurdity Γ)) (by_shape (goal_proof leaf n) leaf out Γ A) p f)
