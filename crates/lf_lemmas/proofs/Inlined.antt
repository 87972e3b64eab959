-- A term checks over a signature with lemmas exactly where, their proofs being put for them, it
-- checks over the signature alone.
use Rattle.std.proofs.Common.{◌≡◌, ℕ, zero, suc, ◌≤◌, Bool, true, false, ◌&&◌, nat_lt, Option, Some, List, [], ◌∷◌, length, get_or, refl, sym, ◌∙◌, ap, subst, arith, option_map}
use Rattle.std.proofs.lemmas.Bool.{ltb-true, lt-ltb}
use Rattle.term_table.specs.Tree.{Tree, Var, Con, App, Lam, Fam, TApp, Pi, shift, fits, Const, Lemma, at}
use Rattle.term_table.specs.Subst.{Simple, erase, HSubType}
use Rattle.term_table.specs.Scope.{is_over}
use Rattle.term_table.proofs.Options.{map_some, some_injective}
use Rattle.term_table.proofs.Shifts.{shift-over}
use Rattle.lf_signature.specs.Typing.{Checks, lam_checks, atom_checks, Synth, var_synth, con_synth, app_synth}
use Rattle.lf_signature.specs.Simply.{simply, erased}
use Rattle.lf_signature.specs.Terms.{pf}
use Rattle.lf_signature.specs.Laws.Booleans.{both, and_of}
use Rattle.lf_signature.specs.Laws.Closed.{checks_over}
use Rattle.lf_signature.specs.Laws.Simple.{checks_simply}
use Rattle.lf_signature.specs.Laws.Decided.{synth_unique}
use Rattle.lf_lemmas.proofs.SimpleSubst.{SplitsTypes-first}
use Rattle.lf_lemmas.specs.Lemmas.{formulas_of, proofs_of, with_lemmas}
use Rattle.lf_lemmas.specs.WrittenOut.{inlined, cites_below}
use Rattle.lf_lemmas.specs.Orderly.{is_proof_free, ends_proof_free, is_orderly, AdmitsLemmas}
use Rattle.lf_lemmas.proofs.Lists.{lemma_formula}
use Rattle.lf_lemmas.proofs.Formed.{IsFormed, AreFormed, formed_pi, synth_formed}
use Rattle.lf_lemmas.proofs.Absent.{is_absent, hsub_type_absent}
use Rattle.lf_lemmas.proofs.ProofFree.{AllOrderly, orderly_under, free_plain, type_absent}
use Rattle.lf_lemmas.proofs.Moves.{weakened, checks_at, synthesised, lam_parts, app_atom, app_parts, var_moves, var_moves_checks, con_moves, con_moves_checks, fam_checks_not, tapp_checks_not, pi_checks_not}
use Rattle.lf_lemmas.proofs.Citing.{inlined_plain}

module _ (sig : Const → Option Tree) where
  -- each proof checks at its formula, and its variables fit
  abbrev pub AreProofs : List (Tree × Tree) → Type 0
  AreProofs [] = Unit {0}
  AreProofs (l ∷ ls) = Checks sig [] l.1 (pf l.0) × (fits l.1 ≡ true) × AreProofs ls

  proof_at : (ls : List (Tree × Tree)) → AreProofs ls → (n : ℕ) (F : Tree) →
      at (formulas_of ls) n ≡ Some F → (d : Tree) → Checks sig [] (get_or (proofs_of ls) n d) (pf F)
  proof_at [] h n F e d = cc
  proof_at (l ∷ ls) h zero F e d = subst (λ z. Checks sig [] l.1 (pf z)) (some_injective e) h.0
  proof_at (l ∷ ls) h (suc n) F e d = proof_at ls h.2 n F e d

  -- what a lemma becomes is closed and fits, whether the list has it or not
  proof_fits : (ls : List (Tree × Tree)) → AreProofs ls → (n : ℕ) (c : Const) →
      (is_over 0 (get_or (proofs_of ls) n (Con c)) ≡ true)
      × (fits (get_or (proofs_of ls) n (Con c)) ≡ true)
  proof_fits [] h n c = (refl, refl)
  proof_fits (l ∷ ls) h zero c = (checks_over sig h.0, h.1)
  proof_fits (l ∷ ls) h (suc n) c = proof_fits ls h.2 n c

-- a closed tree is over every number of variables
over_wider : (n k : ℕ) (t : Tree) → n ≤ k → is_over n t ≡ true → is_over k t ≡ true
over_wider n k (Var i) h o = let l = ltb-true i n o in lt-ltb i k (omega (arith, h, l))
over_wider n k (Con c) h o = refl
over_wider n k (App f a) h o =
    let b = both _ _ o in
    and_of _ _ (over_wider n k f h b.0) (over_wider n k a h b.1)
over_wider n k (Lam b) h o = over_wider (suc n) (suc k) b (omega (arith, h)) o
over_wider n k (Fam a) h o = refl
over_wider n k (TApp p a) h o =
    let b = both _ _ o in
    and_of _ _ (over_wider n k p h b.0) (over_wider n k a h b.1)
over_wider n k (Pi a b) h o =
    let d = both _ _ o in
    and_of _ _ (over_wider n k a h d.0) (over_wider (suc n) (suc k) b (omega (arith, h)) d.1)

module _ (sig : Const → Option Tree) (admits : AdmitsLemmas sig) where
  -- the simple types of a signature with lemmas are orderly
  simply_orderly : (forms : List Tree) (c : Const) (s : Simple) →
      simply (with_lemmas sig forms) c ≡ Some s → is_orderly s ≡ true
  simply_orderly forms (Lemma n) s e =
      let w = map_some (option_map pf (at forms n)) erase s e in
      let v = map_some (at forms n) pf w.0 w.1 in
      subst (λ z. is_orderly z ≡ true) (ap erase v.2 ∙ w.2) refl
  simply_orderly forms c s e =
      let w = map_some (sig c) erase s e in
      subst (λ z. is_orderly z ≡ true) w.2 (admits.orderly c w.0 w.1)

  -- a lemma's is a proof's
  simply_proofs : (forms : List Tree) (n : ℕ) (s : Simple) →
      simply (with_lemmas sig forms) (Lemma n) ≡ Some s → ends_proof_free s ≡ false
  simply_proofs forms n s e =
      let w = map_some (option_map pf (at forms n)) erase s e in
      let v = map_some (at forms n) pf w.0 w.1 in
      subst (λ z. ends_proof_free z ≡ false) (ap erase v.2 ∙ w.2) refl

  sig_orderly : (c : Const) (s : Simple) → simply sig c ≡ Some s → is_orderly s ≡ true
  sig_orderly c s e =
      let w = map_some (sig c) erase s e in
      subst (λ z. is_orderly z ≡ true) w.2 (admits.orderly c w.0 w.1)

  all_orderly : (Γ : List Tree) → AreFormed sig Γ → AllOrderly (erased Γ)
  all_orderly [] ok n s e = cc
  all_orderly (A ∷ Γ) ok n s e =
      orderly_under (erase A) (erased Γ) ok.0.orderly (all_orderly Γ ok.1) n s e

  module _ (ls : List (Tree × Tree)) (proofs : AreProofs sig ls) where
    -- the signature with the lemmas
    abbrev extended : Const → Option Tree
    extended = with_lemmas sig (formulas_of ls)

    -- a term with their proofs
    abbrev out : Tree → Tree
    out t = inlined (proofs_of ls) t

    -- putting proofs in moves no variable and makes none that doesn't fit
    pub inlined_fits : (k c : ℕ) (t : Tree) → fits (shift k c (out t)) ≡ fits (shift k c t)
    inlined_fits k c (Var n) = refl
    inlined_fits k c (Con (Lemma n)) =
        let h = proof_fits sig ls proofs n (Lemma n) in
        let p = get_or (proofs_of ls) n (Con (Lemma n)) in
        ap fits (shift-over k c p (over_wider 0 c p (omega arith) h.0)) ∙ h.1
    inlined_fits k c (Con d) = refl
    inlined_fits k c (App f a) = λ i. inlined_fits k c f i && inlined_fits k c a i
    inlined_fits k c (Lam b) = inlined_fits k (suc c) b
    inlined_fits k c (Fam a) = refl
    inlined_fits k c (TApp p a) = λ i. inlined_fits k c p i && inlined_fits k c a i
    inlined_fits k c (Pi a b) = λ i. inlined_fits k c a i && inlined_fits k (suc c) b i

    -- nor does it without a shift
    pub inlined_fit : (t : Tree) → fits (out t) ≡ fits t
    inlined_fit (Var n) = refl
    inlined_fit (Con (Lemma n)) = (proof_fits sig ls proofs n (Lemma n)).1
    inlined_fit (Con d) = refl
    inlined_fit (App f a) = λ i. inlined_fit f i && inlined_fit a i
    inlined_fit (Lam b) = inlined_fit b
    inlined_fit (Fam a) = refl
    inlined_fit (TApp p a) = λ i. inlined_fit p i && inlined_fit a i
    inlined_fit (Pi a b) = λ i. inlined_fit a i && inlined_fit b i

    -- An argument with lemmas in it is a proof, and no type depends on it: what the function's type
    -- gives is the same with proofs in their place.
    module _ (Γ : List Tree) (a b m b' : Tree) (ok : AreFormed sig Γ) (f : IsFormed sig Γ (Pi a b))
        (g : Checks extended Γ m a) where
      same_argument : is_proof_free (erase a) ≡ true → out m ≡ m
      same_argument h =
          inlined_plain (proofs_of ls) m
          (free_plain (simply extended) (simply_orderly (formulas_of ls))
          (simply_proofs (formulas_of ls)) (checks_simply extended g) h (all_orderly Γ ok))

      absent_argument : is_proof_free (erase a) ≡ false → is_absent 0 b ≡ true
      absent_argument h =
          let p = formed_pi sig Γ a b f in
          let all = orderly_under (erase a) (erased Γ) p.0.orderly (all_orderly Γ ok) in
          type_absent (simply sig) sig_orderly (erase a) h p.1.type p.1.orderly all 0 (erased Γ)
          (SplitsTypes-first (erase a) (erased Γ))

      moved_out : HSubType (erase a) m 0 b b' → HSubType (erase a) (out m) 0 b b'
      moved_out h = go (is_proof_free (erase a)) refl
        where
          go : (l : Bool) → is_proof_free (erase a) ≡ l → HSubType (erase a) (out m) 0 b b'
          go true q = subst (λ z. HSubType (erase a) z 0 b b') (sym (same_argument q)) h
          go false q =
              hsub_type_absent h (out m) (λ k e. inlined_fits k 0 m ∙ e) (absent_argument q)

      moved_in : HSubType (erase a) (out m) 0 b b' → HSubType (erase a) m 0 b b'
      moved_in h = go (is_proof_free (erase a)) refl
        where
          go : (l : Bool) → is_proof_free (erase a) ≡ l → HSubType (erase a) m 0 b b'
          go true q = subst (λ z. HSubType (erase a) z 0 b b') (same_argument q) h
          go false q =
              hsub_type_absent h m (λ k e. sym (inlined_fits k 0 m) ∙ e) (absent_argument q)

    -- the proof of a lemma, in any context
    lemma_proof : (Γ : List Tree) (n : ℕ) (F : Tree) → at (formulas_of ls) n ≡ Some F →
        Synth sig Γ (out (Con (Lemma n))) (pf F)
    lemma_proof Γ n F e =
        synthesised F
        (weakened sig (out (Con (Lemma n))) (pf F) (proof_at sig ls proofs n F e (Con (Lemma n))) Γ)

    con_out : (Γ : List Tree) (c : Const) (A : Tree) → extended c ≡ Some A →
        Synth sig Γ (out (Con c)) A
    con_out Γ (Lemma n) A e =
        let w = map_some (at (formulas_of ls) n) pf A e in
        subst (λ z. Synth sig Γ (out (Con (Lemma n))) z) w.2 (lemma_proof Γ n w.0 w.1)
    con_out Γ c A e = con_synth e

    mutual
      -- from a term with lemmas to one with proofs
      pub checks_out : {Γ : List Tree} {t A : Tree} → Checks extended Γ t A → AreFormed sig Γ →
          IsFormed sig Γ A → Checks sig Γ (out t) A
      checks_out (lam_checks {ctx = Γ} {a = a} {b = b} d) ok f =
          let p = formed_pi sig Γ a b f in
          lam_checks (checks_out d (p.0, ok) p.1)
      checks_out (atom_checks d h) ok f = atom_checks (synth_out d ok) h

      synth_out : {Γ : List Tree} {t A : Tree} → Synth extended Γ t A → AreFormed sig Γ →
          Synth sig Γ (out t) A
      synth_out (var_synth e f) ok = var_synth e f
      synth_out (con_synth {ctx = Γ} {c = c} {a = A} e) ok = con_out Γ c A e
      synth_out (app_synth {ctx = Γ} {m = m} {a = a} {b = b} {b' = b'} d g h) ok =
          let d' = synth_out d ok in
          let f = synth_formed sig admits.lawful admits.orderly d' ok in
          let p = formed_pi sig Γ a b f in
          app_synth d' (checks_out g ok p.0) (moved_out Γ a b m b' ok f g h)

    -- a lemma of the list has a type
    lemma_is : (Γ : List Tree) (n : ℕ) → nat_lt n (length ls) ≡ true →
        (F : Tree) × Synth sig Γ (out (Con (Lemma n))) (pf F) × (extended (Lemma n) ≡ Some (pf F))
    lemma_is Γ n k =
        let w = lemma_formula ls n (ltb-true n (length ls) k) in
        (w.0, lemma_proof Γ n w.0 w.1, ap (option_map pf) w.1)

    con_in : (Γ : List Tree) (c : Const) (A : Tree) → cites_below (length ls) (Con c) ≡ true →
        Synth sig Γ (out (Con c)) A → Synth extended Γ (Con c) A
    con_in Γ (Lemma n) A k d =
        let w = lemma_is Γ n k in
        con_synth (w.2 ∙ ap Some (synth_unique sig w.1 d))
    con_in Γ c A k d = con_moves (λ a e. e) d

    con_in_checks : (Γ : List Tree) (c : Const) (A : Tree) →
        cites_below (length ls) (Con c) ≡ true → Checks sig Γ (out (Con c)) A →
        Checks extended Γ (Con c) A
    con_in_checks Γ (Lemma n) A k d =
        let w = lemma_is Γ n k in
        subst (λ z. Checks extended Γ (Con (Lemma n)) z) (sym (checks_at w.1 d))
        (atom_checks (con_synth w.2) tt)
    con_in_checks Γ c A k d = con_moves_checks (λ a e. e) d

    app_in : (Γ : List Tree) (r m A : Tree) → AreFormed sig Γ →
        ((B : Tree) → Synth sig Γ (out r) B → Synth extended Γ r B) →
        ((a : Tree) → Checks sig Γ (out m) a → IsFormed sig Γ a → Checks extended Γ m a) →
        Synth sig Γ (App (out r) (out m)) A → Synth extended Γ (App r m) A
    app_in Γ r m A ok of_r of_m d =
        let w = app_parts d in
        let f = synth_formed sig admits.lawful admits.orderly w.2 ok in
        let g = of_m w.0 w.3 (formed_pi sig Γ w.0 w.1 f).0 in
        app_synth (of_r (Pi w.0 w.1) w.2) g (moved_in Γ w.0 w.1 m A ok f g w.4)

    mutual
      -- and back, where the term cites these lemmas alone
      pub checks_in : (t : Tree) (Γ : List Tree) (A : Tree) → cites_below (length ls) t ≡ true →
          Checks sig Γ (out t) A → AreFormed sig Γ → IsFormed sig Γ A → Checks extended Γ t A
      checks_in (Var n) Γ A k d ok f = var_moves_checks d
      checks_in (Con c) Γ A k d ok f = con_in_checks Γ c A k d
      checks_in (App r m) Γ A k d ok f =
          let q = both _ _ k in
          let w = app_atom d in
          atom_checks
          (app_in Γ r m A ok (λ B e. synth_in r Γ B q.0 e ok)
          (λ a e g. checks_in m Γ a q.1 e ok g) w.0) w.1
      checks_in (Lam b) Γ A k d ok f =
          let w = lam_parts d in
          let p = formed_pi sig Γ w.0 w.1 (subst (λ z. IsFormed sig Γ z) w.2 f) in
          subst (λ z. Checks extended Γ (Lam b) z) (sym w.2)
          (lam_checks (checks_in b (w.0 ∷ Γ) w.1 k w.3 (p.0, ok) p.1))
      checks_in (Fam a) Γ A k d ok f = absurd (fam_checks_not d)
      checks_in (TApp p a) Γ A k d ok f = absurd (tapp_checks_not d)
      checks_in (Pi a b) Γ A k d ok f = absurd (pi_checks_not d)

      synth_in : (t : Tree) (Γ : List Tree) (A : Tree) → cites_below (length ls) t ≡ true →
          Synth sig Γ (out t) A → AreFormed sig Γ → Synth extended Γ t A
      synth_in (Var n) Γ A k d ok = var_moves d
      synth_in (Con c) Γ A k d ok = con_in Γ c A k d
      synth_in (App r m) Γ A k d ok =
          let q = both _ _ k in
          app_in Γ r m A ok (λ B e. synth_in r Γ B q.0 e ok)
          (λ a e g. checks_in m Γ a q.1 e ok g) d
      synth_in (Lam b) Γ A k d ok = elim d [ ]
      synth_in (Fam a) Γ A k d ok = elim d [ ]
      synth_in (TApp p a) Γ A k d ok = elim d [ ]
      synth_in (Pi a b) Γ A k d ok = elim d [ ]
