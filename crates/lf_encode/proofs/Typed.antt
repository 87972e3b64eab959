-- The encoding of a formula over a context checks at form, where its variables have room below 2 ^ 32.
use Rattle.word_ops.specs.Operators.{op_constant}
use Rattle.lf_signature.specs.Numbers.{rel_constant}
use Rattle.lf_signature.specs.Terms.{app1, app2}
use Rattle.std.proofs.Common.{◌≡◌, ℕ, zero, suc, ◌+◌, ◌^◌, ◌<◌, ◌≤◌, Bool, true, cond, ◌&&◌, ltb, Option, Some, None, List, [], ◌∷◌, length, refl, sym, ◌∙◌, ap, subst, lt-ltb, arith, one-add}
use Rattle.term_table.specs.Tree.{Tree, Fam, Pi, Const, Num, at, shift, raise, fits}
use Rattle.term_table.specs.Subst.{in_fam, in_pi}
use Rattle.formula_tree.specs.Formulas.{Exp, EReg, ELeft, EVar, ELit, EOp, ESel, MemExp, MMem, MVar, MUpd, Form, FTrue, FFalse, FRel, FRd, FWr, FAnd, FOr, FImp, FAll, FAllm, shift_exp, shift_mem}
use Rattle.lf_terms.specs.Encoding.{exp_encoding, mem_encoding, form_encoding}
use Rattle.formula_tree.specs.Scope.{VarSort, sort_at, OfWord, OfMem, IsOverExp, IsOverMem, IsOver}
use Rattle.lf_signature.specs.Typing.{Checks, lam_checks, atom_checks, var_synth, con_synth, app_synth}
use Rattle.word_ops.specs.declared.Rel.{Rel}
use Rattle.word_ops.specs.declared.Rel.TheVariants.{Eq, Ult, Ule, Slt, Sle}
use Rattle.lf_signature.specs.declared.editions.WordSignature.TheVariants.{Sigma1}
use Rattle.lf_signature.specs.Constants.{constant_types}
use Rattle.lf_signature.specs.Laws.Within.{declared-made}
use Rattle.lf_signature.specs.Known.{IsKnownSignature}
use Rattle.formula_tree.specs.Operators.{UsesExp, UsesMem, Uses}
use Rattle.lf_signature.specs.Known.{HasOp}
use Rattle.lf_signature.specs.Laws.Numbered.{declared-rel}
use Rattle.lf_signature.specs.declared.numbers.TheConstants.{EQ, FIRST_RULE, SLE, SLT, ULE, ULT}
use Rattle.lf_terms.specs.Encoding.{var_types}
use Rattle.formula_tree.specs.Sizes.{binders}
use Rattle.lf_terms.proofs.Encoded.{at-word, at-mem, shift-mem_encoding}

at_within : (G : List VarSort) (n : ℕ) (s : VarSort) → sort_at G n ≡ Some s → n < length G
at_within [] n s q = cc
at_within (v ∷ G) zero s q = omega arith
at_within (v ∷ G) (suc n) s q = let h = at_within G n s q in omega (arith, h)

raise_le : (k c n : ℕ) → raise k c n ≤ n + k
raise_le k zero n = omega arith
raise_le k (suc c) zero = omega arith
raise_le k (suc c) (suc n) = let h = raise_le k c n in omega (arith, h)

both : (a b : Bool) → a ≡ true → b ≡ true → (a && b) ≡ true
both a b p q = ap (λ z. z && b) p ∙ q

var_fits : (G : List VarSort) (k c n : ℕ) (s : VarSort) → sort_at G n ≡ Some s → length G + k ≤ 2 ^ 32 → ltb (raise k c n) (2 ^ 32) ≡ true
var_fits G k c n s q h = lt-ltb (raise k c n) (2 ^ 32) (omega (arith, raise_le k c n, at_within G n s q))

mutual
  pub exp_fits : (a : Exp) (G : List VarSort) (k c : ℕ) → IsOverExp 0 a G → length G + k ≤ 2 ^ 32 → fits (shift k c (exp_encoding a)) ≡ true
  exp_fits (EReg q) G k c h r = absurd (omega (arith, h))
  exp_fits ELeft G k c h r = absurd h
  exp_fits (EVar n) G k c h r = var_fits G k c n OfWord h r
  exp_fits (ELit w) G k c h r = refl
  exp_fits (EOp o a b) G k c h r = both _ _ (exp_fits a G k c h.0 r) (exp_fits b G k c h.1 r)
  exp_fits (ESel m a) G k c h r = both _ _ (mem_fits m G k c h.0 r) (exp_fits a G k c h.1 r)

  pub mem_fits : (m : MemExp) (G : List VarSort) (k c : ℕ) → IsOverMem 0 m G → length G + k ≤ 2 ^ 32 → fits (shift k c (mem_encoding m)) ≡ true
  mem_fits MMem G k c h r = absurd (omega (arith, h))
  mem_fits (MVar n) G k c h r = var_fits G k c n OfMem h r
  mem_fits (MUpd m a v) G k c h r = both _ _ (both _ _ (mem_fits m G k c h.0 r) (exp_fits a G k c h.1 r)) (exp_fits v G k c h.2 r)

pub form_fits : (F : Form) (G : List VarSort) (k c : ℕ) → IsOver 0 F G → length G + binders F + k ≤ 2 ^ 32 → fits (shift k c (form_encoding F)) ≡ true
form_fits FTrue G k c h r = refl
form_fits FFalse G k c h r = refl
form_fits (FRel p a b) G k c h r = both _ _ (exp_fits a G k c h.0 (omega arith)) (exp_fits b G k c h.1 (omega arith))
form_fits (FRd a) G k c h r = exp_fits a G k c h (omega arith)
form_fits (FWr a) G k c h r = exp_fits a G k c h (omega arith)
form_fits (FAnd A B) G k c h r = both _ _ (form_fits A G k c h.0 (omega arith)) (form_fits B G k c h.1 (omega arith))
form_fits (FOr A B) G k c h r = both _ _ (form_fits A G k c h.0 (omega arith)) (form_fits B G k c h.1 (omega arith))
form_fits (FImp A B) G k c h r = both _ _ (form_fits A G k c h.0 (omega arith)) (form_fits B G k c h.1 (omega arith))
form_fits (FAll A) G k c h r = form_fits A (OfWord ∷ G) k (suc c) h (omega arith)
form_fits (FAllm A) G k c h r = form_fits A (OfMem ∷ G) k (suc c) h (omega arith)

-- a memory under one binder more
mutual
  pub exp_wider : (a : Exp) (G : List VarSort) (s : VarSort) → IsOverExp 0 a G → IsOverExp 0 (shift_exp 1 0 a) (s ∷ G)
  exp_wider (EReg q) G s h = absurd (omega (arith, h))
  exp_wider ELeft G s h = absurd h
  exp_wider (EVar n) G s h = rw one-add h
  exp_wider (ELit w) G s h = h
  exp_wider (EOp o a b) G s h = (exp_wider a G s h.0, exp_wider b G s h.1)
  exp_wider (ESel m a) G s h = (mem_wider m G s h.0, exp_wider a G s h.1)

  pub mem_wider : (m : MemExp) (G : List VarSort) (s : VarSort) → IsOverMem 0 m G → IsOverMem 0 (shift_mem 1 0 m) (s ∷ G)
  mem_wider MMem G s h = absurd (omega (arith, h))
  mem_wider (MVar n) G s h = rw one-add h
  mem_wider (MUpd m a v) G s h = (mem_wider m G s h.0, exp_wider a G s h.1, exp_wider v G s h.2)

-- over any signature whose constants are those of word arithmetic
module _ (sig : Const → Option Tree) (known : IsKnownSignature sig) where
  basic : (n : ℕ) → n < FIRST_RULE → sig (Num n) ≡ at constant_types n
  basic n h = known.basic n h ∙ declared-made Sigma1 n h

  rel_basic : (r : Rel) → sig (Num (rel_constant r)) ≡ Some (Pi (Fam 0) (Pi (Fam 0) (Fam 2)))
  rel_basic Eq = known.basic EQ (omega arith) ∙ declared-rel Sigma1 Eq
  rel_basic Ult = known.basic ULT (omega arith) ∙ declared-rel Sigma1 Ult
  rel_basic Ule = known.basic ULE (omega arith) ∙ declared-rel Sigma1 Ule
  rel_basic Slt = known.basic SLT (omega arith) ∙ declared-rel Sigma1 Slt
  rel_basic Sle = known.basic SLE (omega arith) ∙ declared-rel Sigma1 Sle

  two : {Γ : List Tree} {a b : Tree} {s u t : ℕ} (n : ℕ) → sig (Num n) ≡ Some (Pi (Fam s) (Pi (Fam u) (Fam t))) → Checks sig Γ a (Fam s) → Checks sig Γ b (Fam u) → fits (shift 1 0 a) ≡ true →
      Checks sig Γ (app2 n a b) (Fam t)
  two n q d g f = atom_checks (app_synth (app_synth (con_synth q) d (in_pi in_fam f in_fam)) g in_fam) tt

  one : {Γ : List Tree} {a : Tree} {s t : ℕ} (n : ℕ) → sig (Num n) ≡ Some (Pi (Fam s) (Fam t)) → Checks sig Γ a (Fam s) → Checks sig Γ (app1 n a) (Fam t)
  one n q d = atom_checks (app_synth (con_synth q) d in_fam) tt

  mutual
    unfolding constant_types

    pub exp_checks : (a : Exp) (G : List VarSort) → IsOverExp 0 a G → UsesExp (HasOp sig) a → length G + 2 ≤ 2 ^ 32 → Checks sig (var_types G) (exp_encoding a) (Fam 0)
    exp_checks (EReg q) G h u r = absurd (omega (arith, h))
    exp_checks ELeft G h u r = absurd h
    exp_checks (EVar n) G h u r = atom_checks (var_synth (at-word G n h) refl) tt
    exp_checks (ELit w) G h u r = atom_checks (con_synth (known.words w ∙ ap (λ b. cond b (Some (Fam 0)) None) (lt-ltb w (2 ^ 64) h))) tt
    exp_checks (EOp o a b) G h u r = two (op_constant o) u.0 (exp_checks a G h.0 u.1 r) (exp_checks b G h.1 u.2 r) (exp_fits a G 1 0 h.0 (omega arith))
    exp_checks (ESel m a) G h u r = two 11 (basic 11 (omega arith)) (mem_checks m G h.0 u.0 r) (exp_checks a G h.1 u.1 r) (mem_fits m G 1 0 h.0 (omega arith))

    pub mem_checks : (m : MemExp) (G : List VarSort) → IsOverMem 0 m G → UsesMem (HasOp sig) m → length G + 2 ≤ 2 ^ 32 → Checks sig (var_types G) (mem_encoding m) (Fam 1)
    mem_checks MMem G h u r = absurd (omega (arith, h))
    mem_checks (MVar n) G h u r = atom_checks (var_synth (at-mem G n h) refl) tt
    mem_checks (MUpd m a v) G h u r =
        let again : fits (shift 1 0 (shift 1 0 (mem_encoding m))) ≡ true =
        subst (λ z. fits (shift 1 0 z) ≡ true) (sym (shift-mem_encoding m 1 0)) (mem_fits (shift_mem 1 0 m) (OfWord ∷ G) 1 0 (mem_wider m G OfWord h.0) (omega arith)) in
        atom_checks
        (app_synth
        (app_synth (app_synth (con_synth (basic 12 (omega arith))) (mem_checks m G h.0 u.0 r) (in_pi in_fam (mem_fits m G 1 0 h.0 (omega arith)) (in_pi in_fam again in_fam)))
        (exp_checks a G h.1 u.1 r) (in_pi in_fam (exp_fits a G 1 0 h.1 (omega arith)) in_fam))
        (exp_checks v G h.2 u.2 r) in_fam)
        tt

  -- the other half of adequacy
  pub form_checks : (F : Form) (G : List VarSort) → IsOver 0 F G → Uses (HasOp sig) F → length G + binders F + 2 ≤ 2 ^ 32 → Checks sig (var_types G) (form_encoding F) (Fam 2)
  unfolding constant_types
  form_checks FTrue G h u r = atom_checks (con_synth (basic 13 (omega arith))) tt
  form_checks FFalse G h u r = atom_checks (con_synth (basic 14 (omega arith))) tt
  form_checks (FRel p a b) G h u r = two (rel_constant p) (rel_basic p) (exp_checks a G h.0 u.0 (omega arith)) (exp_checks b G h.1 u.1 (omega arith)) (exp_fits a G 1 0 h.0 (omega arith))
  form_checks (FRd a) G h u r = one 20 (basic 20 (omega arith)) (exp_checks a G h u (omega arith))
  form_checks (FWr a) G h u r = one 21 (basic 21 (omega arith)) (exp_checks a G h u (omega arith))
  form_checks (FAnd A B) G h u r = two 22 (basic 22 (omega arith)) (form_checks A G h.0 u.0 (omega arith)) (form_checks B G h.1 u.1 (omega arith)) (form_fits A G 1 0 h.0 (omega arith))
  form_checks (FOr A B) G h u r = two 23 (basic 23 (omega arith)) (form_checks A G h.0 u.0 (omega arith)) (form_checks B G h.1 u.1 (omega arith)) (form_fits A G 1 0 h.0 (omega arith))
  form_checks (FImp A B) G h u r = two 24 (basic 24 (omega arith)) (form_checks A G h.0 u.0 (omega arith)) (form_checks B G h.1 u.1 (omega arith)) (form_fits A G 1 0 h.0 (omega arith))
  form_checks (FAll A) G h u r = atom_checks (app_synth (con_synth (basic 25 (omega arith))) (lam_checks (form_checks A (OfWord ∷ G) h u (omega arith))) in_fam) tt
  form_checks (FAllm A) G h u r = atom_checks (app_synth (con_synth (basic 26 (omega arith))) (lam_checks (form_checks A (OfMem ∷ G) h u (omega arith))) in_fam) tt
