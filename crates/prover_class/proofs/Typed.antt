-- Encodings of what is over a context check there, and serve a rule as arguments.
use Rattle.std.proofs.Common.{◌≡◌, ℕ, zero, suc, ◌+◌, ◌^◌, ◌<◌, ◌≤◌, true, cond, Some, None, List, [], ◌∷◌, length, refl, ap, arith}
use Rattle.std.proofs.lemmas.Bool.{lt-ltb}
use Rattle.term_table.specs.Tree.{Tree, Fam, Pi, Lam, Num, Lit, at, shift, fits}
use Rattle.term_table.specs.Subst.{in_fam, in_pi}
use Rattle.word_ops.specs.Operators.{op_constant}
use Rattle.lf_signature.specs.Numbers.{rel_constant}
use Rattle.lf_signature.specs.Terms.{exp, mem, form, app1, app2}
use Rattle.lf_signature.specs.Rules.{OfExp, OfMem, OfForm, OfExpForm, OfMemForm}
use Rattle.lf_signature.specs.Constants.{constant_types, the_rules, declared}
use Rattle.lf_signature.specs.Typing.{Checks, lam_checks, atom_checks, var_synth, con_synth, app_synth}
use Rattle.lf_signature.specs.Laws.Numbered.{declared-rel}
use Rattle.lf_terms.specs.Plain.{var_bound, binder_depth}
use Rattle.lf_terms.specs.Instance.{IsArgument}
use Rattle.lf_terms.proofs.Room.{fits_shift, var_bound_shift}
use Rattle.formula_tree.specs.Formulas.{Exp, EVar, ELit, EOp, ESel, MemExp, MVar, MUpd, Form, FTrue, FFalse, FRel, FRd, FWr, FAnd, FOr, FImp, FAll, FAllm, EReg, ELeft, MMem}
use Rattle.lf_terms.specs.Encoding.{exp_encoding, mem_encoding, form_encoding}
use Rattle.prover_class.proofs.Scope.{OverExp, OverMem, Over, nesting}
use Rattle.prover_class.proofs.Signatures.{operator-declared}
use Rattle.lf_signature.specs.declared.editions.WordSignature.{WordSignature}
use Rattle.lf_signature.specs.declared.editions.WordSignature.TheVariants.{Sigma1}
use Rattle.lf_signature.specs.declared.numbers.TheConstants.{FIRST_RULE}
use Rattle.lf_signature.specs.Laws.Within.{declared_known}

at_below : (ctx : List Tree) (n : ℕ) (t : Tree) → at ctx n ≡ Some t → n < length ctx
at_below [] n t q = cc
at_below (v ∷ ctx) zero t q = omega arith
at_below (v ∷ ctx) (suc n) t q = omega (arith, at_below ctx n t q)

mutual
  pub binders_exp : (a : Exp) → binder_depth (exp_encoding a) ≡ 0
  binders_exp (EReg r) = refl
  binders_exp ELeft = refl
  binders_exp (EVar n) = refl
  binders_exp (ELit w) = refl
  binders_exp (EOp o a b) = omega (arith, binders_exp a, binders_exp b)
  binders_exp (ESel m a) = omega (arith, binders_mem m, binders_exp a)

  pub binders_mem : (m : MemExp) → binder_depth (mem_encoding m) ≡ 0
  binders_mem MMem = refl
  binders_mem (MVar n) = refl
  binders_mem (MUpd m a v) = omega (arith, binders_mem m, binders_exp a, binders_exp v)

pub binders_form : (A : Form) → binder_depth (form_encoding A) ≤ nesting A
binders_form FTrue = omega arith
binders_form FFalse = omega arith
binders_form (FRel p a b) = omega (arith, binders_exp a, binders_exp b)
binders_form (FRd a) = omega (arith, binders_exp a)
binders_form (FWr a) = omega (arith, binders_exp a)
binders_form (FAnd A B) = omega (arith, binders_form A, binders_form B)
binders_form (FOr A B) = omega (arith, binders_form A, binders_form B)
binders_form (FImp A B) = omega (arith, binders_form A, binders_form B)
binders_form (FAll A) = omega (arith, binders_form A)
binders_form (FAllm A) = omega (arith, binders_form A)

module _ (sig : WordSignature) where
  mutual
    pub exp_bound : (a : Exp) (ctx : List Tree) → OverExp sig a ctx → var_bound (exp_encoding a) ≤ length ctx
    exp_bound (EReg r) ctx h = elim h [ ]
    exp_bound ELeft ctx h = elim h [ ]
    exp_bound (EVar n) ctx h = omega (arith, at_below ctx n exp h)
    exp_bound (ELit w) ctx h = omega arith
    exp_bound (EOp o a b) ctx h = omega (arith, exp_bound a ctx h.0, exp_bound b ctx h.1)
    exp_bound (ESel m a) ctx h = omega (arith, mem_bound m ctx h.0, exp_bound a ctx h.1)

    pub mem_bound : (m : MemExp) (ctx : List Tree) → OverMem sig m ctx → var_bound (mem_encoding m) ≤ length ctx
    mem_bound MMem ctx h = elim h [ ]
    mem_bound (MVar n) ctx h = omega (arith, at_below ctx n mem h)
    mem_bound (MUpd m a v) ctx h = omega (arith, mem_bound m ctx h.0, exp_bound a ctx h.1, exp_bound v ctx h.2)

  pub form_bound : (A : Form) (ctx : List Tree) → Over sig A ctx → var_bound (form_encoding A) ≤ length ctx + nesting A
  form_bound FTrue ctx h = omega arith
  form_bound FFalse ctx h = omega arith
  form_bound (FRel p a b) ctx h = omega (arith, exp_bound a ctx h.0, exp_bound b ctx h.1)
  form_bound (FRd a) ctx h = omega (arith, exp_bound a ctx h)
  form_bound (FWr a) ctx h = omega (arith, exp_bound a ctx h)
  form_bound (FAnd A B) ctx h = omega (arith, form_bound A ctx h.0, form_bound B ctx h.1)
  form_bound (FOr A B) ctx h = omega (arith, form_bound A ctx h.0, form_bound B ctx h.1)
  form_bound (FImp A B) ctx h = omega (arith, form_bound A ctx h.0, form_bound B ctx h.1)
  form_bound (FAll A) ctx h = omega (arith, form_bound A (exp ∷ ctx) h)
  form_bound (FAllm A) ctx h = omega (arith, form_bound A (mem ∷ ctx) h)

  two : {ctx : List Tree} {a b : Tree} {s u t : ℕ} (n : ℕ) → declared sig (Num n) ≡ Some (Pi (Fam s) (Pi (Fam u) (Fam t))) → Checks (declared sig) ctx a (Fam s) → Checks (declared sig) ctx b (Fam u) →
      fits (shift 1 0 a) ≡ true → Checks (declared sig) ctx (app2 n a b) (Fam t)
  two n q d g f = atom_checks (app_synth (app_synth (con_synth q) d (in_pi in_fam f in_fam)) g in_fam) tt

  one : {ctx : List Tree} {a : Tree} {s t : ℕ} (n : ℕ) → declared sig (Num n) ≡ Some (Pi (Fam s) (Fam t)) → Checks (declared sig) ctx a (Fam s) → Checks (declared sig) ctx (app1 n a) (Fam t)
  one n q d = atom_checks (app_synth (con_synth q) d in_fam) tt

  -- a constant of formulas has the type that the first signature gives it
  made : (n : ℕ) → n < FIRST_RULE → declared sig (Num n) ≡ declared Sigma1 (Num n)
  made n h = (declared_known sig).basic n h

  sel_declared : declared sig (Num 11) ≡ Some (Pi mem (Pi exp exp))
  unfolding constant_types the_rules
  sel_declared = made 11 (omega arith)

  upd_declared : declared sig (Num 12) ≡ Some (Pi mem (Pi exp (Pi exp mem)))
  unfolding constant_types the_rules
  upd_declared = made 12 (omega arith)

  truth_declared : declared sig (Num 13) ≡ Some form
  unfolding constant_types the_rules
  truth_declared = made 13 (omega arith)

  falsity_declared : declared sig (Num 14) ≡ Some form
  unfolding constant_types the_rules
  falsity_declared = made 14 (omega arith)

  rd_declared : declared sig (Num 20) ≡ Some (Pi exp form)
  unfolding constant_types the_rules
  rd_declared = made 20 (omega arith)

  wr_declared : declared sig (Num 21) ≡ Some (Pi exp form)
  unfolding constant_types the_rules
  wr_declared = made 21 (omega arith)

  and_declared : declared sig (Num 22) ≡ Some (Pi form (Pi form form))
  unfolding constant_types the_rules
  and_declared = made 22 (omega arith)

  or_declared : declared sig (Num 23) ≡ Some (Pi form (Pi form form))
  unfolding constant_types the_rules
  or_declared = made 23 (omega arith)

  imp_declared : declared sig (Num 24) ≡ Some (Pi form (Pi form form))
  unfolding constant_types the_rules
  imp_declared = made 24 (omega arith)

  all_declared : declared sig (Num 25) ≡ Some (Pi (Pi exp form) form)
  unfolding constant_types the_rules
  all_declared = made 25 (omega arith)

  allm_declared : declared sig (Num 26) ≡ Some (Pi (Pi mem form) form)
  unfolding constant_types the_rules
  allm_declared = made 26 (omega arith)

  lit_declared : (w : ℕ) → w < 2 ^ 64 → declared sig (Lit w) ≡ Some exp
  lit_declared w h = ap (λ b. cond b (Some exp) None) (lt-ltb w (2 ^ 64) h)

  mutual
    pub exp_checks : (a : Exp) (ctx : List Tree) → OverExp sig a ctx → length ctx + 2 ≤ 2 ^ 32 → Checks (declared sig) ctx (exp_encoding a) exp
    exp_checks (EReg r) ctx h q = elim h [ ]
    exp_checks ELeft ctx h q = elim h [ ]
    exp_checks (EVar n) ctx h r = atom_checks (var_synth h refl) tt
    exp_checks (ELit w) ctx h r = atom_checks (con_synth (lit_declared w h)) tt
    exp_checks (EOp o a b) ctx h r = two (op_constant o) (operator-declared sig o h.2) (exp_checks a ctx h.0 r) (exp_checks b ctx h.1 r) (fits_shift (exp_encoding a) 1 0 (omega (arith, r, exp_bound a ctx h.0)))
    exp_checks (ESel m a) ctx h r = two 11 sel_declared (mem_checks m ctx h.0 r) (exp_checks a ctx h.1 r) (fits_shift (mem_encoding m) 1 0 (omega (arith, r, mem_bound m ctx h.0)))

    pub mem_checks : (m : MemExp) (ctx : List Tree) → OverMem sig m ctx → length ctx + 2 ≤ 2 ^ 32 → Checks (declared sig) ctx (mem_encoding m) mem
    mem_checks MMem ctx h q = elim h [ ]
    mem_checks (MVar n) ctx h r = atom_checks (var_synth h refl) tt
    mem_checks (MUpd m a v) ctx h r =
        let again : fits (shift 1 0 (shift 1 0 (mem_encoding m))) ≡ true =
        fits_shift (shift 1 0 (mem_encoding m)) 1 0 (omega (arith, r, mem_bound m ctx h.0, var_bound_shift (mem_encoding m) 1 0)) in
        atom_checks
        (app_synth
        (app_synth (app_synth (con_synth upd_declared) (mem_checks m ctx h.0 r) (in_pi in_fam (fits_shift (mem_encoding m) 1 0 (omega (arith, r, mem_bound m ctx h.0))) (in_pi in_fam again in_fam)))
        (exp_checks a ctx h.1 r) (in_pi in_fam (fits_shift (exp_encoding a) 1 0 (omega (arith, r, exp_bound a ctx h.1))) in_fam))
        (exp_checks v ctx h.2 r) in_fam)
        tt

  pub form_checks : (A : Form) (ctx : List Tree) → Over sig A ctx → length ctx + nesting A + 2 ≤ 2 ^ 32 → Checks (declared sig) ctx (form_encoding A) form
  form_checks FTrue ctx h r = atom_checks (con_synth truth_declared) tt
  form_checks FFalse ctx h r = atom_checks (con_synth falsity_declared) tt
  form_checks (FRel p a b) ctx h r =
      two (rel_constant p) (declared-rel sig p) (exp_checks a ctx h.0 (omega (arith, r))) (exp_checks b ctx h.1 (omega (arith, r))) (fits_shift (exp_encoding a) 1 0 (omega (arith, r, exp_bound a ctx h.0)))
  form_checks (FRd a) ctx h r = one 20 rd_declared (exp_checks a ctx h (omega (arith, r)))
  form_checks (FWr a) ctx h r = one 21 wr_declared (exp_checks a ctx h (omega (arith, r)))
  form_checks (FAnd A B) ctx h r = two 22 and_declared (form_checks A ctx h.0 (omega (arith, r))) (form_checks B ctx h.1 (omega (arith, r))) (fits_shift (form_encoding A) 1 0 (omega (arith, r, form_bound A ctx h.0)))
  form_checks (FOr A B) ctx h r = two 23 or_declared (form_checks A ctx h.0 (omega (arith, r))) (form_checks B ctx h.1 (omega (arith, r))) (fits_shift (form_encoding A) 1 0 (omega (arith, r, form_bound A ctx h.0)))
  form_checks (FImp A B) ctx h r = two 24 imp_declared (form_checks A ctx h.0 (omega (arith, r))) (form_checks B ctx h.1 (omega (arith, r))) (fits_shift (form_encoding A) 1 0 (omega (arith, r, form_bound A ctx h.0)))
  form_checks (FAll A) ctx h r = atom_checks (app_synth (con_synth all_declared) (lam_checks (form_checks A (exp ∷ ctx) h (omega (arith, r)))) in_fam) tt
  form_checks (FAllm A) ctx h r = atom_checks (app_synth (con_synth allm_declared) (lam_checks (form_checks A (mem ∷ ctx) h (omega (arith, r)))) in_fam) tt

  -- what serves a rule as an argument
  pub exp_argument : (a : Exp) (ctx : List Tree) (d : ℕ) → OverExp sig a ctx → length ctx + (d + d) + 16 ≤ 2 ^ 32 → IsArgument (declared sig) ctx d OfExp (exp_encoding a)
  exp_argument a ctx d h r =
      record { checks = exp_checks a ctx h (omega (arith, r)); depth = omega (arith, binders_exp a); room = omega (arith, r, exp_bound a ctx h) }

  pub mem_argument : (m : MemExp) (ctx : List Tree) (d : ℕ) → OverMem sig m ctx → length ctx + (d + d) + 16 ≤ 2 ^ 32 → IsArgument (declared sig) ctx d OfMem (mem_encoding m)
  mem_argument m ctx d h r =
      record { checks = mem_checks m ctx h (omega (arith, r)); depth = omega (arith, binders_mem m); room = omega (arith, r, mem_bound m ctx h) }

  pub form_argument : (A : Form) (ctx : List Tree) (d : ℕ) → Over sig A ctx → nesting A ≤ d → length ctx + (d + d + d) + 16 ≤ 2 ^ 32 → IsArgument (declared sig) ctx d OfForm (form_encoding A)
  form_argument A ctx d h n r =
      record { checks = form_checks A ctx h (omega (arith, n, r)); depth = omega (arith, n, binders_form A); room = omega (arith, n, r, form_bound A ctx h) }

  pub all_argument : (A : Form) (ctx : List Tree) (d : ℕ) → Over sig A (exp ∷ ctx) → nesting A < d → length ctx + (d + d + d) + 16 ≤ 2 ^ 32 → IsArgument (declared sig) ctx d OfExpForm (Lam (form_encoding A))
  all_argument A ctx d h n r =
      record { checks = lam_checks (form_checks A (exp ∷ ctx) h (omega (arith, n, r))); depth = omega (arith, n, binders_form A); room = omega (arith, n, r, form_bound A (exp ∷ ctx) h) }

  pub allm_argument : (A : Form) (ctx : List Tree) (d : ℕ) → Over sig A (mem ∷ ctx) → nesting A < d → length ctx + (d + d + d) + 16 ≤ 2 ^ 32 → IsArgument (declared sig) ctx d OfMemForm (Lam (form_encoding A))
  allm_argument A ctx d h n r =
      record { checks = lam_checks (form_checks A (mem ∷ ctx) h (omega (arith, n, r))); depth = omega (arith, n, binders_form A); room = omega (arith, n, r, form_bound A (mem ∷ ctx) h) }
