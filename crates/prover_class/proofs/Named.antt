-- The rules that bind or move, and the constants of words.
use Rattle.std.proofs.Common.{◌≡◌, ℕ, zero, suc, ◌+◌, ◌^◌, ◌<◌, ◌≤◌, Bool, true, false, cond, nat_lt, ◌&&◌, Some, None, List, [], ◌∷◌, length, refl, sym, ◌∙◌, ap, subst, arith, one-add}
use Rattle.std.proofs.lemmas.Bool.{lt-ltb, ltb-true, ltb-false}
use Rattle.term_table.specs.Tree.{Tree, Var, Con, App, Lam, Fam, TApp, Pi, Calc, Fact, shift, raise, spot}
use Rattle.term_table.specs.Subst.{bind}
use Rattle.word_ops.specs.declared.Op.{Op}
use Rattle.word_ops.specs.declared.Rel.{Rel}
use Rattle.word_ops.specs.declared.Rel.TheVariants.{Eq, Ult, Ule, Slt, Sle}
use Rattle.word_ops.specs.Words.{test_of}
use Rattle.word_ops.specs.Operators.{op_number, op_of}
use Rattle.lf_signature.specs.Numbers.{rel_of, rel_number}
use Rattle.lf_signature.specs.Terms.{exp, mem, pf, rel_term}
use Rattle.lf_signature.specs.Typing.{Checks, lam_checks, atom_checks, con_synth}
use Rattle.lf_signature.specs.Constants.{declared, the_rules, is_word, calc_type, fact_type, op_in, op_count_of}
use Rattle.lf_signature.specs.Laws.Booleans.{and_of}
use Rattle.word_ops.proofs.EachOp.{op_of-op_number}
use Rattle.lf_terms.specs.Plain.{plain_subst, plain_spot}
use Rattle.lf_terms.proofs.Shifts.{spot-own, spot-under, spot-over, raise-under}
use Rattle.formula_tree.specs.Formulas.{Exp, EVar, Form, FRel, FImp, FAll, FAllm, shift_form}
use Rattle.formula_tree.specs.Variables.{PExp, subst_var}
use Rattle.lf_terms.specs.Encoding.{exp_encoding, form_encoding}
use Rattle.prover_class.proofs.Scope.{OverExp, Over, nesting, has_operator}
use Rattle.prover_class.proofs.Signatures.{operator-below}
use Rattle.lf_terms.proofs.Encoded.{shift-exp_encoding}
use Rattle.prover_class.proofs.Encoded.{shift-form_encoding, plain_subst-shift, over_exp_wider, wider_one, subst-form_encoding, splits_first}
use Rattle.lf_terms.specs.ProofTerms.{AExp, AForm, AAll, AAllm, imp_i, all_i, all_e, allm_i, eq_refl, move, up, swap, calc, fact}
use Rattle.prover_class.proofs.Proved.{Proves}
use Rattle.prover_class.proofs.Uses.{rule_proves}
use Rattle.lf_signature.specs.declared.editions.WordSignature.{WordSignature}
use Rattle.lf_signature.specs.declared.numbers.TheConstants.{ALLM_I, ALL_E, ALL_I, EQ_REFL, EQ_SUB, IMP_I}

raise-step : (c n : ℕ) → c ≤ n → raise 1 c n ≡ suc n
raise-step zero n h = one-add n
raise-step (suc c) zero h = absurd (omega (arith, h))
raise-step (suc c) (suc n) h = ap suc (raise-step c n (omega (arith, h)))

own_var : (c n : ℕ) → plain_spot (Var c) (spot c (raise 1 (suc c) n)) ≡ Var n
own_var c n = go (nat_lt n c) refl
  where
    past : (b : Bool) → nat_lt c n ≡ b → c ≤ n → plain_spot (Var c) (spot c (raise 1 (suc c) n)) ≡ Var n
    past true g h = ap (λ z. plain_spot (Var c) (spot c z)) (raise-step (suc c) n (omega (arith, ltb-true c n g))) ∙ ap (plain_spot (Var c)) (spot-over c n h)
    past false g h =
        let e : n ≡ c = omega (arith, h, ltb-false c n g) in
        ap (λ z. plain_spot (Var c) (spot c z)) (raise-under 1 (suc c) n (omega (arith, e)) ∙ e) ∙ ap (plain_spot (Var c)) (spot-own c) ∙ ap Var (sym e)

    go : (b : Bool) → nat_lt n c ≡ b → plain_spot (Var c) (spot c (raise 1 (suc c) n)) ≡ Var n
    go true g =
        let h = ltb-true n c g in
        ap (λ z. plain_spot (Var c) (spot c z)) (raise-under 1 (suc c) n (omega (arith, h))) ∙ ap (plain_spot (Var c)) (spot-under c n h)
    go false g = past (nat_lt c n) refl (ltb-false n c g)

-- a formula over a word, at the nearest word
pub plain_subst-own : (t : Tree) (c : ℕ) → plain_subst (Var c) c (shift 1 (suc c) t) ≡ t
plain_subst-own (Var n) c = own_var c n
plain_subst-own (Con d) c = refl
plain_subst-own (App f a) c = λ i. App (plain_subst-own f c i) (plain_subst-own a c i)
plain_subst-own (Lam b) c = (λ i. Lam (plain_subst (Var (one-add c i)) (suc c) (shift 1 (suc (suc c)) b))) ∙ ap Lam (plain_subst-own b (suc c))
plain_subst-own (Fam a) c = refl
plain_subst-own (TApp f a) c = λ i. TApp (plain_subst-own f c i) (plain_subst-own a c i)
plain_subst-own (Pi a b) c = λ i. Pi (plain_subst-own a c i) (((λ j. plain_subst (Var (one-add c j)) (suc c) (shift 1 (suc (suc c)) b)) ∙ plain_subst-own b (suc c)) i)

pub plain_subst-up : (a : Exp) (m : Tree) → plain_subst m 0 (exp_encoding (up a)) ≡ exp_encoding a
plain_subst-up a m = ap (plain_subst m 0) (sym (shift-exp_encoding a 1 0)) ∙ plain_subst-shift (exp_encoding a) m 0

pub over-up : (sig : WordSignature) (a : Exp) (ctx : List Tree) (t : Tree) → OverExp sig a ctx → OverExp sig (up a) (t ∷ ctx)
over-up sig a ctx t h = over_exp_wider sig a 0 ctx (t ∷ ctx) (wider_one ctx t) h

pub rel_of-number : (r : Rel) → rel_of (rel_number r) ≡ Some r
rel_of-number Eq = refl
rel_of-number Ult = refl
rel_of-number Ule = refl
rel_of-number Slt = refl
rel_of-number Sle = refl

word_is : (v : ℕ) → v < 2 ^ 64 → is_word v ≡ true
word_is v h = lt-ltb v (2 ^ 64) h

declared-calc : (sig : WordSignature) (o : Op) → has_operator sig o ≡ true → (v w : ℕ) → v < 2 ^ 64 → w < 2 ^ 64 → declared sig (Calc (op_number o) v w) ≡ Some (calc_type o v w)
declared-calc sig o has v w h g =
    let below = lt-ltb (op_number o) (op_count_of sig) (operator-below sig o has) in
    let named : op_in sig (op_number o) ≡ Some o =
    ap (λ b. cond b (op_of (op_number o)) None) below ∙ op_of-op_number o in
    ap (λ z. bind z (λ p. cond (is_word v && is_word w) (Some (calc_type p v w)) None)) named
    ∙ ap (λ b. cond b (Some (calc_type o v w)) None) (and_of _ _ (word_is v h) (word_is w g))

declared-fact : (sig : WordSignature) (r : Rel) (v w : ℕ) → v < 2 ^ 64 → w < 2 ^ 64 → test_of r v w ≡ true → declared sig (Fact (rel_number r) v w) ≡ Some (fact_type r v w)
declared-fact sig r v w h g t =
    ap (λ z. bind z (λ p. cond ((is_word v && is_word w) && test_of p v w) (Some (fact_type p v w)) None)) (rel_of-number r)
    ∙ ap (λ b. cond b (Some (fact_type r v w)) None) (and_of _ _ (and_of _ _ (word_is v h) (word_is w g)) t)

pub calc_proves : (sig : WordSignature) (bound : ℕ) (ctx : List Tree) (o : Op) → has_operator sig o ≡ true → (v w : ℕ) → v < 2 ^ 64 → w < 2 ^ 64 → Proves sig bound ctx (calc_type o v w) (calc o v w)
calc_proves sig bound ctx o has v w h g = record { checks = atom_checks (con_synth (declared-calc sig o has v w h g)) tt; room = omega arith }

pub fact_proves : (sig : WordSignature) (bound : ℕ) (ctx : List Tree) (r : Rel) (v w : ℕ) → v < 2 ^ 64 → w < 2 ^ 64 → test_of r v w ≡ true → Proves sig bound ctx (fact_type r v w) (fact r v w)
fact_proves sig bound ctx r v w h g t = record { checks = atom_checks (con_synth (declared-fact sig r v w h g t)) tt; room = omega arith }

module _ (sig : WordSignature) (e d : ℕ) (room : e + (d + d + d) + 16 ≤ 2 ^ 32) where
  pub imp_i_proves : (ctx : List Tree) → length ctx ≤ e → (A B : Form) → Over sig A ctx → nesting A ≤ d → Over sig B ctx → nesting B ≤ d → (p : Tree) →
      Proves sig (e + d) (pf (form_encoding A) ∷ ctx) (pf (form_encoding (shift_form 1 0 B))) p → Proves sig (e + d) ctx (pf (form_encoding (FImp A B))) (imp_i A B p)
  unfolding the_rules
  imp_i_proves ctx w A B oA nA oB nB p h =
      rule_proves sig e d room IMP_I _ refl ctx w (AForm A ∷ AForm B ∷ []) (Lam p ∷ []) ((oA, nA), ((oB, nB), tt))
      (record { checks = lam_checks (subst (λ z. Checks (declared sig) (pf (form_encoding A) ∷ ctx) p (pf z)) (sym (shift-form_encoding B 1 0)) h.checks); room = h.room }, tt)

  pub all_i_proves : (ctx : List Tree) → length ctx ≤ e → (A : Form) → Over sig A (exp ∷ ctx) → nesting A < d → (p : Tree) →
      Proves sig (e + d) (exp ∷ ctx) (pf (form_encoding A)) p → Proves sig (e + d) ctx (pf (form_encoding (FAll A))) (all_i A p)
  unfolding the_rules
  all_i_proves ctx w A oA nA p h =
      rule_proves sig e d room ALL_I _ refl ctx w (AAll A ∷ []) (Lam p ∷ []) ((oA, nA), tt)
      (record { checks = lam_checks (subst (λ z. Checks (declared sig) (exp ∷ ctx) p (pf z)) (sym (plain_subst-own (form_encoding A) 0)) h.checks); room = h.room }, tt)

  pub allm_i_proves : (ctx : List Tree) → length ctx ≤ e → (A : Form) → Over sig A (mem ∷ ctx) → nesting A < d → (p : Tree) →
      Proves sig (e + d) (mem ∷ ctx) (pf (form_encoding A)) p → Proves sig (e + d) ctx (pf (form_encoding (FAllm A))) (allm_i A p)
  unfolding the_rules
  allm_i_proves ctx w A oA nA p h =
      rule_proves sig e d room ALLM_I _ refl ctx w (AAllm A ∷ []) (Lam p ∷ []) ((oA, nA), tt)
      (record { checks = lam_checks (subst (λ z. Checks (declared sig) (mem ∷ ctx) p (pf z)) (sym (plain_subst-own (form_encoding A) 0)) h.checks); room = h.room }, tt)

  pub all_e_proves : (ctx : List Tree) → length ctx ≤ e → (A : Form) (a : Exp) → Over sig A (exp ∷ ctx) → nesting A < d → OverExp sig a ctx → (p : Tree) →
      Proves sig (e + d) ctx (pf (form_encoding (FAll A))) p → Proves sig (e + d) ctx (pf (form_encoding (subst_var A 0 (PExp a)))) (all_e A a p)
  unfolding the_rules
  all_e_proves ctx w A a oA nA oa p h =
      subst (λ z. Proves sig (e + d) ctx (pf z) (all_e A a p)) (subst-form_encoding sig A 0 a ctx (exp ∷ ctx) (splits_first ctx) oA)
      (rule_proves sig e d room ALL_E _ refl ctx w (AAll A ∷ AExp a ∷ []) (p ∷ []) ((oA, nA), (oa, tt))
      (h, tt))

  pub move_proves : (ctx : List Tree) → length ctx ≤ e → (A : Form) (a b : Exp) → Over sig A (exp ∷ ctx) → nesting A < d → OverExp sig a ctx → OverExp sig b ctx → (from to p q : Tree) →
      plain_subst (exp_encoding a) 0 (form_encoding A) ≡ from → plain_subst (exp_encoding b) 0 (form_encoding A) ≡ to →
      Proves sig (e + d) ctx (pf (rel_term Eq (exp_encoding a) (exp_encoding b))) p → Proves sig (e + d) ctx (pf from) q → Proves sig (e + d) ctx (pf to) (move A a b p q)
  unfolding the_rules
  move_proves ctx w A a b oA nA oa ob from to p q ef et hp hq =
      subst (λ z. Proves sig (e + d) ctx (pf z) (move A a b p q)) et
      (rule_proves sig e d room EQ_SUB _ refl ctx w (AAll A ∷ AExp a ∷ AExp b ∷ []) (p ∷ q ∷ []) ((oA, nA), (oa, (ob, tt)))
      (hp, (subst (λ z. Proves sig (e + d) ctx (pf z) q) (sym ef) hq, tt)))

  pub refl_proves : (ctx : List Tree) → length ctx ≤ e → (a : Exp) → OverExp sig a ctx → Proves sig (e + d) ctx (pf (rel_term Eq (exp_encoding a) (exp_encoding a))) (eq_refl a)
  unfolding the_rules
  refl_proves ctx w a oa = rule_proves sig e d room EQ_REFL _ refl ctx w (AExp a ∷ []) [] (oa, tt) tt

  pub swap_proves : 0 < d → (ctx : List Tree) → length ctx ≤ e → (a b : Exp) → OverExp sig a ctx → OverExp sig b ctx → (p : Tree) →
      Proves sig (e + d) ctx (pf (rel_term Eq (exp_encoding a) (exp_encoding b))) p → Proves sig (e + d) ctx (pf (rel_term Eq (exp_encoding b) (exp_encoding a))) (swap a b p)
  swap_proves n ctx w a b oa ob p h =
      move_proves ctx w (FRel Eq (EVar 0) (up a)) a b (refl, over-up sig a ctx exp oa) n oa ob (rel_term Eq (exp_encoding a) (exp_encoding a)) (rel_term Eq (exp_encoding b) (exp_encoding a)) p (eq_refl a)
      (ap (rel_term Eq (exp_encoding a)) (plain_subst-up a (exp_encoding a))) (ap (rel_term Eq (exp_encoding b)) (plain_subst-up a (exp_encoding b))) h (refl_proves ctx w a oa)
