-- Normal forms are equal to what they are of.
use Rattle.std.proofs.Common.{◌≡◌, ℕ, zero, suc, ◌+◌, ◌^◌, ◌<◌, ◌≤◌, Bool, true, false, cond, nat_lt, Some, List, [], ◌∷◌, ◌⊎◌, inl, inr, length, refl, sym, ◌∙◌, ap, subst, arith}
use Rattle.term_table.specs.Tree.{Tree}
use Rattle.term_table.proofs.Equality.{tree_eq-true}
use Rattle.word_ops.specs.declared.Op.{Op}
use Rattle.word_ops.specs.declared.Op.TheVariants.{Add, Sub, Band, Bis, Sll, Xor, Bic, S4add, S8add}
use Rattle.word_ops.specs.declared.Rel.{Rel}
use Rattle.word_ops.specs.declared.Rel.TheVariants.{Eq, Ult, Ule, Slt, Sle}
use Rattle.word_ops.specs.Words.{word_of, test_of}
use Rattle.word_ops.proofs.EachOp.{word_of-below}
use Rattle.lf_signature.specs.Terms.{exp, pf, lit, op_term, rel_term}
use Rattle.lf_signature.specs.Constants.{the_rules}
use Rattle.lf_terms.proofs.Shifts.{spot-raise}
use Rattle.formula_tree.specs.Formulas.{Exp, EVar, ELit, EOp, ESel, MemExp, MVar, MUpd, Form, FRel, shift_exp, shift_mem, EReg, ELeft, MMem}
use Rattle.formula_tree.specs.Variables.{PExp, exp_at, mem_at, subst_var_exp, subst_var_mem}
use Rattle.lf_terms.specs.Encoding.{exp_encoding, form_encoding}
use Rattle.prover_class.proofs.Scope.{OverExp, Over, has_later, has_operator}
use Rattle.prover_class.proofs.Signatures.{later_rule}
use Rattle.prover_class.proofs.Encoded.{subst-exp_encoding, splits_first, over_put_exp}
use Rattle.lf_terms.specs.ProofTerms.{AExp, word_rule, move, swap, up, calc, fact, eq_refl}
use Rattle.prover_class.specs.Hypotheses.{Hyps, same_exp}
use Rattle.prover_class.specs.NormalForms.{Rewriting, whole_step, summand_key, swapped, turned, rewrite_defined, rewrite_at, in_left, in_right, first_nonempty, redex, Rewritten, rewritten, after_steps, continue_with, normalized, leaves, normal_form, equal_proof, words_proof, held_of_words, equal_forms}
use Rattle.prover_class.specs.Bounds.{max_word}
use Rattle.prover_class.specs.Goals.{by_normal}
use Rattle.prover_class.proofs.Proved.{Proves}
use Rattle.prover_class.proofs.Uses.{rule_proves}
use Rattle.prover_class.proofs.Named.{move_proves, swap_proves, calc_proves, fact_proves, refl_proves, plain_subst-up, over-up}
use Rattle.prover_class.proofs.Shapes.{else_some}
use Rattle.prover_class.proofs.Goals.{if_some, move_eq}
use Rattle.lf_signature.specs.declared.editions.WordSignature.{WordSignature}
use Rattle.lf_signature.specs.declared.numbers.TheConstants.{ADD_ASSOC, ADD_COMM, ADD_ZERO, BIC_DEF, BIS_ZERO, BIS_ZERO_L, S4_DEF, S8_DEF, SUB_NEG, XOR_SELF}

mutual
  subst-up_exp : (b x : Exp) (c : ℕ) → subst_var_exp (shift_exp 1 c b) c (PExp x) ≡ b
  subst-up_exp (EReg r) x c = refl
  subst-up_exp ELeft x c = refl
  subst-up_exp (EVar n) x c = ap (exp_at (PExp x)) (spot-raise c n)
  subst-up_exp (ELit v) x c = refl
  subst-up_exp (EOp o a b) x c = λ i. EOp o (subst-up_exp a x c i) (subst-up_exp b x c i)
  subst-up_exp (ESel m a) x c = λ i. ESel (subst-up_mem m x c i) (subst-up_exp a x c i)

  subst-up_mem : (m : MemExp) (x : Exp) (c : ℕ) → subst_var_mem (shift_mem 1 c m) c (PExp x) ≡ m
  subst-up_mem MMem x c = refl
  subst-up_mem (MVar n) x c = ap (mem_at (PExp x)) (spot-raise c n)
  subst-up_mem (MUpd m a v) x c = λ i. MUpd (subst-up_mem m x c i) (subst-up_exp a x c i) (subst-up_exp v x c i)

module _ (sig : WordSignature) (e d : ℕ) (room : e + (d + d + d) + 16 ≤ 2 ^ 32) (some : 0 < d) (k : ℕ) (ctx : List Tree) (w : length ctx + k ≤ e) where
  abbrev wide : length ctx ≤ e
  wide = omega (arith, w)

  abbrev Eqs : Exp → Exp → Tree → Type 0
  Eqs a b p = Proves sig (e + d) ctx (pf (form_encoding (FRel Eq a b))) p

  record IsStep (s : Rewriting) : Type 0 where
    into : OverExp sig s.into (exp ∷ ctx)
    from : OverExp sig s.from ctx
    to : OverExp sig s.to ctx
    proof : Eqs s.from s.to s.proof

  -- the steps lead on from a
  abbrev AreSteps : Exp → List Rewriting → Type 0
  AreSteps a [] = Unit {0}
  AreSteps a (s ∷ l) = IsStep s × (subst_var_exp s.into 0 (PExp s.from) ≡ a) × AreSteps (subst_var_exp s.into 0 (PExp s.to)) l

  whole_step_are : (f t : Exp) (p : Tree) → OverExp sig f ctx → OverExp sig t ctx → Eqs f t p → AreSteps f (whole_step f t p)
  whole_step_are f t p of ot h = (record { into = refl; from = of; to = ot; proof = h }, refl, tt)

  in_left_are : (o : Op) (a b : Exp) → has_operator sig o ≡ true → OverExp sig b ctx → (l : List Rewriting) → AreSteps a l → AreSteps (EOp o a b) (in_left o b l)
  in_left_are o a b has ob [] h = tt
  in_left_are o a b has ob (s ∷ l) h = (
    record { into = (h.0.into, over-up sig b ctx exp ob, has); from = h.0.from; to = h.0.to; proof = h.0.proof },
    λ i. EOp o (h.1 i) (subst-up_exp b s.from 0 i),
    subst (λ z. AreSteps (EOp o (subst_var_exp s.into 0 (PExp s.to)) z) (in_left o b l)) (sym (subst-up_exp b s.to 0)) (in_left_are o (subst_var_exp s.into 0 (PExp s.to)) b has ob l h.2),
  )

  in_right_are : (o : Op) (a b : Exp) → has_operator sig o ≡ true → OverExp sig a ctx → (l : List Rewriting) → AreSteps b l → AreSteps (EOp o a b) (in_right o a l)
  in_right_are o a b has oa [] h = tt
  in_right_are o a b has oa (s ∷ l) h = (
    record { into = (over-up sig a ctx exp oa, h.0.into, has); from = h.0.from; to = h.0.to; proof = h.0.proof },
    λ i. EOp o (subst-up_exp a s.from 0 i) (h.1 i),
    subst (λ z. AreSteps (EOp o z (subst_var_exp s.into 0 (PExp s.to))) (in_right o a l)) (sym (subst-up_exp a s.to 0)) (in_right_are o a (subst_var_exp s.into 0 (PExp s.to)) has oa l h.2),
  )

  first_nonempty_are : (a : Exp) (l m : List Rewriting) → AreSteps a l → AreSteps a m → AreSteps a (first_nonempty l m)
  first_nonempty_are a [] m h g = g
  first_nonempty_are a (s ∷ l) m h g = h

  if_are : (a : Exp) (t : Bool) (l m : List Rewriting) → AreSteps a l → AreSteps a m → AreSteps a (cond t l m)
  if_are a true l m h g = h
  if_are a false l m h g = g

  comm : (a b : Exp) → OverExp sig a ctx → OverExp sig b ctx → Eqs (EOp Add a b) (EOp Add b a) (word_rule ADD_COMM (a ∷ b ∷ []) [])
  unfolding the_rules
  comm a b oa ob = rule_proves sig e d room ADD_COMM _ refl ctx wide (AExp a ∷ AExp b ∷ []) [] (oa, (ob, tt)) tt

  assoc : (a b c : Exp) → OverExp sig a ctx → OverExp sig b ctx → OverExp sig c ctx → Eqs (EOp Add (EOp Add a b) c) (EOp Add a (EOp Add b c)) (word_rule ADD_ASSOC (a ∷ b ∷ c ∷ []) [])
  unfolding the_rules
  assoc a b c oa ob oc = rule_proves sig e d room ADD_ASSOC _ refl ctx wide (AExp a ∷ AExp b ∷ AExp c ∷ []) [] (oa, (ob, (oc, tt))) tt

  negated : (a : Exp) (v : ℕ) → OverExp sig a ctx → OverExp sig (ELit v) ctx → Eqs (EOp Sub a (ELit v)) (EOp Add a (EOp Sub (ELit 0) (ELit v))) (word_rule SUB_NEG (a ∷ ELit v ∷ []) [])
  unfolding the_rules
  negated a v oa ov = rule_proves sig e d room SUB_NEG _ refl ctx wide (AExp a ∷ AExp (ELit v) ∷ []) [] (oa, (ov, tt)) tt

  add_none : (a : Exp) → OverExp sig a ctx → Eqs (EOp Add a (ELit 0)) a (word_rule ADD_ZERO (a ∷ []) [])
  unfolding the_rules
  add_none a oa = rule_proves sig e d room ADD_ZERO _ refl ctx wide (AExp a ∷ []) [] (oa, tt) tt

  bis_none : (a : Exp) → OverExp sig a ctx → Eqs (EOp Bis a (ELit 0)) a (word_rule BIS_ZERO (a ∷ []) [])
  unfolding the_rules
  bis_none a oa = rule_proves sig e d room BIS_ZERO _ refl ctx wide (AExp a ∷ []) [] (oa, tt) tt

  none_bis : (a : Exp) → OverExp sig a ctx → Eqs (EOp Bis (ELit 0) a) a (word_rule BIS_ZERO_L (a ∷ []) [])
  unfolding the_rules
  none_bis a oa = rule_proves sig e d room BIS_ZERO_L _ refl ctx wide (AExp a ∷ []) [] (oa, tt) tt

  swapped_are : (out : ℕ) (a b : Exp) → OverExp sig a ctx → OverExp sig b ctx → AreSteps (EOp Add a b) (swapped out a b)
  swapped_are out a b oa ob =
      if_are (EOp Add a b) (nat_lt (summand_key out b) (summand_key out a)) (whole_step (EOp Add a b) (EOp Add b a) (word_rule ADD_COMM (a ∷ b ∷ []) [])) []
      (whole_step_are (EOp Add a b) (EOp Add b a) (word_rule ADD_COMM (a ∷ b ∷ []) []) (oa, ob, refl) (ob, oa, refl) (comm a b oa ob)) tt

  turned_are : (a b c : Exp) → OverExp sig a ctx → OverExp sig b ctx → OverExp sig c ctx → AreSteps (EOp Add a (EOp Add b c)) (turned a b c)
  turned_are a b c oa ob oc = (
    record {
      into = refl;
      from = (oa, (ob, oc, refl), refl);
      to = ((oa, ob, refl), oc, refl);
      proof = swap_proves sig e d room some ctx wide (EOp Add (EOp Add a b) c) (EOp Add a (EOp Add b c)) ((oa, ob, refl), oc, refl) (oa, (ob, oc, refl), refl) (word_rule ADD_ASSOC (a ∷ b ∷ c ∷ []) []) (assoc a b c oa ob oc);
    },
    refl,
    (
      record { into = (refl, over-up sig c ctx exp oc, refl); from = (oa, ob, refl); to = (ob, oa, refl); proof = comm a b oa ob },
      (λ i. EOp Add (EOp Add a b) (subst-up_exp c (EOp Add a b) 0 i)),
      (record { into = refl; from = ((ob, oa, refl), oc, refl); to = (ob, (oa, oc, refl), refl); proof = assoc b a c ob oa oc }, (λ i. EOp Add (EOp Add b a) (sym (subst-up_exp c (EOp Add b a) 0) i)), tt),
    ),
  )

  -- the operators that others define
  four_times : (a b : Exp) → has_later sig ≡ true → OverExp sig a ctx → OverExp sig b ctx →
      Eqs (EOp S4add a b) (EOp Add (EOp Sll a (ELit 2)) b) (word_rule S4_DEF (a ∷ b ∷ []) [])
  unfolding the_rules
  four_times a b has oa ob =
      rule_proves sig e d room S4_DEF _ (later_rule sig has S4_DEF refl) ctx wide (AExp a ∷ AExp b ∷ []) []
      (oa, (ob, tt)) tt

  eight_times : (a b : Exp) → has_later sig ≡ true → OverExp sig a ctx → OverExp sig b ctx →
      Eqs (EOp S8add a b) (EOp Add (EOp Sll a (ELit 3)) b) (word_rule S8_DEF (a ∷ b ∷ []) [])
  unfolding the_rules
  eight_times a b has oa ob =
      rule_proves sig e d room S8_DEF _ (later_rule sig has S8_DEF refl) ctx wide (AExp a ∷ AExp b ∷ []) []
      (oa, (ob, tt)) tt

  complement : (a b : Exp) → has_later sig ≡ true → OverExp sig a ctx → OverExp sig b ctx →
      Eqs (EOp Bic a b) (EOp Band a (EOp Xor b (ELit max_word))) (word_rule BIC_DEF (a ∷ b ∷ []) [])
  unfolding the_rules
  complement a b has oa ob =
      rule_proves sig e d room BIC_DEF _ (later_rule sig has BIC_DEF refl) ctx wide (AExp a ∷ AExp b ∷ []) []
      (oa, (ob, tt)) tt

  itself : (a : Exp) → has_later sig ≡ true → OverExp sig a ctx →
      Eqs (EOp Xor a a) (ELit 0) (word_rule XOR_SELF (a ∷ []) [])
  unfolding the_rules
  itself a has oa =
      rule_proves sig e d room XOR_SELF _ (later_rule sig has XOR_SELF refl) ctx wide (AExp a ∷ []) [] (oa, tt) tt

  -- an exclusive or of two expressions that are one
  cancelled : (a b : Exp) → has_later sig ≡ true → OverExp sig a ctx → same_exp a b ≡ true →
      Eqs (EOp Xor a b) (ELit 0) (word_rule XOR_SELF (a ∷ []) [])
  cancelled a b has oa t =
      subst (λ z. Proves sig (e + d) ctx
      (pf (rel_term Eq (op_term Xor (exp_encoding a) z) (lit 0))) (word_rule XOR_SELF (a ∷ []) []))
      (tree_eq-true (exp_encoding a) (exp_encoding b) t) (itself a has oa)

  cancelled_are : (a b : Exp) (t : Bool) → same_exp a b ≡ t → has_later sig ≡ true →
      OverExp sig a ctx → OverExp sig b ctx → AreSteps (EOp Xor a b)
      (cond t (whole_step (EOp Xor a b) (ELit 0) (word_rule XOR_SELF (a ∷ []) [])) [])
  cancelled_are a b true q has oa ob =
      let none : 0 < 2 ^ 64 = omega arith in
      whole_step_are (EOp Xor a b) (ELit 0) (word_rule XOR_SELF (a ∷ []) []) (oa, ob, has) none
      (cancelled a b has oa q)
  cancelled_are a b false q has oa ob = tt

  defined_are : (o : Op) (a b : Exp) → has_operator sig o ≡ true → OverExp sig a ctx →
      OverExp sig b ctx → AreSteps (EOp o a b) (rewrite_defined o a b)
  defined_are S4add a b has oa ob =
      let two : 2 < 2 ^ 64 = omega arith in
      whole_step_are (EOp S4add a b) (EOp Add (EOp Sll a (ELit 2)) b)
      (word_rule S4_DEF (a ∷ b ∷ []) []) (oa, ob, has) ((oa, two, refl), ob, refl)
      (four_times a b has oa ob)
  defined_are S8add a b has oa ob =
      let three : 3 < 2 ^ 64 = omega arith in
      whole_step_are (EOp S8add a b) (EOp Add (EOp Sll a (ELit 3)) b)
      (word_rule S8_DEF (a ∷ b ∷ []) []) (oa, ob, has) ((oa, three, refl), ob, refl)
      (eight_times a b has oa ob)
  defined_are Bic a b has oa ob =
      let most : max_word < 2 ^ 64 = omega arith in
      whole_step_are (EOp Bic a b) (EOp Band a (EOp Xor b (ELit max_word)))
      (word_rule BIC_DEF (a ∷ b ∷ []) []) (oa, ob, has) (oa, (ob, most, has), refl)
      (complement a b has oa ob)
  defined_are Xor a b has oa ob = cancelled_are a b (same_exp a b) refl has oa ob
  defined_are o a b has oa ob = tt

  rewrite_at_are : (out : ℕ) (o : Op) (a b : Exp) → has_operator sig o ≡ true → OverExp sig a ctx → OverExp sig b ctx → AreSteps (EOp o a b) (rewrite_at out o a b)
  rewrite_at_are out o (ELit v) (ELit u) has oa ob =
      whole_step_are (EOp o (ELit v) (ELit u)) (ELit (word_of o v u)) (calc o v u) (oa, ob, has) (word_of-below o v u oa ob) (calc_proves sig (e + d) ctx o has v u oa ob)
  rewrite_at_are out Sub a (ELit u) has oa ob =
      let none : 0 < 2 ^ 64 = omega arith in
      whole_step_are (EOp Sub a (ELit u)) (EOp Add a (EOp Sub (ELit 0) (ELit u))) (word_rule SUB_NEG (a ∷ ELit u ∷ []) []) (oa, ob, refl) (oa, (none, ob, refl), refl) (negated a u oa ob)
  rewrite_at_are out Add a (ELit zero) has oa ob = whole_step_are (EOp Add a (ELit 0)) a (word_rule ADD_ZERO (a ∷ []) []) (oa, ob, refl) oa (add_none a oa)
  rewrite_at_are out Bis a (ELit zero) has oa ob = whole_step_are (EOp Bis a (ELit 0)) a (word_rule BIS_ZERO (a ∷ []) []) (oa, ob, refl) oa (bis_none a oa)
  rewrite_at_are out Bis (ELit zero) a has oa ob = whole_step_are (EOp Bis (ELit 0) a) a (word_rule BIS_ZERO_L (a ∷ []) []) (oa, ob, refl) ob (none_bis a ob)
  rewrite_at_are out Add (EOp Add a b) c has oa ob =
      whole_step_are (EOp Add (EOp Add a b) c) (EOp Add a (EOp Add b c)) (word_rule ADD_ASSOC (a ∷ b ∷ c ∷ []) []) (oa, ob, refl) (oa.0, (oa.1, ob, refl), refl) (assoc a b c oa.0 oa.1 ob)
  rewrite_at_are out Add a (EOp Add b c) has oa ob =
      if_are (EOp Add a (EOp Add b c)) (nat_lt (summand_key out b) (summand_key out a)) (turned a b c) (swapped out a (EOp Add b c)) (turned_are a b c oa ob.0 ob.1) (swapped_are out a (EOp Add b c) oa ob)
  rewrite_at_are out Add a b has oa ob = swapped_are out a b oa ob
  rewrite_at_are out o a b has oa ob = defined_are o a b has oa ob

  redex_are : (out : ℕ) (a : Exp) → OverExp sig a ctx → AreSteps a (redex out a)
  redex_are out (EOp o a b) h =
      first_nonempty_are (EOp o a b) (in_left o b (redex out a)) (first_nonempty (in_right o a (redex out b)) (rewrite_at out o a b)) (in_left_are o a b h.2 h.1 (redex out a) (redex_are out a h.0))
      (first_nonempty_are (EOp o a b) (in_right o a (redex out b)) (rewrite_at out o a b) (in_right_are o a b h.2 h.0 (redex out b) (redex_are out b h.1)) (rewrite_at_are out o a b h.2 h.0 h.1))
  redex_are out (EReg r) h = elim h [ ]
  redex_are out ELeft h = elim h [ ]
  redex_are out (EVar n) h = tt
  redex_are out (ELit v) h = tt
  redex_are out (ESel m a) h = tt

  pub record IsEqual (a : Exp) (r : Rewritten) : Type 0 where
    pub over : OverExp sig r.now ctx
    pub proved : Eqs a r.now r.proof

  after_steps_is : (a : Exp) → OverExp sig a ctx → (l : List Rewriting) (r : Rewritten) → AreSteps r.now l → IsEqual a r → IsEqual a (after_steps a l r)
  after_steps_is a oa [] r h g = g
  after_steps_is a oa (s ∷ l) r h g =
      let into = h.0.into in
      let next = subst_var_exp s.into 0 (PExp s.to) in
      let q : Eqs a next (move (FRel Eq (up a) s.into) s.from s.to s.proof r.proof) =
      move_eq sig e d room some k ctx w a s.into s.from s.to oa into h.0.from h.0.to (exp_encoding r.now) (exp_encoding next) (subst-exp_encoding sig s.into 0 s.from ctx (exp ∷ ctx) (splits_first ctx) into ∙ ap exp_encoding h.1)
      (subst-exp_encoding sig s.into 0 s.to ctx (exp ∷ ctx) (splits_first ctx) into) s.proof r.proof h.0.proof g.proved in
      after_steps_is a oa l (rewritten next (move (FRel Eq (up a) s.into) s.from s.to s.proof r.proof)) h.2 (record { over = over_put_exp sig s.into 0 s.to ctx (exp ∷ ctx) (splits_first ctx) h.0.to into; proved = q })

  continue_is : (again : Rewritten → Rewritten) (a : Exp) → OverExp sig a ctx → ((r : Rewritten) → IsEqual a r → IsEqual a (again r)) → (r : Rewritten) (l : List Rewriting) → AreSteps r.now l → IsEqual a r → IsEqual a (continue_with again a r l)
  continue_is again a oa f r [] h g = g
  continue_is again a oa f r (s ∷ l) h g = f (after_steps a (s ∷ l) r) (after_steps_is a oa (s ∷ l) r h g)

  normalized_is : (out n : ℕ) (a : Exp) → OverExp sig a ctx → (r : Rewritten) → IsEqual a r → IsEqual a (normalized out n a r)
  unfolding normalized
  normalized_is out zero a oa r g = g
  normalized_is out (suc n) a oa r g = continue_is (normalized out n a) a oa (λ r g. normalized_is out n a oa r g) r (redex out r.now) (redex_are out r.now g.over) g

  equal_if : (a : Exp) (t : Bool) (r s : Rewritten) → IsEqual a r → IsEqual a s → IsEqual a (cond t r s)
  equal_if a true r s h g = h
  equal_if a false r s h g = g

  pub normal_form_is : (out : ℕ) (a : Exp) → OverExp sig a ctx → IsEqual a (normal_form out a)
  normal_form_is out a oa =
      let start : IsEqual a (rewritten a (eq_refl a)) = record { over = oa; proved = refl_proves sig e d room ctx wide a oa } in
      equal_if a (nat_lt 64 (leaves a)) (rewritten a (eq_refl a)) (normalized out 65536 a (rewritten a (eq_refl a))) start (normalized_is out 65536 a oa (rewritten a (eq_refl a)) start)

  -- in [x](r a x), and in [x](r x b)
  move_rel_right : (r : Rel) (a x y : Exp) → OverExp sig a ctx → OverExp sig x ctx → OverExp sig y ctx → (p q : Tree) → Eqs x y p → Proves sig (e + d) ctx (pf (form_encoding (FRel r a x))) q →
      Proves sig (e + d) ctx (pf (form_encoding (FRel r a y))) (move (FRel r (up a) (EVar 0)) x y p q)
  move_rel_right r a x y oa ox oy p q hp hq =
      move_proves sig e d room ctx wide (FRel r (up a) (EVar 0)) x y (over-up sig a ctx exp oa, refl) some ox oy (rel_term r (exp_encoding a) (exp_encoding x)) (rel_term r (exp_encoding a) (exp_encoding y)) p q
      (ap (λ z. rel_term r z (exp_encoding x)) (plain_subst-up a (exp_encoding x))) (ap (λ z. rel_term r z (exp_encoding y)) (plain_subst-up a (exp_encoding y))) hp hq

  -- a literal isn't shifted
  move_rel_left : (r : Rel) (v : ℕ) (x y : Exp) → OverExp sig (ELit v) ctx → OverExp sig x ctx → OverExp sig y ctx → (p q : Tree) → Eqs x y p → Proves sig (e + d) ctx (pf (form_encoding (FRel r x (ELit v)))) q →
      Proves sig (e + d) ctx (pf (form_encoding (FRel r y (ELit v)))) (move (FRel r (EVar 0) (ELit v)) x y p q)
  move_rel_left r v x y ov ox oy p q hp hq =
      move_proves sig e d room ctx wide (FRel r (EVar 0) (ELit v)) x y (refl, ov) some ox oy (rel_term r (exp_encoding x) (lit v)) (rel_term r (exp_encoding y) (lit v)) p q refl refl hp hq

  pub equal_says : (a b : Exp) (p q : Rewritten) → OverExp sig a ctx → OverExp sig b ctx → IsEqual a p → IsEqual b q → exp_encoding p.now ≡ exp_encoding q.now → Eqs a b (equal_proof a b p q)
  equal_says a b p q oa ob hp hq s =
      move_rel_right Eq a q.now b oa hq.over ob (swap b q.now q.proof) p.proof (swap_proves sig e d room some ctx wide b q.now ob hq.over q.proof hq.proved)
      (subst (λ z. Proves sig (e + d) ctx (pf (rel_term Eq (exp_encoding a) z)) p.proof) s hp.proved)

  held_says : (r : Rel) (a b x y : Exp) (p q t : Tree) → OverExp sig a ctx → OverExp sig b ctx → OverExp sig x ctx → OverExp sig y ctx → Eqs a x p → Eqs b y q → held_of_words r a b x p y q ≡ Some t → Proves sig (e + d) ctx (pf (form_encoding (FRel r a b))) t
  held_says r a b (ELit v) (ELit u) p q t oa ob ox oy hp hq i =
      let c = if_some (test_of r v u) (words_proof r a b v u p q) t i in
      subst (λ z. Proves sig (e + d) ctx (pf (form_encoding (FRel r a b))) z) c.1
      (move_rel_right r a (ELit u) b oa oy ob (swap b (ELit u) q) (move (FRel r (EVar 0) (ELit u)) (ELit v) a (swap a (ELit v) p) (fact r v u)) (swap_proves sig e d room some ctx wide b (ELit u) ob oy q hq)
      (move_rel_left r u (ELit v) a oy ox oa (swap a (ELit v) p) (fact r v u) (swap_proves sig e d room some ctx wide a (ELit v) oa ox p hp) (fact_proves sig (e + d) ctx r v u ox oy c.0)))
  held_says r a b x y p q t oa ob ox oy hp hq i = cc

  equated_says : (r : Rel) (a b : Exp) (p q : Rewritten) (t : Tree) → OverExp sig a ctx → OverExp sig b ctx → IsEqual a p → IsEqual b q → equal_forms r a b p q ≡ Some t → Proves sig (e + d) ctx (pf (form_encoding (FRel r a b))) t
  equated_says Eq a b p q t oa ob hp hq i =
      let c = if_some (same_exp p.now q.now) (equal_proof a b p q) t i in
      subst (λ z. Eqs a b z) c.1 (equal_says a b p q oa ob hp hq (tree_eq-true (exp_encoding p.now) (exp_encoding q.now) c.0))
  equated_says Ult a b p q t oa ob hp hq i = cc
  equated_says Ule a b p q t oa ob hp hq i = cc
  equated_says Slt a b p q t oa ob hp hq i = cc
  equated_says Sle a b p q t oa ob hp hq i = cc

  rel_says : (out : ℕ) (r : Rel) (a b : Exp) (p q : Rewritten) (t : Tree) → OverExp sig a ctx → OverExp sig b ctx → IsEqual a p → IsEqual b q → (held_of_words r a b p.now p.proof q.now q.proof ≡ Some t) ⊎ (equal_forms r a b p q ≡ Some t) →
      Proves sig (e + d) ctx (pf (form_encoding (FRel r a b))) t
  rel_says out r a b p q t oa ob hp hq (inl i) = held_says r a b p.now q.now p.proof q.proof t oa ob hp.over hq.over hp.proved hq.proved i
  rel_says out r a b p q t oa ob hp hq (inr i) = equated_says r a b p q t oa ob hp hq i

  pub by_normal_says : (out : ℕ) (Γ : Hyps) (A : Form) (t : Tree) → Over sig A ctx → by_normal out Γ A ≡ Some t → Proves sig (e + d) ctx (pf (form_encoding A)) t
  by_normal_says out Γ (FRel r a b) t o i =
      rel_says out r a b (normal_form out a) (normal_form out b) t o.0 o.1 (normal_form_is out a o.0) (normal_form_is out b o.1)
      (else_some (held_of_words r a b (normal_form out a).now (normal_form out a).proof (normal_form out b).now (normal_form out b).proof) (equal_forms r a b (normal_form out a) (normal_form out b)) t i)
  by_normal_says out Γ _ t o i = cc
