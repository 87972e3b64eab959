-- Alignment and bounds: what is answered proves the goal.
use Rattle.std.proofs.Common.{◌≡◌, ℕ, zero, suc, ◌+◌, ◌%◌, ◌^◌, ◌<◌, ◌≤◌, Bool, true, false, cond, nat_lt, nat_le, ◌==◌, bit_and, Some, None, List, [], ◌∷◌, ◌⊎◌, inl, inr, length, refl, ◌∙◌, ap, subst, option_map, eqb-true, arith}
use Rattle.std.proofs.lemmas.Nat.{and_mask}
use Rattle.term_table.specs.Tree.{Tree}
use Rattle.term_table.proofs.Options.{bind_some, map_some, some_injective}
use Rattle.word_ops.specs.declared.Op.TheVariants.{Add, Band, Sll}
use Rattle.word_ops.specs.declared.Rel.TheVariants.{Eq, Ult, Ule}
use Rattle.lf_signature.specs.Terms.{exp, pf, lit, rel_term, op_term}
use Rattle.lf_signature.specs.Constants.{the_rules, size_of}
use Rattle.formula_tree.specs.Formulas.{Exp, EVar, ELit, EOp, Form, FRel}
use Rattle.lf_terms.specs.Encoding.{exp_encoding, form_encoding}
use Rattle.prover_class.proofs.Scope.{OverExp, Over}
use Rattle.lf_terms.specs.ProofTerms.{AExp, word_rule, move, up, calc, fact, eq_refl}
use Rattle.prover_class.specs.Hypotheses.{Hyps, find_hyp}
use Rattle.prover_class.specs.Bounds.{WordBound, upper_bound, lower_bound}
use Rattle.prover_class.specs.Goals.{first_of, aligned_form, masked, alignment_proof, by_aligned, ule_by, ult_by, by_bounds}
use Rattle.prover_class.proofs.Proved.{Proves, AreHyps}
use Rattle.prover_class.proofs.Uses.{rule_proves}
use Rattle.prover_class.proofs.Named.{move_proves, calc_proves, fact_proves, refl_proves, plain_subst-up, over-up}
use Rattle.prover_class.proofs.Hypotheses.{find_proves}
use Rattle.prover_class.proofs.Shapes.{else_some}
use Rattle.prover_class.proofs.Bounds.{IsUpper, IsLower, upper_bound_is, lower_bound_is}
use Rattle.lf_signature.specs.declared.editions.WordSignature.{WordSignature}
use Rattle.lf_signature.specs.declared.numbers.TheConstants.{ADD_AL, AND_ASSOC, AND_ZERO, LE_LT, LT_LE, SLL_AL, SUB_LO, ULE_TRANS, ULT_ULE}

pub if_some : {A : Type 0} (t : Bool) (a p : A) → cond t (Some a) None ≡ Some p → (t ≡ true) × (a ≡ p)
if_some true a p q = (refl, some_injective q)
if_some false a p q = cc

mask : (v : ℕ) → (v % 8 == 0) ≡ true → bit_and v 7 ≡ 0
mask v q = and_mask v 3 ∙ eqb-true (v % 8) 0 q

module _ (sig : WordSignature) (e d : ℕ) (room : e + (d + d + d) + 16 ≤ 2 ^ 32) (some : 0 < d) (k : ℕ) (ctx : List Tree) (w : length ctx + k ≤ e) where
  abbrev wide : length ctx ≤ e
  wide = omega (arith, w)

  abbrev Says : Form → Tree → Type 0
  Says A p = Proves sig (e + d) ctx (pf (form_encoding A)) p

  -- from (eq a x) to (eq a y) in a context c of the right side
  pub move_eq : (a c x y : Exp) → OverExp sig a ctx → OverExp sig c (exp ∷ ctx) → OverExp sig x ctx → OverExp sig y ctx → (from to : Tree) → Rattle.lf_terms.specs.Plain.plain_subst (exp_encoding x) 0 (exp_encoding c) ≡ from →
      Rattle.lf_terms.specs.Plain.plain_subst (exp_encoding y) 0 (exp_encoding c) ≡ to → (p q : Tree) → Says (FRel Eq x y) p → Proves sig (e + d) ctx (pf (rel_term Eq (exp_encoding a) from)) q →
      Proves sig (e + d) ctx (pf (rel_term Eq (exp_encoding a) to)) (move (FRel Eq (up a) c) x y p q)
  move_eq a c x y oa oc ox oy from to ef et p q hp hq =
      move_proves sig e d room ctx wide (FRel Eq (up a) c) x y (over-up sig a ctx exp oa, oc) some ox oy (rel_term Eq (exp_encoding a) from) (rel_term Eq (exp_encoding a) to) p q
      (λ i. rel_term Eq (plain_subst-up a (exp_encoding x) i) (ef i)) (λ i. rel_term Eq (plain_subst-up a (exp_encoding y) i) (et i)) hp hq

  calc_zero : (v : ℕ) → OverExp sig (ELit v) ctx → (v % 8 == 0) ≡ true → Says (FRel Eq (EOp Band (ELit v) (ELit 7)) (ELit 0)) (calc Band v 7)
  calc_zero v h q = subst (λ z. Proves sig (e + d) ctx (pf (rel_term Eq (op_term Band (lit v) (lit 7)) (lit z))) (calc Band v 7)) (mask v q) (calc_proves sig (e + d) ctx Band refl v 7 h (omega arith))

  masked_says : (a : Exp) (v : ℕ) → OverExp sig a ctx → OverExp sig (ELit v) ctx → (v % 8 == 0) ≡ true → Says (aligned_form (EOp Band a (ELit v))) (masked a v)
  unfolding the_rules
  masked_says a v oa ov q =
      let all = EOp Band (EOp Band a (ELit v)) (ELit 7) in
      let inner = EOp Band (ELit v) (ELit 7) in
      let seven : 7 < 2 ^ 64 = omega arith in
      let none : 0 < 2 ^ 64 = omega arith in
      let oall : OverExp sig all ctx = ((oa, ov, refl), seven, refl) in
      let first = move (FRel Eq (up all) (EVar 0)) all (EOp Band a inner) (word_rule AND_ASSOC (a ∷ ELit v ∷ ELit 7 ∷ []) []) (eq_refl all) in
      let second = move (FRel Eq (up all) (EOp Band (up a) (EVar 0))) inner (ELit 0) (calc Band v 7) first in
      let p1 : Says (FRel Eq all (EOp Band a inner)) first =
      move_eq all (EVar 0) all (EOp Band a inner) oall refl oall (oa, (ov, seven, refl), refl) (exp_encoding all) (exp_encoding (EOp Band a inner)) refl refl (word_rule AND_ASSOC (a ∷ ELit v ∷ ELit 7 ∷ []) []) (eq_refl all)
      (rule_proves sig e d room AND_ASSOC _ refl ctx wide (AExp a ∷ AExp (ELit v) ∷ AExp (ELit 7) ∷ []) [] (oa, (ov, (seven, tt))) tt) (refl_proves sig e d room ctx wide all oall) in
      let p2 : Says (FRel Eq all (EOp Band a (ELit 0))) second =
      move_eq all (EOp Band (up a) (EVar 0)) inner (ELit 0) oall (over-up sig a ctx exp oa, refl, refl) (ov, seven, refl) none (exp_encoding (EOp Band a inner)) (exp_encoding (EOp Band a (ELit 0)))
      (ap (λ z. op_term Band z (exp_encoding inner)) (plain_subst-up a (exp_encoding inner))) (ap (λ z. op_term Band z (lit 0)) (plain_subst-up a (lit 0))) (calc Band v 7) first (calc_zero v ov q) p1 in
      move_eq all (EVar 0) (EOp Band a (ELit 0)) (ELit 0) oall refl (oa, none, refl) none (exp_encoding (EOp Band a (ELit 0))) (lit 0) refl refl (word_rule AND_ZERO (a ∷ []) []) second
      (rule_proves sig e d room AND_ZERO _ refl ctx wide (AExp a ∷ []) [] (oa, tt) tt) p2

  module _ (Γ : Hyps) (are : AreHyps sig (e + d) d k ctx Γ) where
    either : (a : Exp) (p : Tree) → OverExp sig a ctx → (alignment_proof Γ a ≡ Some p → Says (aligned_form a) p) → first_of (find_hyp Γ (aligned_form a)) (alignment_proof Γ a) ≡ Some p → Says (aligned_form a) p
    either a p oa f q = go (else_some (find_hyp Γ (aligned_form a)) (alignment_proof Γ a) p q)
      where
        go : (find_hyp Γ (aligned_form a) ≡ Some p) ⊎ (alignment_proof Γ a ≡ Some p) → Says (aligned_form a) p
        go (inl g) = find_proves sig (e + d) d k ctx Γ are (aligned_form a) p g
        go (inr g) = f g

    sum_says : (a b : Exp) (p : Tree) → OverExp sig a ctx → OverExp sig b ctx → ((p : Tree) → alignment_proof Γ a ≡ Some p → Says (aligned_form a) p) → ((p : Tree) → alignment_proof Γ b ≡ Some p → Says (aligned_form b) p) →
        alignment_proof Γ (EOp Add a b) ≡ Some p → Says (aligned_form (EOp Add a b)) p
    unfolding the_rules
    sum_says a b p oa ob fa fb q =
        let x = bind_some (first_of (find_hyp Γ (aligned_form a)) (alignment_proof Γ a)) (λ p. option_map (λ q. word_rule ADD_AL (a ∷ b ∷ []) (p ∷ q ∷ [])) (first_of (find_hyp Γ (aligned_form b)) (alignment_proof Γ b))) p q in
        let y = map_some (first_of (find_hyp Γ (aligned_form b)) (alignment_proof Γ b)) (λ q. word_rule ADD_AL (a ∷ b ∷ []) (x.0 ∷ q ∷ [])) p x.2 in
        subst (λ z. Says (aligned_form (EOp Add a b)) z) y.2
        (rule_proves sig e d room ADD_AL _ refl ctx wide (AExp a ∷ AExp b ∷ []) (x.0 ∷ y.0 ∷ []) (oa, (ob, tt)) (either a x.0 oa (fa x.0) x.1, (either b y.0 ob (fb y.0) y.1, tt)))

    sll_says : (a : Exp) → OverExp sig a ctx → Says (aligned_form (EOp Sll a (ELit 3))) (word_rule SLL_AL (a ∷ []) [])
    unfolding the_rules
    sll_says a oa = rule_proves sig e d room SLL_AL _ refl ctx wide (AExp a ∷ []) [] (oa, tt) tt

    aligned_says : (a : Exp) (p : Tree) → OverExp sig a ctx → alignment_proof Γ a ≡ Some p → Says (aligned_form a) p
    aligned_says (ELit v) p o q = let c = if_some (v % 8 == 0) (calc Band v 7) p q in subst (λ z. Says (aligned_form (ELit v)) z) c.1 (calc_zero v o c.0)
    aligned_says (EOp Add a b) p o q = sum_says a b p o.0 o.1 (λ p g. aligned_says a p o.0 g) (λ p g. aligned_says b p o.1 g) q
    aligned_says (EOp Sll a (ELit (suc (suc (suc zero))))) p o q = subst (λ z. Says (aligned_form (EOp Sll a (ELit 3))) z) (some_injective q) (sll_says a o.0)
    aligned_says (EOp Band a (ELit v)) p o q = let c = if_some (v % 8 == 0) (masked a v) p q in subst (λ z. Says (aligned_form (EOp Band a (ELit v))) z) c.1 (masked_says a v o.0 o.1 c.0)
    aligned_says _ p o q = cc

    pub by_aligned_says : (A : Form) (p : Tree) → Over sig A ctx → by_aligned Γ A ≡ Some p → Says A p
    by_aligned_says (FRel Eq (EOp Band a (ELit (suc (suc (suc (suc (suc (suc (suc zero))))))))) (ELit zero)) p o q = aligned_says a p o.0.0 q
    by_aligned_says _ p o q = cc

    ule_says : (a b : Exp) (v u : WordBound) (p : Tree) → OverExp sig a ctx → OverExp sig b ctx → IsUpper sig e d room some k ctx w a v → IsLower sig e d room some k ctx w b u → ule_by a b v u ≡ Some p → Says (FRel Ule a b) p
    unfolding the_rules
    ule_says a b v u p oa ob hv hu q =
        let second = word_rule ULE_TRANS (ELit v.value ∷ ELit u.value ∷ b ∷ []) (fact Ule v.value u.value ∷ u.proof ∷ []) in
        let c = if_some (nat_le v.value u.value) (word_rule ULE_TRANS (a ∷ ELit v.value ∷ b ∷ []) (v.proof ∷ second ∷ [])) p q in
        let s : Says (FRel Ule (ELit v.value) b) second =
        rule_proves sig e d room ULE_TRANS _ refl ctx wide (AExp (ELit v.value) ∷ AExp (ELit u.value) ∷ AExp b ∷ []) (fact Ule v.value u.value ∷ u.proof ∷ []) (hv.word, (hu.word, (ob, tt)))
        (fact_proves sig (e + d) ctx Ule v.value u.value hv.word hu.word c.0, (hu.proved, tt)) in
        subst (λ z. Says (FRel Ule a b) z) c.1 (rule_proves sig e d room ULE_TRANS _ refl ctx wide (AExp a ∷ AExp (ELit v.value) ∷ AExp b ∷ []) (v.proof ∷ second ∷ []) (oa, (hv.word, (ob, tt))) (hv.proved, (s, tt)))

    ult_says : (a b : Exp) (v u : WordBound) (p : Tree) → OverExp sig a ctx → OverExp sig b ctx → IsUpper sig e d room some k ctx w a v → IsLower sig e d room some k ctx w b u → ult_by a b v u ≡ Some p → Says (FRel Ult a b) p
    unfolding the_rules
    ult_says a b v u p oa ob hv hu q =
        let first = word_rule LE_LT (a ∷ ELit v.value ∷ ELit u.value ∷ []) (v.proof ∷ fact Ult v.value u.value ∷ []) in
        let c = if_some (nat_lt v.value u.value) (word_rule LT_LE (a ∷ ELit u.value ∷ b ∷ []) (first ∷ u.proof ∷ [])) p q in
        let s : Says (FRel Ult a (ELit u.value)) first =
        rule_proves sig e d room LE_LT _ refl ctx wide (AExp a ∷ AExp (ELit v.value) ∷ AExp (ELit u.value) ∷ []) (v.proof ∷ fact Ult v.value u.value ∷ []) (oa, (hv.word, (hu.word, tt)))
        (hv.proved, (fact_proves sig (e + d) ctx Ult v.value u.value hv.word hu.word c.0, tt)) in
        subst (λ z. Says (FRel Ult a b) z) c.1 (rule_proves sig e d room LT_LE _ refl ctx wide (AExp a ∷ AExp (ELit u.value) ∷ AExp b ∷ []) (first ∷ u.proof ∷ []) (oa, (hu.word, (ob, tt))) (s, (hu.proved, tt)))

    weaker : (a b : Exp) (p : Tree) → OverExp sig a ctx → OverExp sig b ctx → option_map (λ h. word_rule ULT_ULE (a ∷ b ∷ []) (h ∷ [])) (find_hyp Γ (FRel Ult a b)) ≡ Some p → Says (FRel Ule a b) p
    unfolding the_rules
    weaker a b p oa ob q =
        let m = map_some (find_hyp Γ (FRel Ult a b)) (λ h. word_rule ULT_ULE (a ∷ b ∷ []) (h ∷ [])) p q in
        subst (λ z. Says (FRel Ule a b) z) m.2 (rule_proves sig e d room ULT_ULE _ refl ctx wide (AExp a ∷ AExp b ∷ []) (m.0 ∷ []) (oa, (ob, tt)) (find_proves sig (e + d) d k ctx Γ are (FRel Ult a b) m.0 m.1, tt))

    module _ (counted : Bool) (rule : counted ≡ true → SUB_LO < size_of sig) where
      ule_either : (a b : Exp) (p : Tree) → OverExp sig a ctx → OverExp sig b ctx → (option_map (λ h. word_rule ULT_ULE (a ∷ b ∷ []) (h ∷ [])) (find_hyp Γ (FRel Ult a b)) ≡ Some p) ⊎ (ule_by a b (upper_bound Γ a) (lower_bound counted Γ b) ≡ Some p) → Says (FRel Ule a b) p
      ule_either a b p oa ob (inl q) = weaker a b p oa ob q
      ule_either a b p oa ob (inr q) =
          ule_says a b (upper_bound Γ a) (lower_bound counted Γ b) p oa ob
          (upper_bound_is sig e d room some k ctx w Γ are a oa)
          (lower_bound_is sig e d room some k ctx w Γ are counted rule b ob) q

      pub by_bounds_says : (A : Form) (p : Tree) → Over sig A ctx → by_bounds counted Γ A ≡ Some p → Says A p
      by_bounds_says (FRel Ule a b) p o q =
          ule_either a b p o.0 o.1
          (else_some (option_map (λ h. word_rule ULT_ULE (a ∷ b ∷ []) (h ∷ [])) (find_hyp Γ (FRel Ult a b)))
          (ule_by a b (upper_bound Γ a) (lower_bound counted Γ b)) p q)
      by_bounds_says (FRel Ult a b) p o q =
          ult_says a b (upper_bound Γ a) (lower_bound counted Γ b) p o.0 o.1
          (upper_bound_is sig e d room some k ctx w Γ are a o.0)
          (lower_bound_is sig e d room some k ctx w Γ are counted rule b o.1) q
      by_bounds_says _ p o q = cc
