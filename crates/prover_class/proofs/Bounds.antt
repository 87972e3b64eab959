-- The bounds that are found have their proofs.
use Rattle.std.proofs.Common.{◌≡◌, ℕ, suc, ◌+◌, ◌%◌, ◌^◌, ◌<◌, ◌≤◌, Bool, true, false, cond, nat_lt, nat_le, List, [], ◌∷◌, ◌++◌, length, refl, ap, subst, arith, mod-eq_of_lt}
use Rattle.std.proofs.lemmas.Bool.{ltb-true, leb-true, le-leb}
use Rattle.term_table.specs.Tree.{Tree}
use Rattle.term_table.proofs.Equality.{tree_eq-true}
use Rattle.word_ops.specs.declared.Op.{Op}
use Rattle.word_ops.specs.declared.Op.TheVariants.{Add, Sub, Band, Sll, Srl, Cmpeq, Cmplt, Cmple, Cmpult, Cmpule, Bic, Extb, Extw, Extl}
use Rattle.word_ops.specs.declared.Rel.{Rel}
use Rattle.word_ops.specs.declared.Rel.TheVariants.{Eq, Ult, Ule}
use Rattle.word_ops.specs.Words.{word_of}
use Rattle.word_ops.proofs.EachOp.{word_of-below}
use Rattle.lf_signature.specs.Terms.{exp, pf, lit, rel_term}
use Rattle.lf_signature.specs.Constants.{the_rules, size_of}
use Rattle.formula_tree.specs.Formulas.{Exp, EVar, ELit, EOp, ESel, Form, FRel, EReg, ELeft}
use Rattle.lf_terms.specs.Encoding.{exp_encoding, form_encoding}
use Rattle.prover_class.proofs.Scope.{OverExp, has_operator}
use Rattle.prover_class.proofs.Signatures.{later_rule, last_rule}
use Rattle.lf_terms.specs.ProofTerms.{AExp, word_rule, move, swap, up, calc, fact}
use Rattle.prover_class.specs.Hypotheses.{Hyps, same_exp}
use Rattle.prover_class.specs.Bounds.{WordBound, word_bound, least_bound, greatest_bound, max_word, folded, folded_below, fit_proof, upper_of, uppers, op_bounds, own_bounds, upper_bound, lower_of, lowers, zero_bound, difference_bound, part_lowers, lower_bound}
use Rattle.prover_class.proofs.Proved.{Proves, IsHyp, AreHyps}
use Rattle.prover_class.proofs.Uses.{rule_proves, stays_now}
use Rattle.prover_class.proofs.Named.{move_proves, swap_proves, calc_proves, fact_proves, plain_subst-up, over-up}
use Rattle.lf_signature.specs.declared.editions.WordSignature.{WordSignature}
use Rattle.lf_signature.specs.declared.numbers.TheConstants.{ADD_LE, AND_COMM, AND_LE, BIC_LE, CMP_LE1, EXTB_LE, EXTL_LE, EXTW_LE, LT_PRED, MAX_LE, SLL_MONO, SRL_MONO, SUB_LO, ULE_REFL, ULE_TRANS, ULT_ULE, ZERO_LE}

module _ (sig : WordSignature) (e d : ℕ) (room : e + (d + d + d) + 16 ≤ 2 ^ 32) (some : 0 < d) (k : ℕ) (ctx : List Tree) (w : length ctx + k ≤ e) where
  abbrev wide : length ctx ≤ e
  wide = omega (arith, w)

  abbrev pub Has : Rel → Exp → Exp → Tree → Type 0
  Has r a b p = Proves sig (e + d) ctx (pf (form_encoding (FRel r a b))) p

  pub record IsUpper (a : Exp) (b : WordBound) : Type 0 where
    pub word : b.value < 2 ^ 64
    pub proved : Has Ule a (ELit b.value) b.proof

  pub record IsLower (a : Exp) (b : WordBound) : Type 0 where
    pub word : b.value < 2 ^ 64
    pub proved : Has Ule (ELit b.value) a b.proof

  abbrev AllUpper : Exp → List WordBound → Type 0
  AllUpper a [] = Unit {0}
  AllUpper a (b ∷ l) = IsUpper a b × AllUpper a l

  abbrev AllLower : Exp → List WordBound → Type 0
  AllLower a [] = Unit {0}
  AllLower a (b ∷ l) = IsLower a b × AllLower a l

  cond_is : (P : WordBound → Type 0) (t : Bool) (b c : WordBound) → P b → P c → P (cond t b c)
  cond_is P true b c x y = x
  cond_is P false b c x y = y

  least_is : (a : Exp) (l : List WordBound) (last : WordBound) → AllUpper a l → IsUpper a last → IsUpper a (least_bound l last)
  least_is a [] last h g = g
  least_is a (b ∷ l) last h g = cond_is (IsUpper a) (nat_lt (least_bound l last).value b.value) (least_bound l last) b (least_is a l last h.1 g) h.0

  greatest_is : (a : Exp) (l : List WordBound) (last : WordBound) → AllLower a l → IsLower a last → IsLower a (greatest_bound l last)
  greatest_is a [] last h g = g
  greatest_is a (b ∷ l) last h g = cond_is (IsLower a) (nat_lt b.value (greatest_bound l last).value) (greatest_bound l last) b (greatest_is a l last h.1 g) h.0

  upper_append : (a : Exp) (l m : List WordBound) → AllUpper a l → AllUpper a m → AllUpper a (l ++ m)
  upper_append a [] m h g = g
  upper_append a (b ∷ l) m h g = (h.0, upper_append a l m h.1 g)

  lower_append : (a : Exp) (l m : List WordBound) → AllLower a l → AllLower a m → AllLower a (l ++ m)
  lower_append a [] m h g = g
  lower_append a (b ∷ l) m h g = (h.0, lower_append a l m h.1 g)

  upper_if : (a : Exp) (t : Bool) (b : WordBound) → (t ≡ true → IsUpper a b) → AllUpper a (cond t (b ∷ []) [])
  upper_if a true b h = (h refl, tt)
  upper_if a false b h = tt

  lower_if : (a : Exp) (t : Bool) (b : WordBound) → (t ≡ true → IsLower a b) → AllLower a (cond t (b ∷ []) [])
  lower_if a true b h = (h refl, tt)
  lower_if a false b h = tt

  refl_le : (a : Exp) → OverExp sig a ctx → Has Ule a a (word_rule ULE_REFL (a ∷ []) [])
  unfolding the_rules
  refl_le a o = rule_proves sig e d room ULE_REFL _ refl ctx wide (AExp a ∷ []) [] (o, tt) tt

  -- in [x](ule a x)
  move_right : (a x y : Exp) → OverExp sig a ctx → OverExp sig x ctx → OverExp sig y ctx → (p q : Tree) → Has Eq x y p → Has Ule a x q → Has Ule a y (move (FRel Ule (up a) (EVar 0)) x y p q)
  move_right a x y oa ox oy p q hp hq =
      move_proves sig e d room ctx wide (FRel Ule (up a) (EVar 0)) x y (over-up sig a ctx exp oa, refl) some ox oy (rel_term Ule (exp_encoding a) (exp_encoding x)) (rel_term Ule (exp_encoding a) (exp_encoding y)) p q
      (ap (λ z. rel_term Ule z (exp_encoding x)) (plain_subst-up a (exp_encoding x))) (ap (λ z. rel_term Ule z (exp_encoding y)) (plain_subst-up a (exp_encoding y))) hp hq

  -- in [x](ule x a)
  move_left : (a x y : Exp) → OverExp sig a ctx → OverExp sig x ctx → OverExp sig y ctx → (p q : Tree) → Has Eq x y p → Has Ule x a q → Has Ule y a (move (FRel Ule (EVar 0) (up a)) x y p q)
  move_left a x y oa ox oy p q hp hq =
      move_proves sig e d room ctx wide (FRel Ule (EVar 0) (up a)) x y (refl, over-up sig a ctx exp oa) some ox oy (rel_term Ule (exp_encoding x) (exp_encoding a)) (rel_term Ule (exp_encoding y) (exp_encoding a)) p q
      (ap (λ z. rel_term Ule (exp_encoding x) z) (plain_subst-up a (exp_encoding x))) (ap (λ z. rel_term Ule (exp_encoding y) z) (plain_subst-up a (exp_encoding y))) hp hq

  folded_is : (a : Exp) → OverExp sig a ctx → (o : Op) → has_operator sig o ≡ true → (x y : ℕ) → x < 2 ^ 64 → y < 2 ^ 64 → (p : Tree) → Has Ule a (EOp o (ELit x) (ELit y)) p → IsUpper a (folded a o x y p)
  folded_is a oa o has x y hx hy p h =
      record { word = word_of-below o x y hx hy; proved = move_right a (EOp o (ELit x) (ELit y)) (ELit (word_of o x y)) oa (hx, hy, has) (word_of-below o x y hx hy) (calc o x y) p (calc_proves sig (e + d) ctx o has x y hx hy) h }

  folded_below_is : (a : Exp) → OverExp sig a ctx → (o : Op) → has_operator sig o ≡ true
      → (x y : ℕ) → x < 2 ^ 64 → y < 2 ^ 64 → (p : Tree) → Has Ule (EOp o (ELit x) (ELit y)) a p
      → IsLower a (folded_below a o x y p)
  folded_below_is a oa o has x y hx hy p h =
      let b = word_of-below o x y hx hy in
      record {
        word = b;
        proved =
            move_left a (EOp o (ELit x) (ELit y)) (ELit (word_of o x y)) oa (hx, hy, has) b
            (calc o x y) p (calc_proves sig (e + d) ctx o has x y hx hy) h;
      }

  fit_proof_is : (v : ℕ) (o : Op) → has_operator sig o ≡ true → (x y : ℕ) → v < 2 ^ 64 → x < 2 ^ 64 → y < 2 ^ 64 → v ≤ word_of o x y → Has Ule (ELit v) (EOp o (ELit x) (ELit y)) (fit_proof v o x y)
  fit_proof_is v o has x y hv hx hy h =
      let b = word_of-below o x y hx hy in
      move_right (ELit v) (ELit (word_of o x y)) (EOp o (ELit x) (ELit y)) hv b (hx, hy, has) (swap (EOp o (ELit x) (ELit y)) (ELit (word_of o x y)) (calc o x y)) (fact Ule v (word_of o x y))
      (swap_proves sig e d room some ctx wide (EOp o (ELit x) (ELit y)) (ELit (word_of o x y)) (hx, hy, has) b (calc o x y) (calc_proves sig (e + d) ctx o has x y hx hy))
      (fact_proves sig (e + d) ctx Ule v (word_of o x y) hv b (le-leb v (word_of o x y) h))

  now : (A : Form) (h : Tree) → IsHyp sig (e + d) d k ctx (A, h) → Proves sig (e + d) ctx (pf (form_encoding A)) h
  now A h i = stays_now sig (e + d) k ctx (form_encoding A) h i.stays

  upper_of_are : (a : Exp) → OverExp sig a ctx → (A : Form) (h : Tree) → IsHyp sig (e + d) d k ctx (A, h) → AllUpper a (upper_of a A h)
  unfolding the_rules
  upper_of_are a oa (FRel Ule b (ELit v)) h i =
      upper_if a (same_exp b a) (word_bound v h) (λ t. record { word = i.over.1; proved = subst (λ z. Proves sig (e + d) ctx (pf (rel_term Ule z (lit v))) h) (tree_eq-true (exp_encoding b) (exp_encoding a) t) (now (FRel Ule b (ELit v)) h i) })
  upper_of_are a oa (FRel Ult b (ELit (suc v))) h i =
      upper_if a (same_exp b a) (folded a Sub (suc v) 1 (word_rule LT_PRED (a ∷ ELit (suc v) ∷ []) (h ∷ [])))
      (λ t.
      let g : Has Ult a (ELit (suc v)) h = subst (λ z. Proves sig (e + d) ctx (pf (rel_term Ult z (lit (suc v)))) h) (tree_eq-true (exp_encoding b) (exp_encoding a) t) (now (FRel Ult b (ELit (suc v))) h i) in
      folded_is a oa Sub refl (suc v) 1 i.over.1 (omega arith) (word_rule LT_PRED (a ∷ ELit (suc v) ∷ []) (h ∷ []))
      (rule_proves sig e d room LT_PRED _ refl ctx wide (AExp a ∷ AExp (ELit (suc v)) ∷ []) (h ∷ []) (oa, (i.over.1, tt)) (g, tt)))
  upper_of_are a oa (FRel Eq b (ELit v)) h i =
      upper_if a (same_exp b a) (word_bound v (move (FRel Ule (up a) (EVar 0)) a (ELit v) h (word_rule ULE_REFL (a ∷ []) [])))
      (λ t.
      let g : Has Eq a (ELit v) h = subst (λ z. Proves sig (e + d) ctx (pf (rel_term Eq z (lit v))) h) (tree_eq-true (exp_encoding b) (exp_encoding a) t) (now (FRel Eq b (ELit v)) h i) in
      record { word = i.over.1; proved = move_right a a (ELit v) oa oa i.over.1 h (word_rule ULE_REFL (a ∷ []) []) g (refl_le a oa) })
  upper_of_are a oa _ h i = tt

  uppers_are : (a : Exp) → OverExp sig a ctx → (Γ : Hyps) → AreHyps sig (e + d) d k ctx Γ → AllUpper a (uppers a Γ)
  uppers_are a oa [] g = tt
  uppers_are a oa (h ∷ l) g = upper_append a (upper_of a h.0 h.1) (uppers a l) (upper_of_are a oa h.0 h.1 g.0) (uppers_are a oa l g.1)

  lower_of_are : (a : Exp) → OverExp sig a ctx → (A : Form) (h : Tree) → IsHyp sig (e + d) d k ctx (A, h) → AllLower a (lower_of a A h)
  unfolding the_rules
  lower_of_are a oa (FRel Ule (ELit v) b) h i =
      lower_if a (same_exp b a) (word_bound v h) (λ t. record { word = i.over.0; proved = subst (λ z. Proves sig (e + d) ctx (pf (rel_term Ule (lit v) z)) h) (tree_eq-true (exp_encoding b) (exp_encoding a) t) (now (FRel Ule (ELit v) b) h i) })
  lower_of_are a oa (FRel Ult (ELit v) b) h i =
      lower_if a (same_exp b a) (word_bound v (word_rule ULT_ULE (ELit v ∷ a ∷ []) (h ∷ [])))
      (λ t.
      let g : Has Ult (ELit v) a h = subst (λ z. Proves sig (e + d) ctx (pf (rel_term Ult (lit v) z)) h) (tree_eq-true (exp_encoding b) (exp_encoding a) t) (now (FRel Ult (ELit v) b) h i) in
      record { word = i.over.0; proved = rule_proves sig e d room ULT_ULE _ refl ctx wide (AExp (ELit v) ∷ AExp a ∷ []) (h ∷ []) (i.over.0, (oa, tt)) (g, tt) })
  lower_of_are a oa (FRel Eq b (ELit v)) h i =
      lower_if a (same_exp b a) (word_bound v (move (FRel Ule (EVar 0) (up a)) a (ELit v) h (word_rule ULE_REFL (a ∷ []) [])))
      (λ t.
      let g : Has Eq a (ELit v) h = subst (λ z. Proves sig (e + d) ctx (pf (rel_term Eq z (lit v))) h) (tree_eq-true (exp_encoding b) (exp_encoding a) t) (now (FRel Eq b (ELit v)) h i) in
      record { word = i.over.1; proved = move_left a a (ELit v) oa oa i.over.1 h (word_rule ULE_REFL (a ∷ []) []) g (refl_le a oa) })
  lower_of_are a oa _ h i = tt

  lowers_are : (a : Exp) → OverExp sig a ctx → (Γ : Hyps) → AreHyps sig (e + d) d k ctx Γ → AllLower a (lowers a Γ)
  lowers_are a oa [] g = tt
  lowers_are a oa (h ∷ l) g = lower_append a (lower_of a h.0 h.1) (lowers a l) (lower_of_are a oa h.0 h.1 g.0) (lowers_are a oa l g.1)

  max_is : (a : Exp) → OverExp sig a ctx → IsUpper a (word_bound max_word (word_rule MAX_LE (a ∷ []) []))
  unfolding the_rules
  max_is a oa = record { word = omega arith; proved = rule_proves sig e d room MAX_LE _ refl ctx wide (AExp a ∷ []) [] (oa, tt) tt }

  zero_is : (a : Exp) → OverExp sig a ctx → IsLower a (zero_bound a)
  unfolding the_rules
  zero_is a oa = record { word = omega arith; proved = rule_proves sig e d room ZERO_LE _ refl ctx wide (AExp a ∷ []) [] (oa, tt) tt }

  difference_is : SUB_LO < size_of sig → (a : Exp) (u : ℕ) (v : WordBound)
      → OverExp sig (EOp Sub a (ELit u)) ctx → IsLower a v → nat_le u v.value ≡ true
      → IsLower (EOp Sub a (ELit u)) (difference_bound a u v)
  unfolding the_rules
  difference_is rule a u v o h t =
      folded_below_is (EOp Sub a (ELit u)) o Sub refl v.value u h.word o.1
      (word_rule SUB_LO (a ∷ ELit v.value ∷ ELit u ∷ []) (v.proof ∷ fact Ule u v.value ∷ []))
      (rule_proves sig e d room SUB_LO _ (last_rule sig rule) ctx wide
      (AExp a ∷ AExp (ELit v.value) ∷ AExp (ELit u) ∷ []) (v.proof ∷ fact Ule u v.value ∷ [])
      (o.0, (h.word, (o.1, tt)))
      (h.proved, (fact_proves sig (e + d) ctx Ule u v.value o.1 h.word t, tt)))

  part_lowers_are : (counted : Bool) → (counted ≡ true → SUB_LO < size_of sig) → (f : Op) (a b : Exp)
      (v : WordBound) → OverExp sig (EOp f a b) ctx → IsLower a v
      → AllLower (EOp f a b) (part_lowers counted f a b v)
  part_lowers_are true rule Sub a (ELit u) v o h =
      lower_if (EOp Sub a (ELit u)) (nat_le u v.value) (difference_bound a u v)
      (λ t. difference_is (rule refl) a u v o h t)
  part_lowers_are counted rule f a b v o h = tt

  fixed_is : (n w : ℕ) → w < 2 ^ 64 → (a b x : Exp) →
      Has Ule x (ELit w) (word_rule n (a ∷ b ∷ []) []) →
      AllUpper x (word_bound w (word_rule n (a ∷ b ∷ []) []) ∷ [])
  fixed_is n w low a b x h = (record { word = low; proved = h }, tt)

  op_bounds_are : (o : Op) (a b : Exp) (v u : WordBound) → has_operator sig o ≡ true → OverExp sig a ctx → OverExp sig b ctx → IsUpper a v → IsUpper b u → AllUpper (EOp o a b) (op_bounds o a b v u)
  unfolding the_rules
  op_bounds_are Band a b v u has oa ob hv hu = (
    record {
      word = hu.word;
      proved =
          rule_proves sig e d room ULE_TRANS _ refl ctx wide (AExp (EOp Band a b) ∷ AExp b ∷ AExp (ELit u.value) ∷ []) (word_rule AND_LE (a ∷ b ∷ []) [] ∷ u.proof ∷ []) ((oa, ob, refl), (ob, (hu.word, tt)))
          (rule_proves sig e d room AND_LE _ refl ctx wide (AExp a ∷ AExp b ∷ []) [] (oa, (ob, tt)) tt, (hu.proved, tt));
    },
    (
      record {
        word = hv.word;
        proved =
            rule_proves sig e d room ULE_TRANS _ refl ctx wide (AExp (EOp Band a b) ∷ AExp a ∷ AExp (ELit v.value) ∷ [])
            (move (FRel Ule (EVar 0) (up a)) (EOp Band b a) (EOp Band a b) (word_rule AND_COMM (b ∷ a ∷ []) []) (word_rule AND_LE (b ∷ a ∷ []) []) ∷ v.proof ∷ []) ((oa, ob, refl), (oa, (hv.word, tt))) (
              move_left a (EOp Band b a) (EOp Band a b) oa (ob, oa, refl) (oa, ob, refl) (word_rule AND_COMM (b ∷ a ∷ []) []) (word_rule AND_LE (b ∷ a ∷ []) [])
                  (rule_proves sig e d room AND_COMM _ refl ctx wide (AExp b ∷ AExp a ∷ []) [] (ob, (oa, tt)) tt) (rule_proves sig e d room AND_LE _ refl ctx wide (AExp b ∷ AExp a ∷ []) [] (ob, (oa, tt)) tt),
              (hv.proved, tt),
            );
      },
      tt,
    ),
  )
  op_bounds_are Srl a (ELit c) v u has oa ob hv hu = (
    folded_is (EOp Srl a (ELit c)) (oa, ob, refl) Srl refl v.value c hv.word ob (word_rule SRL_MONO (a ∷ ELit v.value ∷ ELit c ∷ []) (v.proof ∷ []))
        (rule_proves sig e d room SRL_MONO _ refl ctx wide (AExp a ∷ AExp (ELit v.value) ∷ AExp (ELit c) ∷ []) (v.proof ∷ []) (oa, (hv.word, (ob, tt))) (hv.proved, tt)),
    tt,
  )
  op_bounds_are Sll a (ELit c) v u has oa ob hv hu =
      upper_if (EOp Sll a (ELit c)) (nat_le v.value (word_of Srl max_word c)) (folded (EOp Sll a (ELit c)) Sll v.value c (word_rule SLL_MONO (a ∷ ELit v.value ∷ ELit c ∷ []) (v.proof ∷ fit_proof v.value Srl max_word c ∷ [])))
      (λ t. folded_is (EOp Sll a (ELit c)) (oa, ob, refl) Sll refl v.value c hv.word ob (word_rule SLL_MONO (a ∷ ELit v.value ∷ ELit c ∷ []) (v.proof ∷ fit_proof v.value Srl max_word c ∷ []))
      (rule_proves sig e d room SLL_MONO _ refl ctx wide (AExp a ∷ AExp (ELit v.value) ∷ AExp (ELit c) ∷ []) (v.proof ∷ fit_proof v.value Srl max_word c ∷ []) (oa, (hv.word, (ob, tt)))
      (hv.proved, (fit_proof_is v.value Srl refl max_word c hv.word (omega arith) ob (leb-true v.value (word_of Srl max_word c) t), tt))))
  op_bounds_are Add a b v u has oa ob hv hu =
      upper_if (EOp Add a b) (nat_lt (v.value + u.value) (2 ^ 64)) (folded (EOp Add a b) Add v.value u.value (word_rule ADD_LE (a ∷ b ∷ ELit v.value ∷ ELit u.value ∷ []) (v.proof ∷ u.proof ∷ fit_proof v.value Add v.value u.value ∷ [])))
      (λ t.
      let s : (v.value + u.value) % 2 ^ 64 ≡ v.value + u.value = mod-eq_of_lt (ltb-true (v.value + u.value) (2 ^ 64) t) in
      folded_is (EOp Add a b) (oa, ob, refl) Add refl v.value u.value hv.word hu.word (word_rule ADD_LE (a ∷ b ∷ ELit v.value ∷ ELit u.value ∷ []) (v.proof ∷ u.proof ∷ fit_proof v.value Add v.value u.value ∷ []))
      (rule_proves sig e d room ADD_LE _ refl ctx wide (AExp a ∷ AExp b ∷ AExp (ELit v.value) ∷ AExp (ELit u.value) ∷ []) (v.proof ∷ u.proof ∷ fit_proof v.value Add v.value u.value ∷ []) (oa, (ob, (hv.word, (hu.word, tt))))
      (hv.proved, (hu.proved, (fit_proof_is v.value Add refl v.value u.value hv.word hv.word hu.word (omega (arith, s)), tt)))))
  op_bounds_are Cmpeq a b v u has oa ob hv hu =
      fixed_is CMP_LE1 1 (omega arith) a b (EOp Cmpeq a b) (rule_proves sig e d room CMP_LE1 _ refl ctx wide (AExp a ∷ AExp b ∷ []) [] (oa, (ob, tt)) tt)
  op_bounds_are Cmplt a b v u has oa ob hv hu =
      fixed_is (CMP_LE1 + 1) 1 (omega arith) a b (EOp Cmplt a b) (rule_proves sig e d room (CMP_LE1 + 1) _ refl ctx wide (AExp a ∷ AExp b ∷ []) [] (oa, (ob, tt)) tt)
  op_bounds_are Cmple a b v u has oa ob hv hu =
      fixed_is (CMP_LE1 + 2) 1 (omega arith) a b (EOp Cmple a b) (rule_proves sig e d room (CMP_LE1 + 2) _ refl ctx wide (AExp a ∷ AExp b ∷ []) [] (oa, (ob, tt)) tt)
  op_bounds_are Cmpult a b v u has oa ob hv hu =
      fixed_is (CMP_LE1 + 3) 1 (omega arith) a b (EOp Cmpult a b) (rule_proves sig e d room (CMP_LE1 + 3) _ refl ctx wide (AExp a ∷ AExp b ∷ []) [] (oa, (ob, tt)) tt)
  op_bounds_are Cmpule a b v u has oa ob hv hu =
      fixed_is (CMP_LE1 + 4) 1 (omega arith) a b (EOp Cmpule a b) (rule_proves sig e d room (CMP_LE1 + 4) _ refl ctx wide (AExp a ∷ AExp b ∷ []) [] (oa, (ob, tt)) tt)
  op_bounds_are Bic a b v u has oa ob hv hu = (
    record {
      word = hv.word;
      proved =
          rule_proves sig e d room ULE_TRANS _ refl ctx wide
          (AExp (EOp Bic a b) ∷ AExp a ∷ AExp (ELit v.value) ∷ [])
          (word_rule BIC_LE (a ∷ b ∷ []) [] ∷ v.proof ∷ []) ((oa, ob, has), (oa, (hv.word, tt))) (
            rule_proves sig e d room BIC_LE _ (later_rule sig has BIC_LE refl) ctx wide
                (AExp a ∷ AExp b ∷ []) [] (oa, (ob, tt)) tt,
            (hv.proved, tt),
          );
    },
    tt,
  )
  op_bounds_are Extb a b v u has oa ob hv hu =
      fixed_is EXTB_LE 255 (omega arith) a b (EOp Extb a b)
      (rule_proves sig e d room EXTB_LE _ (later_rule sig has EXTB_LE refl) ctx wide (AExp a ∷ AExp b ∷ []) []
      (oa, (ob, tt)) tt)
  op_bounds_are Extw a b v u has oa ob hv hu =
      fixed_is EXTW_LE 65535 (omega arith) a b (EOp Extw a b)
      (rule_proves sig e d room EXTW_LE _ (later_rule sig has EXTW_LE refl) ctx wide (AExp a ∷ AExp b ∷ []) []
      (oa, (ob, tt)) tt)
  op_bounds_are Extl a b v u has oa ob hv hu =
      fixed_is EXTL_LE 4294967295 (omega arith) a b (EOp Extl a b)
      (rule_proves sig e d room EXTL_LE _ (later_rule sig has EXTL_LE refl) ctx wide (AExp a ∷ AExp b ∷ []) []
      (oa, (ob, tt)) tt)
  op_bounds_are Srl a (EReg r) v u has oa ob hv hu = elim ob [ ]
  op_bounds_are Srl a ELeft v u has oa ob hv hu = elim ob [ ]
  op_bounds_are Srl a (EVar n) v u has oa ob hv hu = tt
  op_bounds_are Srl a (EOp o x y) v u has oa ob hv hu = tt
  op_bounds_are Srl a (ESel m x) v u has oa ob hv hu = tt
  op_bounds_are Sll a (EReg r) v u has oa ob hv hu = elim ob [ ]
  op_bounds_are Sll a ELeft v u has oa ob hv hu = elim ob [ ]
  op_bounds_are Sll a (EVar n) v u has oa ob hv hu = tt
  op_bounds_are Sll a (EOp o x y) v u has oa ob hv hu = tt
  op_bounds_are Sll a (ESel m x) v u has oa ob hv hu = tt
  op_bounds_are o a b v u has oa ob hv hu = tt

  module _ (Γ : Hyps) (are : AreHyps sig (e + d) d k ctx Γ) where
    pub upper_bound_is : (a : Exp) → OverExp sig a ctx → IsUpper a (upper_bound Γ a)
    upper_bound_is (EReg r) o = elim o [ ]
    upper_bound_is ELeft o = elim o [ ]
    upper_bound_is (EVar n) o = least_is (EVar n) (uppers (EVar n) Γ) (word_bound max_word (word_rule MAX_LE (EVar n ∷ []) [])) (uppers_are (EVar n) o Γ are) (max_is (EVar n) o)
    upper_bound_is (ELit v) o =
        least_is (ELit v) (own_bounds (ELit v) ++ uppers (ELit v) Γ) (word_bound max_word (word_rule MAX_LE (ELit v ∷ []) []))
        (upper_append (ELit v) (own_bounds (ELit v)) (uppers (ELit v) Γ) (record { word = o; proved = refl_le (ELit v) o }, tt) (uppers_are (ELit v) o Γ are)) (max_is (ELit v) o)
    upper_bound_is (EOp f a b) o =
        least_is (EOp f a b) (uppers (EOp f a b) Γ ++ op_bounds f a b (upper_bound Γ a) (upper_bound Γ b)) (word_bound max_word (word_rule MAX_LE (EOp f a b ∷ []) []))
        (upper_append (EOp f a b) (uppers (EOp f a b) Γ) (op_bounds f a b (upper_bound Γ a) (upper_bound Γ b)) (uppers_are (EOp f a b) o Γ are) (op_bounds_are f a b (upper_bound Γ a) (upper_bound Γ b) o.2 o.0 o.1 (upper_bound_is a o.0) (upper_bound_is b o.1))) (max_is (EOp f a b) o)
    upper_bound_is (ESel m a) o = least_is (ESel m a) (uppers (ESel m a) Γ) (word_bound max_word (word_rule MAX_LE (ESel m a ∷ []) [])) (uppers_are (ESel m a) o Γ are) (max_is (ESel m a) o)

    own_bounds_are : (a : Exp) → OverExp sig a ctx → AllLower a (own_bounds a)
    own_bounds_are (ELit v) o = (record { word = o; proved = refl_le (ELit v) o }, tt)
    own_bounds_are (EReg r) o = elim o [ ]
    own_bounds_are ELeft o = elim o [ ]
    own_bounds_are (EVar n) o = tt
    own_bounds_are (EOp f a b) o = tt
    own_bounds_are (ESel m a) o = tt

    pub lower_bound_is : (counted : Bool) → (counted ≡ true → SUB_LO < size_of sig) → (a : Exp)
        → OverExp sig a ctx → IsLower a (lower_bound counted Γ a)
    lower_bound_is counted rule (EOp f a b) o =
        let x = EOp f a b in
        let parts = part_lowers counted f a b (lower_bound counted Γ a) in
        greatest_is x (lowers x Γ) (greatest_bound parts (zero_bound x)) (lowers_are x o Γ are)
        (greatest_is x parts (zero_bound x)
        (part_lowers_are counted rule f a b (lower_bound counted Γ a) o
        (lower_bound_is counted rule a o.0)) (zero_is x o))
    lower_bound_is counted rule a o =
        greatest_is a (own_bounds a ++ lowers a Γ) (zero_bound a)
        (lower_append a (own_bounds a) (lowers a Γ) (own_bounds_are a o) (lowers_are a o Γ are))
        (zero_is a o)
