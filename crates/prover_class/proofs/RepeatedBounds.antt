-- A hypothesis whose formula is one already changes no bound: its bound has the value of the first's.
use Rattle.std.proofs.Common.{◌≡◌, ℕ, suc, Bool, true, false, cond, nat_lt, List, [], ◌∷◌, ◌++◌, ◌⊎◌, inl, inr, refl, sym, ap, ◌∙◌, subst, arith}
use Rattle.std.proofs.lemmas.Bool.{cond_both, both_ways, lt-ltb, le-ltb, ltb-true}
use Rattle.term_table.specs.Tree.{Tree}
use Rattle.word_ops.specs.declared.Op.TheVariants.{Sub}
use Rattle.word_ops.specs.declared.Rel.TheVariants.{Eq, Ult, Ule}
use Rattle.word_ops.specs.Words.{word_of}
use Rattle.formula_tree.specs.Formulas.{Exp, EReg, ELeft, EVar, ELit, EOp, ESel, Form, FRel}
use Rattle.lf_terms.specs.ProofTerms.{word_rule, move, up}
use Rattle.prover_class.specs.Hypotheses.{Hyps, same_exp}
use Rattle.prover_class.specs.Bounds.{WordBound, word_bound, lesser, greater, least_bound, greatest_bound, max_word, folded, upper_of, uppers, op_bounds, own_bounds, upper_bound, lower_of, lowers, zero_bound, part_lowers, lower_bound}
use Rattle.prover_class.proofs.Repeats.{IsUse, fold_use}
use Rattle.lf_signature.specs.declared.numbers.TheConstants.{LT_PRED, MAX_LE, ULE_REFL, ULT_ULE}

-- what is said from a proof: nothing, or one bound whose value is the same for all proofs
pub record IsOne (g : Tree → List WordBound) (v : ℕ) : Type 0 where
  pub proof_from : Tree → Tree
  pub one : (h : Tree) → g h ≡ word_bound v (proof_from h) ∷ []

abbrev IsSingle : (Tree → List WordBound) → Type 0
IsSingle g = ((h : Tree) → g h ≡ []) ⊎ ((v : ℕ) × IsOne g v)

if_single : (t : Bool) (v : ℕ) (f : Tree → Tree) → IsSingle (λ h. cond t (word_bound v (f h) ∷ []) [])
if_single true v f = inr (v, record { proof_from = f; one = λ h. refl })
if_single false v f = inl (λ h. refl)

upper_single : (e : Exp) (A : Form) → IsSingle (upper_of e A)
upper_single e (FRel Ule a (ELit w)) = if_single (same_exp a e) w (λ h. h)
upper_single e (FRel Ult a (ELit (suc w))) =
    if_single (same_exp a e) (word_of Sub (suc w) 1) (λ h. (folded e Sub (suc w) 1 (word_rule LT_PRED (e ∷ ELit (suc w) ∷ []) (h ∷ []))).proof)
upper_single e (FRel Eq a (ELit w)) = if_single (same_exp a e) w (λ h. move (FRel Ule (up e) (EVar 0)) e (ELit w) h (word_rule ULE_REFL (e ∷ []) []))
upper_single e _ = inl (λ h. refl)

lower_single : (e : Exp) (A : Form) → IsSingle (lower_of e A)
lower_single e (FRel Ule (ELit w) a) = if_single (same_exp a e) w (λ h. h)
lower_single e (FRel Ult (ELit w) a) = if_single (same_exp a e) w (λ h. word_rule ULT_ULE (ELit w ∷ e ∷ []) (h ∷ []))
lower_single e (FRel Eq a (ELit w)) = if_single (same_exp a e) w (λ h. move (FRel Ule (EVar 0) (up e)) e (ELit w) h (word_rule ULE_REFL (e ∷ []) []))
lower_single e _ = inl (λ h. refl)

-- The bound that no other beats, where what beats another is a strict order of values, and the first stands among equals.
module _ (beats : ℕ → ℕ → Bool) (never : (v : ℕ) → beats v v ≡ false) (through : (u v w : ℕ) → beats u v ≡ true → beats v w ≡ true → beats u w ≡ true)
    (act : List WordBound → WordBound → WordBound) (none : (r : WordBound) → act [] r ≡ r)
    (first : (b r : WordBound) → act (b ∷ []) r ≡ cond (beats r.value b.value) r b)
    (says : Form → Tree → List WordBound) (single : (A : Form) → IsSingle (says A))
    (F : Hyps → WordBound) (fold : (x : Form × Tree) (l : Hyps) → F (x ∷ l) ≡ act (says x.0 x.1) (F l)) where
  -- the formula says a value that neither beats
  record Passed (A : Form) (r s : WordBound) : Type 0 where
    value : ℕ
    is : IsOne (says A) value
    left : beats r.value value ≡ false
    right : beats s.value value ≡ false

  abbrev Near : Form → WordBound → WordBound → Type 0
  Near A r s = (r ≡ s) ⊎ Passed A r s

  acted : (A : Form) (h : Tree) (v : ℕ) (i : IsOne (says A) v) (r : WordBound) → act (says A h) r ≡ cond (beats r.value v) r (word_bound v (i.proof_from h))
  acted A h v i r = ap (λ z. act z r) (i.one h) ∙ first (word_bound v (i.proof_from h)) r

  unacted : (A : Form) (h : Tree) → ((h : Tree) → says A h ≡ []) → (r : WordBound) → act (says A h) r ≡ r
  unacted A h e r = ap (λ z. act z r) (e h) ∙ none r

  skips : (h : Form × Tree) (r : WordBound) → Near h.0 r (act (says h.0 h.1) r)
  skips h r = go (single h.0)
    where
      pick : (v : ℕ) (i : IsOne (says h.0) v) (t : Bool) → beats r.value v ≡ t → Near h.0 r (cond t r (word_bound v (i.proof_from h.1)))
      pick v i true q = inl refl
      pick v i false q = inr (record { value = v; is = i; left = q; right = never v })

      go : IsSingle (says h.0) → Near h.0 r (act (says h.0 h.1) r)
      go (inl e) = inl (sym (unacted h.0 h.1 e r))
      go (inr o) = subst (λ z. Near h.0 r z) (sym (acted h.0 h.1 o.0 o.1 r)) (pick o.0 o.1 (beats r.value o.0) refl)

  keeps : (A : Form) (y : Form × Tree) (r s : WordBound) → Near A r s → Near A (act (says y.0 y.1) r) (act (says y.0 y.1) s)
  keeps A y r s (inl q) = inl (ap (act (says y.0 y.1)) q)
  keeps A y r s (inr p) = go (single y.0)
    where
      loses : (w : ℕ) (r : WordBound) → beats r.value p.value ≡ false → beats w p.value ≡ true → beats r.value w ≡ false
      loses w r a b = lost (beats r.value w) refl
        where
          lost : (t : Bool) → beats r.value w ≡ t → t ≡ false
          lost true q = absurd (both_ways (beats r.value p.value) a (through r.value w p.value q b))
          lost false q = refl

      pick : (w : ℕ) (b : WordBound) → b.value ≡ w → (t : Bool) → beats w p.value ≡ t → Near A (cond (beats r.value w) r b) (cond (beats s.value w) s b)
      pick w b e true q = inl (ap (λ t. cond t r b) (loses w r p.left q) ∙ sym (ap (λ t. cond t s b) (loses w s p.right q)))
      pick w b e false q =
          inr (record {
            value = p.value;
            is = p.is;
            left = cond_both (beats r.value w) r b (λ z. beats z.value p.value ≡ false) (λ _. p.left) (λ _. ap (λ z. beats z p.value) e ∙ q);
            right = cond_both (beats s.value w) s b (λ z. beats z.value p.value ≡ false) (λ _. p.right) (λ _. ap (λ z. beats z p.value) e ∙ q);
          })

      go : IsSingle (says y.0) → Near A (act (says y.0 y.1) r) (act (says y.0 y.1) s)
      go (inl e) = subst (λ z. Near A z (act (says y.0 y.1) s)) (sym (unacted y.0 y.1 e r)) (subst (λ z. Near A r z) (sym (unacted y.0 y.1 e s)) (inr p))
      go (inr o) =
          let b : WordBound = word_bound o.0 (o.1.proof_from y.1) in
          subst (λ z. Near A z (act (says y.0 y.1) s)) (sym (acted y.0 y.1 o.0 o.1 r))
          (subst (λ z. Near A (cond (beats r.value o.0) r b) z) (sym (acted y.0 y.1 o.0 o.1 s)) (pick o.0 b refl (beats o.0 p.value) refl))

  meets : (x : Form × Tree) (r s : WordBound) → Near x.0 r s → act (says x.0 x.1) r ≡ act (says x.0 x.1) s
  meets x r s (inl q) = ap (act (says x.0 x.1)) q
  meets x r s (inr p) =
      let b : WordBound = word_bound p.value (p.is.proof_from x.1) in
      acted x.0 x.1 p.value p.is r ∙ ap (λ t. cond t r b) p.left ∙ sym (acted x.0 x.1 p.value p.is s ∙ ap (λ t. cond t s b) p.right)

  pub best_use : IsUse F
  best_use = fold_use F (λ x r. act (says x.0 x.1) r) fold Near skips keeps meets

least-append : (l m : List WordBound) (last : WordBound) → least_bound (l ++ m) last ≡ least_bound l (least_bound m last)
least-append [] m last = refl
least-append (b ∷ l) m last = ap (lesser b) (least-append l m last)

greatest-append : (l m : List WordBound) (last : WordBound) → greatest_bound (l ++ m) last ≡ greatest_bound l (greatest_bound m last)
greatest-append [] m last = refl
greatest-append (b ∷ l) m last = ap (greater b) (greatest-append l m last)

uppers_use : (e : Exp) (last : WordBound) → IsUse (λ Γ. least_bound (uppers e Γ) last)
uppers_use e last =
    best_use nat_lt (λ v. le-ltb v v (omega arith)) (λ u v w p q. lt-ltb u w (omega (arith, ltb-true u v p, ltb-true v w q)))
    least_bound (λ r. refl) (λ b r. refl) (upper_of e) (upper_single e)
    (λ Γ. least_bound (uppers e Γ) last) (λ x l. least-append (upper_of e x.0 x.1) (uppers e l) last)

lowers_use : (e : Exp) (last : WordBound) → IsUse (λ Γ. greatest_bound (lowers e Γ) last)
lowers_use e last =
    best_use (λ u v. nat_lt v u) (λ v. le-ltb v v (omega arith)) (λ u v w p q. lt-ltb w u (omega (arith, ltb-true v u p, ltb-true w v q)))
    greatest_bound (λ r. refl) (λ b r. refl) (lower_of e) (lower_single e)
    (λ Γ. greatest_bound (lowers e Γ) last) (λ x l. greatest-append (lower_of e x.0 x.1) (lowers e l) last)

-- where nothing is found
abbrev most : Exp → WordBound
most e = word_bound max_word (word_rule MAX_LE (e ∷ []) [])

pub upper_use : (e : Exp) → IsUse (λ Γ. upper_bound Γ e)
upper_use (EReg n) = uppers_use (EReg n) (most (EReg n))
upper_use ELeft = uppers_use ELeft (most ELeft)
upper_use (EVar n) = uppers_use (EVar n) (most (EVar n))
upper_use (ELit w) = λ Γ l h q. ap (lesser (word_bound w (word_rule ULE_REFL (ELit w ∷ []) []))) (uppers_use (ELit w) (most (ELit w)) Γ l h q)
upper_use (EOp o a b) = λ Γ l h q.
    let e : Exp = EOp o a b in
    let old : Hyps = Γ ++ l in
    let more : Hyps = Γ ++ h ∷ l in
    let parts : Hyps → List WordBound = λ m. op_bounds o a b (upper_bound m a) (upper_bound m b) in
    let same : parts old ≡ parts more = λ i. op_bounds o a b (upper_use a Γ l h q i) (upper_use b Γ l h q i) in
    least-append (uppers e old) (parts old) (most e) ∙ uppers_use e (least_bound (parts old) (most e)) Γ l h q
    ∙ ap (λ z. least_bound (uppers e more) (least_bound z (most e))) same ∙ sym (least-append (uppers e more) (parts more) (most e))
upper_use (ESel m a) = uppers_use (ESel m a) (most (ESel m a))

pub lower_use : (counted : Bool) (e : Exp) → IsUse (λ Γ. lower_bound counted Γ e)
lower_use counted (EOp o a b) = λ Γ l h q.
    let e : Exp = EOp o a b in
    let old : Hyps = Γ ++ l in
    let more : Hyps = Γ ++ h ∷ l in
    let last : WordBound → WordBound =
    λ v. greatest_bound (part_lowers counted o a b v) (zero_bound e) in
    lowers_use e (last (lower_bound counted old a)) Γ l h q
    ∙ ap (λ v. greatest_bound (lowers e more) (last v)) (lower_use counted a Γ l h q)
lower_use counted e = λ Γ l h q.
    greatest-append (own_bounds e) (lowers e (Γ ++ l)) (zero_bound e)
    ∙ ap (greatest_bound (own_bounds e)) (lowers_use e (zero_bound e) Γ l h q)
    ∙ sym (greatest-append (own_bounds e) (lowers e (Γ ++ h ∷ l)) (zero_bound e))
