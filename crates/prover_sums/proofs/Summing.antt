-- Lists of expressions as ids: one more at the end, one taken away, and the sum of what is left.
use Rattle.std.proofs.Common.{◌≡◌, ℕ, zero, suc, ◌+◌, ◌-◌, ◌<◌, Bool, true, false, ◌==◌, cond, Result, IfOk, Option, Some, None, List, [], ◌∷◌, ◌++◌, length, get_or, refl, sym, ◌∙◌, ap, subst, arith, option_map}
use Rattle.std.specs.List.{remove}
use Rattle.std.proofs.lemmas.List.{append_assoc}
use Rattle.word_ops.specs.declared.Op.{Op}
use Rattle.word_ops.specs.declared.Op.TheVariants.{Add, Sub}
use Rattle.word_ops.specs.Operators.{op_number, op_of}
use Rattle.word_ops.proofs.EachOp.{each_op_same, op_of-op_number}
use Rattle.std.proofs.lemmas.Bool.{cond-false, false_from_ne_true, eqb-true}
use Rattle.std.proofs.lemmas.Option.{same_Some}
use Rattle.word_ops.specs.Words.{word_of}
use Rattle.term_table.specs.Table.{TableView, IsKnown, AllKnown, AreDifferent, tree_at, Extends}
use Rattle.term_table.specs.Equality.{tree_eq}
use Rattle.term_table.proofs.Equality.{tree_eq-true, tree_eq_refl}
use Rattle.lf_signature.specs.Nodes.{IsIdOf}
use Rattle.lf_signature.specs.Terms.{op_term}
use Rattle.formula_tree.specs.Formulas.{Exp, EReg, ELeft, EVar, ELit, EOp, ESel}
use Rattle.lf_terms.specs.Encoding.{exp_encoding}
use Rattle.prover_class.specs.Hypotheses.{same_exp}
use Rattle.prover_class.specs.Access.{summands, literal, without, all_without, sum_with, rest_of}
use Rattle.prover_sums.specs.Inside.Sums.{AreExps, IsSumOf, IsWithout}
use Rattle.prover_sums.specs.Sums.{IsExpOption}

pub known-end : (t : TableView) (l : List ℕ) (a : ℕ) → AllKnown t l → IsKnown t a → AllKnown t (l ++ a ∷ [])
known-end t [] a k h = (h, tt)
known-end t (b ∷ l) a k h = (k.0, known-end t l a k.1 h)

pub exps-end : (t : TableView) (ids : List ℕ) (l : List Exp) (a : ℕ) (x : Exp) → AreExps t ids l → tree_at t a ≡ exp_encoding x → AreExps t (ids ++ a ∷ []) (l ++ x ∷ [])
exps-end t [] [] a x e h = (h, tt)
exps-end t (i ∷ ids) (y ∷ l) a x e h = (e.0, exps-end t ids l a x e.1 h)
exps-end t [] (y ∷ l) a x e h = absurd e
exps-end t (i ∷ ids) [] a x e h = absurd e

-- the first summand, and then those of the rest
pub sum_next : (t : TableView) (ids : List ℕ) (before : List Exp) (a b : Exp) (w : ℕ) → IsSumOf t ids (before ++ a ∷ []) b w → IsSumOf t ids before (EOp Add a b) w
sum_next t ids before a b w s = (subst (AreExps t ids) (append_assoc before (a ∷ []) (summands b)) s.0, s.1)

-- an operator that isn't `add`
no_add : (o : Op) → (o ≡ Add → ⊥) → (op_number o == 0) ≡ false
no_add o h = false_from_ne_true (op_number o == 0) (λ t. h (same_Some o Add (sym (op_of-op_number o) ∙ ap op_of (eqb-true (op_number o) 0 t))))

one_summand : (a b : Exp) (o : Op) → cond (op_number o == 0) (EOp o a b ∷ []) (summands (EOp o a b)) ≡ EOp o a b ∷ []
one_summand a b = each_op_same (λ o. cond (op_number o == 0) (EOp o a b ∷ []) (summands (EOp o a b))) (λ o. EOp o a b ∷ []) refl

no_literal : (a b : Exp) (o : Op) → cond (op_number o == 0) 0 (literal (EOp o a b)) ≡ 0
no_literal a b = each_op_same (λ o. cond (op_number o == 0) 0 (literal (EOp o a b))) (λ o. 0) refl

-- what is neither a word nor a sum is its own summand
pub lone : (x : Exp) → ((w : ℕ) → x ≡ ELit w → ⊥) → ((a b : Exp) → x ≡ EOp Add a b → ⊥) → (summands x ≡ x ∷ []) × (literal x ≡ 0)
lone (EReg r) h g = (refl, refl)
lone ELeft h g = (refl, refl)
lone (EVar n) h g = (refl, refl)
lone (ELit w) h g = absurd (h w refl)
lone (EOp o a b) h g =
    let n = no_add o (λ e. g a b (ap (λ p. EOp p a b) e)) in
    (sym (cond-false (op_number o == 0) (EOp o a b ∷ []) (summands (EOp o a b)) n) ∙ one_summand a b o, sym (cond-false (op_number o == 0) 0 (literal (EOp o a b)) n) ∙ no_literal a b o)
lone (ESel m a) h g = (refl, refl)

pub sum_end : (t : TableView) (ids : List ℕ) (before : List Exp) (a : ℕ) (x : Exp) → AreExps t ids before → tree_at t a ≡ exp_encoding x → ((w : ℕ) → x ≡ ELit w → ⊥) → ((y z : Exp) → x ≡ EOp Add y z → ⊥) → IsSumOf t (ids ++ a ∷ []) before x 0
sum_end t ids before a x e q h g =
    let l = lone x h g in
    (subst (λ s. AreExps t (ids ++ a ∷ []) (before ++ s)) (sym l.0) (exps-end t ids before a x e q), sym l.1)

-- ---- one taken away

pub known-remove : (t : TableView) (l : List ℕ) (i : ℕ) → AllKnown t l → i < length l → AllKnown t (remove l i)
known-remove t [] i k h = absurd (omega (arith, h))
known-remove t (a ∷ l) zero k h = k.1
known-remove t (a ∷ l) (suc i) k h = (k.0, known-remove t l i k.1 (omega (arith, h)))

same_id : (t : TableView) (i a : ℕ) (x y : Exp) → AreDifferent t.trees → IsKnown t i → IsKnown t a → tree_at t i ≡ exp_encoding y → tree_at t a ≡ exp_encoding x → same_exp x y ≡ true → i ≡ a
same_id t i a x y d k h p q s = d i a k h (p ∙ sym (tree_eq-true (exp_encoding x) (exp_encoding y) s) ∙ sym q)

one_exp : (t : TableView) (i a : ℕ) (x y : Exp) → tree_at t i ≡ exp_encoding y → tree_at t a ≡ exp_encoding x → i ≡ a → same_exp x y ≡ true
one_exp t i a x y p q e = subst (λ z. tree_eq (exp_encoding x) z ≡ true) (sym q ∙ ap (tree_at t) (sym e) ∙ p) (tree_eq_refl (exp_encoding x))

-- no place of it from the first on
abbrev IsNowhere : List ℕ → ℕ → Type 0
IsNowhere l a = (i : ℕ) → i < length l → get_or l i 0 ≡ a → ⊥

pub none_away : (t : TableView) (ids : List ℕ) (l : List Exp) (a : ℕ) (x : Exp) → AreDifferent t.trees → AllKnown t ids → IsKnown t a → AreExps t ids l → tree_at t a ≡ exp_encoding x → IsNowhere ids a → without x l ≡ None
none_away t [] [] a x d k h e q n = refl
none_away t [] (y ∷ l) a x d k h e q n = absurd e
none_away t (i ∷ ids) [] a x d k h e q n = absurd e
none_away t (i ∷ ids) (y ∷ l) a x d k h e q n = go (same_exp x y) refl (none_away t ids l a x d k.1 h e.1 q (λ j m. n (suc j) (omega (arith, m))))
  where
    go : (b : Bool) → same_exp x y ≡ b → without x l ≡ None → without x (y ∷ l) ≡ None
    go true s rest = absurd (n 0 (omega arith) (same_id t i a x y d k.0 h e.0 q s))
    go false s rest = ap (λ b. cond b (Some l) (option_map (λ m. y ∷ m) (without x l))) s ∙ ap (option_map (λ m. y ∷ m)) rest

pub one_away : (t : TableView) (ids : List ℕ) (l : List Exp) (a : ℕ) (x : Exp) (n : ℕ) → AreDifferent t.trees → AllKnown t ids → IsKnown t a → AreExps t ids l → tree_at t a ≡ exp_encoding x → n < length ids → get_or ids n 0 ≡ a →
    ((i : ℕ) → i < n → get_or ids i 0 ≡ a → ⊥) → IsWithout t true (remove ids n) (without x l)
one_away t [] l a x n d k h e q m g f = absurd (omega (arith, m))
one_away t (i ∷ ids) [] a x n d k h e q m g f = absurd e
one_away t (i ∷ ids) (y ∷ l) a x zero d k h e q m g f = subst (λ b. IsWithout t true ids (cond b (Some l) (option_map (λ m. y ∷ m) (without x l)))) (sym (one_exp t i a x y e.0 q g)) e.1
one_away t (i ∷ ids) (y ∷ l) a x (suc n) d k h e q m g f = go (same_exp x y) refl (one_away t ids l a x n d k.1 h e.1 q (omega (arith, m)) g (λ j r. f (suc j) (omega (arith, r))))
  where
    later : (o : Option (List Exp)) → IsWithout t true (remove ids n) o → IsWithout t true (i ∷ remove ids n) (option_map (λ m. y ∷ m) o)
    later None w = absurd w
    later (Some r) w = (e.0, w)

    go : (b : Bool) → same_exp x y ≡ b → IsWithout t true (remove ids n) (without x l) → IsWithout t true (i ∷ remove ids n) (without x (y ∷ l))
    go true s rest = absurd (f 0 (omega arith) (same_id t i a x y d k.0 h e.0 q s))
    go false s rest = subst (λ b. IsWithout t true (i ∷ remove ids n) (cond b (Some l) (option_map (λ m. y ∷ m) (without x l)))) (sym s) (later (without x l) rest)

-- ---- the sum of what is left

-- a sum of more than one summand
pub sum_more : (t u v : TableView) (a : ℕ) (rest : List ℕ) (others w : ℕ) {E : Type 0} (r : Result ℕ E) → IsKnown t a → Extends t u → 0 < length rest → ((l : List Exp) → AreExps t rest l → IsIdOf u (exp_encoding (sum_with l w)) others) →
    IfOk r (IsIdOf v (op_term Add (tree_at u a) (tree_at u others))) → (l : List Exp) → AreExps t (a ∷ rest) l → IfOk r (IsIdOf v (exp_encoding (sum_with l w)))
sum_more t u v a rest others w r k x some f s [] e = absurd e
sum_more t u v a [] others w r k x some f s (y ∷ l) e = absurd (omega (arith, some))
sum_more t u v a (i ∷ rest) others w r k x some f s (y ∷ []) e = absurd e.1
sum_more t u v a (i ∷ rest) others w r k x some f s (y ∷ (z ∷ l)) e =
    let left : tree_at u a ≡ exp_encoding y = x.same a k ∙ e.0 in
    let right : tree_at u others ≡ exp_encoding (sum_with (z ∷ l) w) = (f (z ∷ l) e.1).is in
    subst (λ q. IfOk r (IsIdOf v q)) (λ i. op_term Add (left i) (right i)) s

-- nothing is left where a summand is missing
pub rest_none : (t : TableView) (ids : List ℕ) (x y : Exp) → IsWithout t false ids (all_without (summands y) (summands x)) → rest_of x y ≡ None
rest_none t ids x y w = ap (option_map (λ l. sum_with l (word_of Sub (literal x) (literal y)))) w

-- what is left
pub rest_some : (t u : TableView) (ids : List ℕ) (x y : Exp) (v w : ℕ) (id : ℕ) → v ≡ literal x → w ≡ literal y → IsWithout t true ids (all_without (summands y) (summands x)) →
    ((l : List Exp) → AreExps t ids l → IsIdOf u (exp_encoding (sum_with l (word_of Sub v w))) id) → IsExpOption u (rest_of x y) (Some id)
rest_some t u ids x y v w id p q h f = go (all_without (summands y) (summands x)) h
  where
    go : (o : Option (List Exp)) → IsWithout t true ids o → IsExpOption u (option_map (λ l. sum_with l (word_of Sub (literal x) (literal y))) o) (Some id)
    go None s = absurd s
    go (Some l) s = subst (λ z. IsIdOf u (exp_encoding (sum_with l (word_of Sub z (literal y)))) id) p (subst (λ z. IsIdOf u (exp_encoding (sum_with l (word_of Sub v z))) id) q (f l s))
