-- Kept results of substitutions as the table grows, and a result by those of the parts.
use Rattle.std.proofs.Common.{◌≡◌, ℕ, zero, suc, ◌+◌, ◌-◌, ◌<◌, Result, Ok, Err, IfOk, refl, sym, ◌∙◌, ap, arith}
use Rattle.term_table.specs.Tree.{Tree, Var, Con, Deny, Lam, spot, shift, Here, Other, Spot, later}
use Rattle.term_table.specs.Table.{TableView, IsKnown, tree_at, Extends}
use Rattle.lf_signature.specs.Nodes.{IsIdOf}
use Rattle.lf_signature.specs.Terms.{app1}
use Rattle.formula_tree.specs.Formulas.{Exp, Form, shift_exp}
use Rattle.formula_tree.specs.Variables.{PExp, mem_at, subst_var_exp, subst_var}
use Rattle.lf_terms.specs.Encoding.{exp_encoding, mem_encoding, form_encoding}
use Rattle.lf_terms.proofs.Encoded.{shift-exp_encoding}
use Rattle.hereditary_subst.proofs.Rows.{memo-more}
use Rattle.prover_ids.specs.declared.forms.Access.{Access}
use Rattle.prover_ids.specs.declared.forms.Access.TheVariants.{Load, Store}
use Rattle.prover_ids.specs.Nodes.{right_form, IsRight}
use Rattle.prover_ids.specs.Puts.{IsExpPut, IsFormPut}
use Rattle.prover_ids.specs.PutRows.{IsPutAt, ArePuts, IsUnderPut}
use Rattle.prover_ids.specs.Lasting.{put-lasts}
use Rattle.prover_ids.specs.declared.puts.Put.{Put}
use Rattle.prover_ids.specs.declared.kept.Kept.{Kept}
use Rattle.prover_ids.proofs.KeptRows.{right-more}

-- what is kept of substitutions, as the table grows
pub puts-more : (kept : Kept Put ℕ) (t u : TableView) → ArePuts t kept → Extends t u → ArePuts u kept
puts-more kept t u h e = right-more IsPutAt t u (λ q r i. put-lasts t u q r e i) h

pub ruleset rows = (puts-more, memo-more)

-- ---- variables

later-other : (p : Spot) (k : ℕ) → p ≡ Other k → later p ≡ Other (suc k)
later-other p k e = ap later e

pub spot-here : (x n : ℕ) → n ≡ x → spot x n ≡ Here
spot-here zero zero e = refl
spot-here zero (suc n) e = absurd (omega (arith, e))
spot-here (suc x) zero e = absurd (omega (arith, e))
spot-here (suc x) (suc n) e = ap later (spot-here x n (omega (arith, e)))

pub spot-near : (x n : ℕ) → n < x → spot x n ≡ Other n
spot-near zero n h = absurd (omega (arith, h))
spot-near (suc x) zero h = refl
spot-near (suc x) (suc n) h = later-other (spot x n) n (spot-near x n (omega (arith, h)))

pub spot-past : (x n : ℕ) → x < n → spot x n ≡ Other (n - 1)
spot-past x zero h = absurd (omega (arith, h))
spot-past zero (suc n) h = ap Other (omega arith)
spot-past (suc x) (suc zero) h = absurd (omega (arith, h))
spot-past (suc x) (suc (suc n)) h = later-other (spot x (suc n)) (suc n - 1) (spot-past x (suc n) (omega (arith, h))) ∙ ap Other (omega arith)

-- ---- a result by those of the parts

-- a variable past the one that is put for
pub put_variable : (u : TableView) (encoding : Spot → Tree) (x n m : ℕ) {E : Type 0} (r : Result ℕ E) → x < n → m ≡ n - 1 → ((k : ℕ) → encoding (Other k) ≡ Var k) → IfOk r (λ id. IsKnown u id × (tree_at u id ≡ Var m)) →
    IfOk r (IsIdOf u (encoding (spot x n)))
put_variable u encoding x n m (Err y) past less others f = tt
put_variable u encoding x n m (Ok v) past less others f = record { known = f.0; is = f.1 ∙ ap Var less ∙ sym (others (n - 1)) ∙ ap encoding (sym (spot-past x n past)) }

-- what stands for the memory where a word is put for its variable
pub put_memory : (u : TableView) (o : Exp) (x n : ℕ) {E : Type 0} (r : Result ℕ E) → n ≡ x → IfOk r (λ id. IsKnown u id × (tree_at u id ≡ Con (Deny 0 0 0))) →
    IfOk r (IsIdOf u (mem_encoding (mem_at (PExp o) (spot x n))))
put_memory u o x n (Err y) e f = tt
put_memory u o x n (Ok v) e f = record { known = f.0; is = f.1 ∙ ap (λ z. mem_encoding (mem_at (PExp o) z)) (sym (spot-here x n e)) }

-- a quantifier's body, with what is put under one more binder
pub under_put : (t u v w z : TableView) (quantifier body x arg under put function : ℕ) {E : Type 0} (r : Result ℕ E) → IsKnown t body → IsKnown t arg → Extends t u → IsIdOf u (shift 1 0 (tree_at t arg)) under → IsFormPut u v body (x + 1) under put →
    tree_at w function ≡ Lam (tree_at v put) → IfOk r (IsIdOf z (app1 quantifier (tree_at w function))) → IfOk r (IsUnderPut t z quantifier body x arg)
under_put t u v w z quantifier body x arg under put function (Err y) b a e s p l f = tt
under_put t u v w z quantifier body x arg under put function (Ok r) b a e s p l f = record {
  known = f.known;
  is = λ A o q k.
      let next : x + 1 ≡ suc x = omega arith in
      let up : tree_at u under ≡ exp_encoding (shift_exp 1 0 o) = s.is ∙ ap (shift 1 0) k ∙ shift-exp_encoding o 1 0 in
      let of : tree_at v put ≡ form_encoding (subst_var A (x + 1) (PExp (shift_exp 1 0 o))) = p.is A (shift_exp 1 0 o) (e.same body b ∙ q) up in
      f.is ∙ ap (app1 quantifier) (l ∙ ap Lam of) ∙ ap (λ n. app1 quantifier (Lam (form_encoding (subst_var A n (PExp (shift_exp 1 0 o)))))) next;
}

put_right : (k : Access) (z o : Exp) (x : ℕ) → subst_var (right_form k z) x (PExp o) ≡ right_form k (subst_var_exp z x (PExp o))
put_right Load z o x = refl
put_right Store z o x = refl

-- a right, at the address with what is put
pub right_put : (t u v : TableView) (k : Access) (id a x arg address r : ℕ) → ((A : Form) → tree_at t id ≡ form_encoding A → IsRight t A k a) →
    IsExpPut t u a x arg address → IsKnown v r →
    ((e : Exp) → tree_at u address ≡ exp_encoding e → IsIdOf v (form_encoding (right_form k e)) r) → IsFormPut t v id x arg r
right_put t u v k id a x arg address r is put known made = record {
  known = known;
  is = λ A o q w.
      let at = is A q in
      let there : Form → Form = λ B. subst_var B x (PExp o) in
      (made (subst_var_exp at.address x (PExp o)) (put.is at.address o at.address_is w)).is ∙ ap form_encoding (sym (ap there at.is ∙ put_right k at.address o x));
}
