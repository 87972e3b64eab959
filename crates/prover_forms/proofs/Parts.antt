-- Rewritings in the parts of an operator.
use Rattle.std.proofs.Common.{◌≡◌, ℕ, List, [], ◌∷◌, refl, sym, ◌∙◌, ap}
use Rattle.term_table.specs.Table.{TableView, tree_at}
use Rattle.lf_signature.specs.Nodes.{IsIdOf}
use Rattle.lf_signature.specs.Terms.{op_term}
use Rattle.lf_terms.proofs.Shifts.{spot-raise}
use Rattle.word_ops.specs.declared.Op.{Op}
use Rattle.formula_tree.specs.Formulas.{Exp, EReg, ELeft, EVar, ELit, EOp, ESel, MemExp, MMem, MVar, MUpd, shift_exp, shift_mem}
use Rattle.formula_tree.specs.Variables.{PExp, exp_at, mem_at, subst_var_exp, subst_var_mem}
use Rattle.lf_terms.specs.Encoding.{exp_encoding}
use Rattle.lf_terms.specs.ProofTerms.{up}
use Rattle.prover_class.specs.NormalForms.{Rewriting, rewriting, rewrite_at, in_left, in_right, first_nonempty, redex}
use Rattle.prover_forms.specs.Inside.Rounds.{expression_after, IsNextExp}

-- what is raised has nothing to put in
mutual
  pub subst-up_exp : (b x : Exp) (c : ℕ) → subst_var_exp (shift_exp 1 c b) c (PExp x) ≡ b
  subst-up_exp (EReg r) x c = refl
  subst-up_exp ELeft x c = refl
  subst-up_exp (EVar n) x c = ap (exp_at (PExp x)) (spot-raise c n)
  subst-up_exp (ELit v) x c = refl
  subst-up_exp (EOp o a b) x c = λ i. EOp o (subst-up_exp a x c i) (subst-up_exp b x c i)
  subst-up_exp (ESel m a) x c = λ i. ESel (subst-up_mem m x c i) (subst-up_exp a x c i)

  subst-up_mem : (m : MemExp) (x : Exp) (c : ℕ) → subst_var_mem (shift_mem 1 c m) c (PExp x) ≡ m
  subst-up_mem MMem x c = refl
  subst-up_mem (MVar n) x c = ap (mem_at (PExp x)) (spot-raise c n)
  subst-up_mem (MUpd m a v) x c = λ i. MUpd (subst-up_mem m x c i) (subst-up_exp a x c i) (subst-up_exp v x c i)

-- the whole after rewritings in its left part
after-in_left : (o : Op) (x y : Exp) (l : List Rewriting) → expression_after (EOp o x y) (in_left o y l) ≡ EOp o (expression_after x l) y
after-in_left o x y [] = refl
after-in_left o x y (s ∷ l) =
    let z = subst_var_exp s.into 0 (PExp s.to) in
    ap (λ w. expression_after (EOp o z w) (in_left o y l)) (subst-up_exp y s.to 0) ∙ after-in_left o z y l

-- and in its right part
after-in_right : (o : Op) (x y : Exp) (l : List Rewriting) → expression_after (EOp o x y) (in_right o x l) ≡ EOp o x (expression_after y l)
after-in_right o x y [] = refl
after-in_right o x y (s ∷ l) =
    let z = subst_var_exp s.into 0 (PExp s.to) in
    ap (λ w. expression_after (EOp o w z) (in_right o x l)) (subst-up_exp x s.to 0) ∙ after-in_right o x z l

no_cons : (s : Rewriting) (l : List Rewriting) → [] ≡ s ∷ l → ⊥
no_cons s l e = cc

-- t, u: with the left part after its rewritings, with the whole; m is what follows where there are none
pub left_next : (t u : TableView) (o : Op) (x y : Exp) (l m : List Rewriting) (left b whole : ℕ) → IsNextExp t x l left
    → tree_at t b ≡ exp_encoding y → IsIdOf u (op_term o (tree_at t left) (tree_at t b)) whole
    → IsNextExp u (EOp o x y) (first_nonempty (in_left o y l) m) whole
left_next t u o x y [] m left b whole n q h = absurd (no_cons n.first n.others n.some)
left_next t u o x y (s ∷ l) m left b whole n q h = record {
  first = rewriting (EOp o s.into (up y)) s.from s.to s.proof;
  others = in_left o y l;
  some = refl;
  is = h.is ∙ (λ i. op_term o (n.is i) (q i)) ∙ sym (ap exp_encoding (after-in_left o x y (s ∷ l)));
}

-- the same of the right part
pub right_next : (t u : TableView) (o : Op) (x y : Exp) (l m : List Rewriting) (a right whole : ℕ) → IsNextExp t y l right
    → tree_at t a ≡ exp_encoding x → IsIdOf u (op_term o (tree_at t a) (tree_at t right)) whole
    → IsNextExp u (EOp o x y) (first_nonempty (in_right o x l) m) whole
right_next t u o x y [] m a right whole n q h = absurd (no_cons n.first n.others n.some)
right_next t u o x y (s ∷ l) m a right whole n q h = record {
  first = rewriting (EOp o (up x) s.into) s.from s.to s.proof;
  others = in_right o x l;
  some = refl;
  is = h.is ∙ (λ i. op_term o (q i) (n.is i)) ∙ sym (ap exp_encoding (after-in_right o x y (s ∷ l)));
}

-- where nothing is to be rewritten in the parts
pub none_in_parts : (out : ℕ) (o : Op) (x y : Exp) → redex out x ≡ [] → redex out y ≡ [] → redex out (EOp o x y) ≡ rewrite_at out o x y
none_in_parts out o x y e f = λ i. first_nonempty (in_left o y (e i)) (first_nonempty (in_right o x (f i)) (rewrite_at out o x y))
