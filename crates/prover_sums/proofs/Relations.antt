-- Proofs of relations by normal forms, put together of ids.
use Rattle.std.proofs.Common.{◌≡◌, ℕ, Bool, true, false, cond, Some, None, Result, IfOk, refl, ◌∙◌, ap, subst}
use Rattle.word_ops.specs.declared.Rel.{Rel}
use Rattle.word_ops.specs.declared.Rel.TheVariants.{Eq}
use Rattle.term_table.specs.Tree.{Var, shift}
use Rattle.term_table.specs.Table.{TableView, IsKnown, tree_at, Extends}
use Rattle.term_table.specs.Equality.{tree_eq}
use Rattle.term_table.proofs.Equality.{tree_eq_refl, tree_eq-true}
use Rattle.lf_signature.specs.Nodes.{IsIdOf}
use Rattle.lf_signature.specs.Terms.{rel_term}
use Rattle.hereditary_subst.proofs.Rows.{grows_more}
use Rattle.formula_tree.specs.Formulas.{Exp, EVar, ELit, Form, FRel}
use Rattle.lf_terms.specs.Encoding.{exp_encoding, form_encoding}
use Rattle.lf_terms.specs.ProofTerms.{up, move, swap, fact}
use Rattle.prover_class.specs.NormalForms.{equal_proof, equal_forms}
use Rattle.prover_sums.specs.declared.equations.Rewritten.{Rewritten}
use Rattle.prover_sums.specs.Inside.Rounds.{second_moved, first_moved}
use Rattle.prover_sums.specs.NormalForms.{RewrittenExp, IsKnownRewritten, IsRewritten}
use Rattle.prover_sums.proofs.Rewrites.{above_is}

-- t, u, p, v, s, w: before, with a raised, with the place, with the formula, with the equation turned round, with the proof
pub second_moved_is : (t u p v s w : TableView) (rel : Rel) (a b under place form back proof : ℕ) (other : Rewritten) {E : Type 0} (result : Result ℕ E) → IsKnown t a → IsKnown t b → IsKnown t proof → IsKnownRewritten t other → Extends t u → Extends u p →
    Extends p v → Extends v s → IsIdOf u (shift 1 0 (tree_at t a)) under → IsKnown p place × (tree_at p place ≡ Var 0) → IsIdOf v (rel_term rel (tree_at p under) (tree_at p place)) form →
    ((x z : Exp) → tree_at v b ≡ exp_encoding x → tree_at v other.now ≡ exp_encoding z → IsIdOf s (swap x z (tree_at v other.proof)) back) →
    ((A : Form) (x z : Exp) → tree_at s form ≡ form_encoding A → tree_at s other.now ≡ exp_encoding x → tree_at s b ≡ exp_encoding z → IfOk result (IsIdOf w (move A x z (tree_at s back) (tree_at s proof)))) →
    (x y : Exp) (q : RewrittenExp) → tree_at t a ≡ exp_encoding x → tree_at t b ≡ exp_encoding y → IsRewritten t other q → IfOk result (IsIdOf w (second_moved rel x y q (tree_at t proof)))
second_moved_is t u p v s w rel a b under place form back proof other result ka kb kp ko tu up' pv vs at_under at_place at_form at_back at_moved x y q qa qb h =
    let tp = grows_more t u p tu up' in
    let tv = grows_more t p v tp pv in
    let ts = grows_more t v s tv vs in
    let A = FRel rel (up x) (EVar 0) in
    let the_under : tree_at p under ≡ exp_encoding (up x) = up'.same under at_under.known ∙ above_is t u a under x at_under qa in
    let the_form : tree_at s form ≡ form_encoding A = vs.same form at_form.known ∙ at_form.is ∙ (λ i. rel_term rel (the_under i) (at_place.1 i)) in
    let turned = at_back y q.now (tv.same b kb ∙ qb) (tv.same other.now ko.now ∙ h.now) in
    let the_back : tree_at s back ≡ swap y q.now q.proof = turned.is ∙ ap (swap y q.now) (tv.same other.proof ko.proof ∙ h.proof) in
    let made = at_moved A q.now y the_form (ts.same other.now ko.now ∙ h.now) (ts.same b kb ∙ qb) in
    subst (λ z. IfOk result (IsIdOf w (move A q.now y z (tree_at t proof)))) the_back (subst (λ z. IfOk result (IsIdOf w (move A q.now y (tree_at s back) z))) (ts.same proof kp) made)

-- t, p, v, s, d, w: before, with the place, with the formula, with the equation turned round, with the relation of the words, with the proof
pub first_moved_is : (t p v s d w : TableView) (rel : Rel) (a m n place form back held word : ℕ) (here : Rewritten) {E : Type 0} (result : Result ℕ E) → IsKnown t a → IsKnown t word → IsKnownRewritten t here → Extends t p → Extends p v → Extends v s → Extends s d →
    IsKnown p place × (tree_at p place ≡ Var 0) → IsIdOf v (rel_term rel (tree_at p place) (tree_at p word)) form →
    ((x z : Exp) → tree_at v a ≡ exp_encoding x → tree_at v here.now ≡ exp_encoding z → IsIdOf s (swap x z (tree_at v here.proof)) back) → IsIdOf d (fact rel m n) held →
    ((A : Form) (x z : Exp) → tree_at d form ≡ form_encoding A → tree_at d here.now ≡ exp_encoding x → tree_at d a ≡ exp_encoding z → IfOk result (IsIdOf w (move A x z (tree_at d back) (tree_at d held)))) →
    (x : Exp) → tree_at t a ≡ exp_encoding x → tree_at t here.now ≡ exp_encoding (ELit m) → tree_at t word ≡ exp_encoding (ELit n) → IfOk result (IsIdOf w (first_moved rel x m n (tree_at t here.proof)))
first_moved_is t p v s d w rel a m n place form back held word here result ka kw kh tp pv vs sd at_place at_form at_back at_held at_moved x qa qh qw =
    let tv = grows_more t p v tp pv in
    let ts = grows_more t v s tv vs in
    let td = grows_more t s d ts sd in
    let vd = grows_more v s d vs sd in
    let A = FRel rel (EVar 0) (ELit n) in
    let the_form : tree_at d form ≡ form_encoding A = vd.same form at_form.known ∙ at_form.is ∙ (λ i. rel_term rel (at_place.1 i) ((tp.same word kw ∙ qw) i)) in
    let turned = at_back x (ELit m) (tv.same a ka ∙ qa) (tv.same here.now kh.now ∙ qh) in
    let the_back : tree_at d back ≡ swap x (ELit m) (tree_at t here.proof) = sd.same back turned.known ∙ turned.is ∙ ap (swap x (ELit m)) (tv.same here.proof kh.proof) in
    let made = at_moved A (ELit m) x the_form (td.same here.now kh.now ∙ qh) (td.same a ka ∙ qa) in
    subst (λ z. IfOk result (IsIdOf w (move A (ELit m) x z (fact rel m n)))) the_back (subst (λ z. IfOk result (IsIdOf w (move A (ELit m) x (tree_at d back) z))) at_held.is made)

-- the normal forms are one, or not
pub equal_yes : (x y : Exp) (f g : RewrittenExp) → exp_encoding f.now ≡ exp_encoding g.now → equal_forms Eq x y f g ≡ Some (equal_proof x y f g)
equal_yes x y f g e =
    let same : tree_eq (exp_encoding f.now) (exp_encoding g.now) ≡ true = subst (λ z. tree_eq (exp_encoding f.now) z ≡ true) e (tree_eq_refl (exp_encoding f.now)) in
    ap (λ b. cond b (Some (equal_proof x y f g)) None) same

pub equal_no : (x y : Exp) (f g : RewrittenExp) → (exp_encoding f.now ≡ exp_encoding g.now → ⊥) → equal_forms Eq x y f g ≡ None
equal_no x y f g n = go (tree_eq (exp_encoding f.now) (exp_encoding g.now)) refl
  where
    go : (b : Bool) → tree_eq (exp_encoding f.now) (exp_encoding g.now) ≡ b → equal_forms Eq x y f g ≡ None
    go true e = absurd (n (tree_eq-true (exp_encoding f.now) (exp_encoding g.now) e))
    go false e = ap (λ b. cond b (Some (equal_proof x y f g)) None) e
