-- The step from one side of an equation to the other, put together of ids.
use Rattle.std.proofs.Common.{◌≡◌, ℕ, Result, IfOk, ◌∙◌, ap, subst, arith}
use Rattle.word_ops.specs.declared.Rel.TheVariants.{Eq}
use Rattle.term_table.specs.Tree.{Var, shift}
use Rattle.term_table.specs.Table.{TableView, IsKnown, tree_at, Extends}
use Rattle.lf_signature.specs.Nodes.{IsIdOf}
use Rattle.lf_signature.specs.Terms.{rel_term}
use Rattle.formula_tree.specs.Formulas.{Exp, EVar, Form, FRel}
use Rattle.lf_terms.specs.Encoding.{exp_encoding, form_encoding}
use Rattle.lf_terms.proofs.Encoded.{shift-exp_encoding}
use Rattle.lf_terms.specs.ProofTerms.{eq_refl, move, swap, up}

-- an id of an earlier table, four steps later
later : (t p u v w : TableView) (id : ℕ) → IsKnown t id → Extends t p → Extends p u → Extends u v → Extends v w → tree_at w id ≡ tree_at t id
later t p u v w id k tp pu uv vw =
    vw.same id (omega (arith, k, tp.longer, pu.longer, uv.longer)) ∙ uv.same id (omega (arith, k, tp.longer, pu.longer)) ∙ pu.same id (omega (arith, k, tp.longer)) ∙ tp.same id k

-- t, p, u, v, w, y: before, with the place, with the raised expression, with the formula, with the proof that a equals itself, with the step
pub swapped_is : (t p u v w y : TableView) (a b equal place under form itself : ℕ) {E : Type 0} (r : Result ℕ E) → IsKnown t a → IsKnown t b → IsKnown t equal → Extends t p → Extends p u → Extends u v → Extends v w →
    IsKnown p place × (tree_at p place ≡ Var 0) → IsIdOf u (shift 1 0 (tree_at p a)) under → IsIdOf v (rel_term Eq (tree_at u place) (tree_at u under)) form →
    ((x : Exp) → tree_at v a ≡ exp_encoding x → IsIdOf w (eq_refl x) itself) →
    ((A : Form) (x z : Exp) → tree_at w form ≡ form_encoding A → tree_at w a ≡ exp_encoding x → tree_at w b ≡ exp_encoding z → IfOk r (IsIdOf y (move A x z (tree_at w equal) (tree_at w itself)))) →
    (x z : Exp) → tree_at t a ≡ exp_encoding x → tree_at t b ≡ exp_encoding z → IfOk r (IsIdOf y (swap x z (tree_at t equal)))
swapped_is t p u v w y a b equal place under form itself r ka kb ke tp pu uv vw at_place at_under at_form at_itself at_moved x z qa qb =
    let in_v : tree_at v a ≡ tree_at t a = uv.same a (omega (arith, ka, tp.longer, pu.longer)) ∙ pu.same a (omega (arith, ka, tp.longer)) ∙ tp.same a ka in
    let itself_is = at_itself x (in_v ∙ qa) in
    let the_place : tree_at u place ≡ Var 0 = pu.same place at_place.0 ∙ at_place.1 in
    let the_under : tree_at u under ≡ exp_encoding (up x) = at_under.is ∙ ap (shift 1 0) (tp.same a ka ∙ qa) ∙ shift-exp_encoding x 1 0 in
    let the_form : tree_at w form ≡ form_encoding (FRel Eq (EVar 0) (up x)) = vw.same form at_form.known ∙ at_form.is ∙ (λ i. rel_term Eq (the_place i) (the_under i)) in
    let made = at_moved (FRel Eq (EVar 0) (up x)) x z the_form (later t p u v w a ka tp pu uv vw ∙ qa) (later t p u v w b kb tp pu uv vw ∙ qb) in
    subst (λ q. IfOk r (IsIdOf y (move (FRel Eq (EVar 0) (up x)) x z q (eq_refl x)))) (later t p u v w equal ke tp pu uv vw)
    (subst (λ q. IfOk r (IsIdOf y (move (FRel Eq (EVar 0) (up x)) x z (tree_at w equal) q))) itself_is.is made)
