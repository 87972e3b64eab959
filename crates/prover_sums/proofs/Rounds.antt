-- Rounds of rewriting with proofs, and what is kept of normal forms.
use Rattle.std.proofs.Common.{◌≡◌, ℕ, List, [], ◌∷◌, Result, IfOk, ◌∙◌, subst}
use Rattle.term_table.specs.Table.{TableView, IsKnown, tree_at, Extends}
use Rattle.word_ops.specs.declared.Rel.TheVariants.{Eq}
use Rattle.lf_signature.specs.Nodes.{IsIdOf}
use Rattle.lf_signature.specs.Terms.{rel_term}
use Rattle.formula_tree.specs.Formulas.{Exp, Form, FRel}
use Rattle.lf_terms.specs.Encoding.{exp_encoding, form_encoding}
use Rattle.hereditary_subst.proofs.Rows.{grows_more}
use Rattle.prover_ids.specs.declared.kept.Kept.{Kept}
use Rattle.prover_ids.proofs.KeptRows.{right-more}
use Rattle.lf_terms.specs.ProofTerms.{up, move}
use Rattle.prover_class.specs.NormalForms.{Rewriting, after_steps}
use Rattle.prover_forms.specs.Inside.Rounds.{GoesOn}
use Rattle.prover_sums.specs.declared.rewriting.Rewrite.{Rewrite}
use Rattle.prover_sums.specs.declared.rewriting.Rewrites.{Rewrites}
use Rattle.prover_sums.specs.declared.rewriting.Rewrites.TheVariants as R
use Rattle.prover_sums.specs.declared.equations.Place.{Place}
use Rattle.prover_sums.specs.declared.equations.Rewritten.{Rewritten}
use Rattle.prover_sums.specs.Inside.Rewrites.{IsKnownRewrite, IsRewrite, AreKnownRewrites, AreRewrites}
use Rattle.prover_sums.specs.Inside.Rounds.{after_step, IsNext}
use Rattle.prover_sums.specs.NormalForms.{RewrittenExp, pair_of, IsKnownRewritten, IsRewritten, IsNormalForm, AreNormalForms}
use Rattle.prover_sums.specs.Lasting.{form-lasts}
use Rattle.prover_sums.proofs.Rewrites.{rewrite-more}

pub forms-more : (kept : Kept Place Rewritten) (t u : TableView) → AreNormalForms t kept → Extends t u → AreNormalForms u kept
forms-more kept t u h e = right-more IsNormalForm t u (λ q r i. form-lasts t u q r e i) h

-- t, u, w: before, with the formula, with the proof
pub after_step_is : (t u w : TableView) (above : ℕ) (step : Rewrite) (here : Rewritten) (form proof : ℕ) → IsKnownRewrite t step → IsKnownRewritten t here → Extends t u → Extends u w →
    IsIdOf u (rel_term Eq (tree_at t above) (tree_at t step.into)) form →
    ((A : Form) (x y : Exp) → tree_at u form ≡ form_encoding A → tree_at u step.from ≡ exp_encoding x → tree_at u step.to ≡ exp_encoding y → IsIdOf w (move A x y (tree_at u step.proof) (tree_at u here.proof)) proof) →
    (x : Exp) (s : Rewriting) (r : RewrittenExp) → tree_at t above ≡ exp_encoding (up x) → IsRewrite t step s → IsRewritten t here r → IsRewritten w (pair_of step.after proof) (after_step x s r)
after_step_is t u w above step here form proof ks kh tu uw at_form at_proof x s r q h g =
    let A = FRel Eq (up x) s.into in
    let the_form : tree_at u form ≡ form_encoding A = at_form.is ∙ (λ i. rel_term Eq (q i) (h.into i)) in
    let made = at_proof A s.from s.to the_form (tu.same step.from ks.from ∙ h.from) (tu.same step.to ks.to ∙ h.to) in record {
      now = (grows_more t u w tu uw).same step.after ks.after ∙ h.after;
      proof = made.is ∙ (λ i. move A s.from s.to ((tu.same step.proof ks.proof ∙ h.proof) i) ((tu.same here.proof kh.proof ∙ g.proof) i));
    }

-- t, u, v, w: before, after the first, the second, the third
three_after : (t u v w : TableView) (above : ℕ) (a b c : Rewrite) (here one two : Rewritten) {E : Type 0} (result : Result Rewritten E) → IsKnown t above → IsKnownRewrite t b → IsKnownRewrite t c → Extends t u → Extends u v →
    ((x : Exp) (s : Rewriting) (r : RewrittenExp) → tree_at t above ≡ exp_encoding (up x) → IsRewrite t a s → IsRewritten t here r → IsRewritten u one (after_step x s r)) →
    ((x : Exp) (s : Rewriting) (r : RewrittenExp) → tree_at u above ≡ exp_encoding (up x) → IsRewrite u b s → IsRewritten u one r → IsRewritten v two (after_step x s r)) →
    ((x : Exp) (s : Rewriting) (r : RewrittenExp) → tree_at v above ≡ exp_encoding (up x) → IsRewrite v c s → IsRewritten v two r → IfOk result (λ q. IsRewritten w q (after_step x s r))) →
    (x : Exp) (l : List Rewriting) (r : RewrittenExp) → tree_at t above ≡ exp_encoding (up x) → AreRewrites t (R.Three a b c) l → IsRewritten t here r → IfOk result (λ q. IsRewritten w q (after_steps x l r))
three_after t u v w above a b c here one two result ka kb kc tu uv fa fb fc x [] r q h g = absurd h
three_after t u v w above a b c here one two result ka kb kc tu uv fa fb fc x (s ∷ []) r q h g = absurd h
three_after t u v w above a b c here one two result ka kb kc tu uv fa fb fc x (s ∷ (p ∷ [])) r q h g = absurd h
three_after t u v w above a b c here one two result ka kb kc tu uv fa fb fc x (s ∷ (p ∷ (k ∷ []))) r q h g =
    let tv = grows_more t u v tu uv in
    let first = fa x s r q h.0 g in
    let second = fb x p (after_step x s r) (tu.same above ka ∙ q) (rewrite-more t u b p kb tu h.1) first in
    fc x k (after_step x p (after_step x s r)) (tv.same above ka ∙ q) (rewrite-more t v c k kc tv h.2) second
three_after t u v w above a b c here one two result ka kb kc tu uv fa fb fc x (s ∷ (p ∷ (k ∷ (m ∷ l)))) r q h g = absurd h

pub three_after_is : (t u v w : TableView) (above : ℕ) (steps : Rewrites) (a b c : Rewrite) (here one two : Rewritten) {E : Type 0} (result : Result Rewritten E) → steps ≡ R.Three a b c → IsKnown t above → AreKnownRewrites t steps → Extends t u → Extends u v →
    ((x : Exp) (s : Rewriting) (r : RewrittenExp) → tree_at t above ≡ exp_encoding (up x) → IsRewrite t a s → IsRewritten t here r → IsRewritten u one (after_step x s r)) →
    ((x : Exp) (s : Rewriting) (r : RewrittenExp) → tree_at u above ≡ exp_encoding (up x) → IsRewrite u b s → IsRewritten u one r → IsRewritten v two (after_step x s r)) →
    ((x : Exp) (s : Rewriting) (r : RewrittenExp) → tree_at v above ≡ exp_encoding (up x) → IsRewrite v c s → IsRewritten v two r → IfOk result (λ q. IsRewritten w q (after_step x s r))) →
    (x : Exp) (l : List Rewriting) (r : RewrittenExp) → tree_at t above ≡ exp_encoding (up x) → AreRewrites t steps l → IsRewritten t here r → IfOk result (λ q. IsRewritten w q (after_steps x l r))
three_after_is t u v w above steps a b c here one two result is ka k tu uv fa fb fc x l r q h g =
    let ks = subst (AreKnownRewrites t) is k in
    three_after t u v w above a b c here one two result ka ks.1 ks.2 tu uv fa fb fc x l r q (subst (λ z. AreRewrites t z l) is h) g

-- a round that goes on
pub next_goes : (t : TableView) (e : Exp) (l : List Rewriting) (here : RewrittenExp) (r : Rewritten) → IsNext t e l here r → GoesOn (IsRewritten t r) e l here
next_goes t e l here r n = record { first = n.first; others = n.others; some = n.some; holds = n.stands }
