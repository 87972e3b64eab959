-- Rounds of rewriting, one after another.
use Rattle.std.proofs.Common.{◌≡◌, ℕ, suc, ◌+◌, ◌-◌, ◌<◌, ◌≤◌, false, nat_lt, min, List, [], ◌∷◌, refl, sym, ◌∙◌, ap, subst, arith}
use Rattle.std.proofs.lemmas.Bool.{le-ltb}
use Rattle.term_table.specs.Tree.{Tree}
use Rattle.term_table.specs.Table.{TableView}
use Rattle.word_ops.specs.declared.Rel.TheVariants.{Eq}
use Rattle.lf_signature.specs.Nodes.{IsIdOf}
use Rattle.formula_tree.specs.Formulas.{Exp, FRel}
use Rattle.formula_tree.specs.Variables.{PExp, subst_var_exp}
use Rattle.lf_terms.specs.Encoding.{exp_encoding}
use Rattle.lf_terms.specs.ProofTerms.{up, move}
use Rattle.prover_class.specs.NormalForms.{Rewriting, whole_step, turned, Rewritten, rewritten, after_steps, continue_with, redex, normalized}
use Rattle.prover_forms.specs.Rules.{regrouped_sum}
use Rattle.prover_forms.specs.Inside.Rounds.{expression_after, IsNextExp, StandsFor, GoesOn, LeadsTo}

-- ---- what the id of an expression after a round is

-- the id of what is after some rewritings
some_next : (t : TableView) (e : Exp) (s : Rewriting) (l : List Rewriting) (id : ℕ)
    → IsIdOf t (exp_encoding (expression_after e (s ∷ l))) id → IsNextExp t e (s ∷ l) id
some_next t e s l id h = record { first = s; others = l; some = refl; is = h.is }

-- after a rewriting of the whole
pub whole_next : (t : TableView) (e f x : Exp) (p : Tree) (l : List Rewriting) (id : ℕ)
    → l ≡ whole_step f x p → IsIdOf t (exp_encoding x) id → IsNextExp t e l id
whole_next t e f x p l id q h = subst (λ k. IsNextExp t e k id) (sym q) (some_next t e _ _ id h)

-- after the three by which a sum is turned
pub turned_next : (t : TableView) (e x y z : Exp) (l : List Rewriting) (id : ℕ)
    → l ≡ turned x y z → IsIdOf t (exp_encoding (regrouped_sum y x z)) id → IsNextExp t e l id
turned_next t e x y z l id q h = subst (λ k. IsNextExp t e k id) (sym q) (some_next t e _ _ id h)

-- the expression is the one that the rewritings with their proofs give
after_steps-now : (e : Exp) (l : List Rewriting) (r : Rewritten) → (after_steps e l r).now ≡ expression_after r.now l
after_steps-now e [] r = refl
after_steps-now e (s ∷ l) r = after_steps-now e l (rewritten (subst_var_exp s.into 0 (PExp s.to)) (move (FRel Eq (up e) s.into) s.from s.to s.proof r.proof))

pub next_goes : (t : TableView) (e : Exp) (l : List Rewriting) (here : Rewritten) (id : ℕ) → IsNextExp t here.now l id
    → GoesOn (λ q. StandsFor t q id) e l here
next_goes t e l here id n = record {
  first = n.first;
  others = n.others;
  some = n.some;
  holds = n.is ∙ sym (ap exp_encoding (after_steps-now e l here));
}

-- ---- round after round

normalized-next : (out n : ℕ) (e : Exp) (r : Rewritten) → normalized out (suc n) e r ≡ continue_with (normalized out n e) e r (redex out r.now)
unfolding normalized
normalized-next out n e r = refl

normalized-none : (out : ℕ) (e : Exp) (r : Rewritten) → normalized out 0 e r ≡ r
unfolding normalized
normalized-none out e r = refl

continue_some : (again : Rewritten → Rewritten) (e : Exp) (r : Rewritten) (l : List Rewriting) (s : Rewriting) (m : List Rewriting) → l ≡ s ∷ m
    → continue_with again e r l ≡ again (after_steps e l r)
continue_some again e r l s m q = ap (continue_with again e r) q ∙ ap (λ k. again (after_steps e k r)) (sym q)

-- one round more
pub leads_next : (P Q : Rewritten → Type 0) (out rounds i : ℕ) (e : Exp) (aim : Rewritten) → i < rounds → LeadsTo P out (rounds - i) e aim
    → ((r : Rewritten) → P r → GoesOn Q e (redex out r.now) r) → LeadsTo Q out (rounds - (i + 1)) e aim
leads_next P Q out rounds i e aim less w go =
    let n = go w.here w.holds in
    let rest = normalized out (rounds - (i + 1)) e in
    let steps = redex out w.here.now in
    let count : rounds - i ≡ suc (rounds - (i + 1)) = omega (arith, less) in
    let led : normalized out (suc (rounds - (i + 1))) e w.here ≡ aim = subst (λ k. normalized out k e w.here ≡ aim) count w.leads in record {
      here = after_steps e steps w.here;
      holds = n.holds;
      leads = sym (normalized-next out (rounds - (i + 1)) e w.here ∙ continue_some rest e w.here steps n.first n.others n.some) ∙ led;
    }

-- there is nothing more to rewrite
pub leads_stop : (P : Rewritten → Type 0) (out rounds i : ℕ) (e : Exp) (aim : Rewritten) → i < rounds → LeadsTo P out (rounds - i) e aim
    → ((r : Rewritten) → P r → redex out r.now ≡ []) → P aim
leads_stop P out rounds i e aim less w go =
    let rest = normalized out (rounds - (i + 1)) e in
    let count : rounds - i ≡ suc (rounds - (i + 1)) = omega (arith, less) in
    let led : normalized out (suc (rounds - (i + 1))) e w.here ≡ aim = subst (λ k. normalized out k e w.here ≡ aim) count w.leads in
    let same : w.here ≡ aim = sym (normalized-next out (rounds - (i + 1)) e w.here ∙ ap (continue_with rest e w.here) (go w.here w.holds)) ∙ led in
    subst P same w.holds

-- the rounds are over
pub leads_end : (P : Rewritten → Type 0) (out rounds i : ℕ) (e : Exp) (aim : Rewritten) → rounds ≤ i → LeadsTo P out (rounds - i) e aim → P aim
leads_end P out rounds i e aim over w =
    let none : rounds - i ≡ 0 = omega (arith, over) in
    let led : w.here ≡ aim = sym (normalized-none out e w.here) ∙ subst (λ k. normalized out k e w.here ≡ aim) none w.leads in
    subst P led w.holds

-- few leaves: the rounds
pub few_leaves : (n m : ℕ) → m ≤ 64 → m ≡ min n 65 → nat_lt 64 n ≡ false
few_leaves n m h q = le-ltb 64 n (omega (arith, h, q))
