use Rattle.std.proofs.Common.{◌≡◌, Some, None, sym, ◌∙◌, ap, subst}
use Rattle.term_table.specs.Table.{tree_at}
use Rattle.lf_terms.specs.Encoding.{exp_encoding}
use Rattle.prover_class.specs.NormalForms.{equal_forms}
use Rattle.prover_sums.proofs.Relations.{equal_yes, equal_no}
use Rattle.prover_sums.proofs.form_proofs.equal_forms.Goals as goal

pub returns-in_ok-proof-in-Eq-clause-exact : goal.returns-in_ok-proof-in-Eq-clause-exact
returns-in_ok-proof-in-Eq-clause-exact c =
    λ x y f g qa qb hp hq.
    let t = c.args.table.now in
    let ids : c.args.p.now ≡ c.args.q.now = sym c.number.ensures ∙ c.if-number.true ∙ c.number-in-Eq.ensures in
    let one : exp_encoding f.now ≡ exp_encoding g.now = sym hp.now ∙ ap (tree_at t) ids ∙ hq.now in
    let made = c.in_ok-proof-in-Eq.ensures.exact x y f g qa qb hp hq in
    (made.known, subst (λ r. equal_forms r x y f g ≡ Some (tree_at c.equal_proof.new.table c.in_ok-proof-in-Eq.proof)) (sym c.in-Eq.is) (equal_yes x y f g one ∙ ap Some (sym made.is)))

pub returns-else-number-clause-exact : goal.returns-else-number-clause-exact
returns-else-number-clause-exact c =
    λ x y f g qa qb hp hq.
    let t = c.args.table.now in
    subst (λ r. equal_forms r x y f g ≡ None) (sym c.in-Eq.is)
    (equal_no x y f g (λ one. c.if-number.false (c.number.ensures ∙ c.laws.ensures.different c.args.p.now c.args.q.now c.requires.p.now c.requires.q.now (hp.now ∙ one ∙ sym hq.now) ∙ sym c.number-in-Eq.ensures)))
