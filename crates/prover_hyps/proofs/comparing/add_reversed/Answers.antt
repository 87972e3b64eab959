use Rattle.std.proofs.Common.{◌≡◌, [], ◌∷◌, OnOk, ◌∙◌, subst}
use Rattle.word_ops.specs.declared.Rel.TheVariants.{Ule}
use Rattle.term_table.specs.Tree.{App, Con, Num}
use Rattle.term_table.specs.Table.{tree_at}
use Rattle.lf_signature.specs.Terms.{app2}
use Rattle.lf_signature.specs.declared.numbers.TheConstants.{NOT_LT}
use Rattle.formula_tree.specs.Formulas.{FRel}
use Rattle.lf_terms.specs.Encoding.{form_encoding}
use Rattle.prover_ids.specs.Hypotheses.{AreHyps}
use Rattle.lf_terms.specs.ProofTerms.{word_rule}
use Rattle.prover_class.specs.Hypotheses.{with_new}
use Rattle.hereditary_subst.proofs.Rows.{grows_more}
use Rattle.prover_ids.proofs.HypRows.{hyps-after}
use Rattle.prover_hyps.proofs.comparing.add_reversed.Goals as goal

pub returns-clause-exact : goal.returns-clause-exact
returns-clause-exact c = λ Γ x y h a b.
    let t = c.args.table.now in
    let u = c.app2.new.table in
    let v = c.rule_term.new.table in
    let tu = c.in_ok-form.ensures.extends in
    let uv = c.in_ok-reversed.ensures.extends in
    let f : tree_at v c.in_ok-form.form ≡ form_encoding (FRel Ule y x) = uv.same c.in_ok-form.form c.in_ok-form.ensures.id.known ∙ c.in_ok-form.ensures.id.is ∙ (λ i. app2 (c.rel_constant.ensures i) (b i) (a i)) in
    let g : tree_at v c.in_ok-reversed.reversed ≡ word_rule NOT_LT (x ∷ y ∷ []) (tree_at t c.args.proof ∷ []) =
    c.in_ok-reversed.ensures.id.is ∙ (λ i. App (App (App (Con (Num NOT_LT)) ((tu.same c.args.a c.requires.a ∙ a) i)) ((tu.same c.args.b c.requires.b ∙ b) i)) (tu.same c.args.proof c.requires.proof i)) in
    subst (λ z. OnOk c.add.result (AreHyps v c.add.new.hyps (with_new Γ ((FRel Ule y x, z) ∷ [])))) g
    (c.add.ensures.exact Γ (FRel Ule y x) (hyps-after t v c.args.hyps.now Γ c.requires.hyps (grows_more t u v tu uv) h) f)
