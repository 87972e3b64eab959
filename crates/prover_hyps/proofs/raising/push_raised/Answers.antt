use Rattle.std.proofs.Common.{◌≡◌, [], ◌∷◌, ◌++◌, ◌∙◌, ap, subst, arith}
use Rattle.term_table.specs.Tree.{shift}
use Rattle.term_table.specs.Table.{IsKnown, tree_at}
use Rattle.formula_tree.specs.Formulas.{shift_form}
use Rattle.lf_terms.specs.Encoding.{form_encoding}
use Rattle.prover_ids.specs.Hypotheses.{AreHyps}
use Rattle.hereditary_subst.proofs.Rows.{grows_more}
use Rattle.prover_hyps.proofs.Raised.{shift-form_encoding}
use Rattle.prover_ids.proofs.HypRows.{known_hyps-more, hyps-after}
use Rattle.prover_hyps.proofs.Known.{known-push, hyps-push}
use Rattle.prover_hyps.proofs.raising.push_raised.Goals as goal

pub returns-clause-known : goal.returns-clause-known
returns-clause-known c =
    let t = c.args.table.now in
    let u = c.raised.new.table in
    let v = c.raised-2.new.table in
    let tu = c.in_ok-form.ensures.extends in
    let uv = c.in_ok-proof.ensures.extends in
    let f : IsKnown v c.in_ok-form.form = omega (arith, c.in_ok-form.ensures.id.known, uv.longer) in
    known-push v c.args.under.now c.push.new.self (record { form = c.in_ok-form.form; proof = c.in_ok-proof.proof }) (known_hyps-more t v c.args.under.now c.requires.under (grows_more t u v tu uv)) f c.in_ok-proof.ensures.id.known c.in_ok-push.ensures

pub returns-clause-exact : goal.returns-clause-exact
returns-clause-exact c = λ Γ A h a.
    let t = c.args.table.now in
    let u = c.raised.new.table in
    let v = c.raised-2.new.table in
    let tu = c.in_ok-form.ensures.extends in
    let uv = c.in_ok-proof.ensures.extends in
    let f : tree_at v c.in_ok-form.form ≡ form_encoding (shift_form 1 0 A) = uv.same c.in_ok-form.form c.in_ok-form.ensures.id.known ∙ c.in_ok-form.ensures.id.is ∙ ap (shift 1 0) a ∙ shift-form_encoding A 1 0 in
    let p : tree_at v c.in_ok-proof.proof ≡ shift 1 0 (tree_at t c.args.proof) = c.in_ok-proof.ensures.id.is ∙ ap (shift 1 0) (tu.same c.args.proof c.requires.proof) in
    subst (λ z. AreHyps v c.push.new.self (Γ ++ (shift_form 1 0 A, z) ∷ [])) p
    (hyps-push v c.args.under.now c.push.new.self (record { form = c.in_ok-form.form; proof = c.in_ok-proof.proof }) Γ (shift_form 1 0 A) (hyps-after t v c.args.under.now Γ c.requires.under (grows_more t u v tu uv) h) f c.in_ok-push.ensures)
