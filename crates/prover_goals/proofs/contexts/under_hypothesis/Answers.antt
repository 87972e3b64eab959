use Rattle.std.proofs.Common.{◌≡◌, ◌+◌, ◌∙◌, ap, subst, arith}
use Rattle.term_table.specs.Tree.{Tree, shift}
use Rattle.term_table.specs.Table.{tree_at, Extends}
use Rattle.formula_tree.specs.Formulas.{shift_form}
use Rattle.lf_terms.specs.Encoding.{form_encoding}
use Rattle.prover_ids.specs.Hypotheses.{AreHyps}
use Rattle.prover_class.specs.Hypotheses.{raised_hyps, split_hyps, with_new}
use Rattle.prover_hyps.proofs.Raised.{shift-form_encoding}
use Rattle.prover_ids.proofs.Standing.{twice}
use Rattle.prover_ids.proofs.HypRows.{known_hyps-more, hyps-after}
use Rattle.prover_goals.proofs.AnswerRows.{under_hypothesis_made}
use Rattle.prover_goals.proofs.Kept.{search-more}
use Rattle.prover_goals.proofs.WordRows.{on_ok, with_memo}
use Rattle.hereditary_subst.proofs.Limits.{never-spent}
use Rattle.prover_goals.proofs.contexts.under_hypothesis.Goals as goal

pub add_split-requires-clause-hyps : goal.add_split-requires-clause-hyps
add_split-requires-clause-hyps c = known_hyps-more c.raised_hyps.new.table c.intern.new.self c.in_ok-hyps.hyps c.in_ok-hyps.ensures.known (twice c.in_ok-form.ensures.extends c.in_ok-proof.ensures.extends)

pub returns-clause-under : goal.returns-clause-under
returns-clause-under c =
    let t = c.args.table.now in
    let u = c.raised_hyps.new.table in
    let v = c.raised.new.table in
    let w = c.intern.new.self in
    let z = c.add_split.new.table in
    let o = c.args.context.now in
    let n = c.new.ensures in
    let h = c.in_ok-hyps in
    let f = c.in_ok-form in
    let i = c.in_ok-proof in
    let tu : Extends t u = h.ensures.extends in
    let vw : Extends v w = i.ensures.extends in
    let uw : Extends u w = twice f.ensures.extends vw in
    under_hypothesis_made t z c.new.new.table o.hyps c.add_split.new.hyps o.outside (o.outside + 1) c.args.a c.new.result (omega arith)
    (λ Γ A g q.
    let form : tree_at w f.form ≡ form_encoding (shift_form 1 0 A) = vw.same f.form f.ensures.id.known ∙ f.ensures.id.is ∙ ap (shift 1 0) (tu.same c.args.a c.requires.a ∙ q) ∙ shift-form_encoding A 1 0 in
    subst (λ (p : Tree). AreHyps z c.add_split.new.hyps (with_new (raised_hyps Γ) (split_hyps (shift_form 1 0 A) p))) i.ensures.id.1
    (c.in_ok-add_split.ensures.exact (raised_hyps Γ) (shift_form 1 0 A) (hyps-after u w h.hyps (raised_hyps Γ) h.ensures.known uw (h.ensures.exact Γ g)) form))
    c.in_ok-add_split.ensures.known n.extends n.context n.hyps n.outside

pub returns-clause-search : goal.returns-clause-search
returns-clause-search c =
    let t = c.args.table.now in
    let v = c.raised.new in
    let x = twice c.in_ok-hyps.ensures.extends c.in_ok-form.ensures.extends in
    let s = with_memo t v.table c.spend_terms.new.self v.memo (c.spend_terms.ensures.search _ c.requires.search) x c.in_ok-form.ensures.memo in
    let y : Extends v.table c.new.new.table = twice c.in_ok-proof.ensures.extends (twice c.in_ok-add_split.ensures.extends c.new.ensures.extends) in
    on_ok c.new.result (search-more _ v.table c.new.new.table s y)

pub returns-clause-spends : goal.returns-clause-spends
returns-clause-spends c =
    let s = c.in_ok-spend_terms.ensures.spends in
    let h = c.in_ok-hyps.ensures.spends in
    let f = c.in_ok-form.ensures.spends in
    (f.0 ∙ h.0 ∙ s.0, omega (arith, s.1, h.1, f.1), never-spent c.new.new.table c.raised.new.memo c.new.result c.new.ensures.memory)
