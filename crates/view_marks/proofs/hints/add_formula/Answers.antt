use Rattle.std.proofs.Common.{◌∙◌, subst}
use Rattle.term_table.specs.Tree.{Tree}
use Rattle.prover_ids.specs.Hypotheses.{AreHyps}
use Rattle.prover_ids.proofs.HypRows.{known_hyps-more, hyps-after}
use Rattle.prover_class.specs.Hypotheses.{split_hyps, with_new}
use Rattle.view_marks.proofs.hints.add_formula.Goals as goal

pub add_split-requires-clause-hyps : goal.add_split-requires-clause-hyps
add_split-requires-clause-hyps c =
    known_hyps-more c.args.table.now c.intern.new.self c.args.hyps.now c.requires.hyps c.in_ok-proof.ensures.extends

pub returns-clause-exact : goal.returns-clause-exact
returns-clause-exact c = λ Γ F g q.
    let t = c.args.table.now in
    let u = c.intern.new.self in
    let n = c.add_split.new in
    let e = c.in_ok-proof.ensures in
    subst (λ (p : Tree). AreHyps n.table n.hyps (with_new Γ (split_hyps F p))) e.id.1
    (c.in_ok-add_split.ensures.exact Γ F (hyps-after t u c.args.hyps.now Γ c.requires.hyps e.extends g)
    (e.extends.same c.args.form c.requires.form ∙ q))
