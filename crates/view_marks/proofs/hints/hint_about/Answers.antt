use Rattle.std.proofs.Common.{◌≡◌, List, [], sym, ◌∙◌, subst}
use Rattle.term_table.specs.Table.{tree_at}
use Rattle.lf_terms.specs.Encoding.{form_encoding}
use Rattle.prover_ids.specs.Hypotheses.{AreHyps}
use Rattle.prover_ids.specs.declared.hypotheses.Hypothesis.{Hypothesis}
use Rattle.prover_ids.proofs.HypRows.{hyps-after}
use Rattle.prover_ids.proofs.Standing.{twice}
use Rattle.prover_goals.proofs.Kept.{search-more}
use Rattle.view_marks.specs.Hints.{known_hyps}
use Rattle.view_marks.proofs.hints.hint_about.Goals as goal

pub hint_of-requires-clause-search : goal.hint_of-requires-clause-search
hint_of-requires-clause-search c =
    let t = c.args.table.now in
    search-more c.spend_steps.new.self t c.new.new.table
    (c.in_ok-spend_steps.ensures.search t c.requires.search)
    (twice c.in_ok-hyps.ensures.extends c.in_ok-context.ensures.extends)

pub returns-clause-exact : goal.returns-clause-exact
returns-clause-exact c = λ Fs A e q.
    let t1 = c.hypotheses_of.new.table in
    let t2 = c.new.new.table in
    let hyps = c.in_ok-hyps.ensures in
    let start = c.in_ok-context.ensures in
    let Γ = known_hyps [] 0 Fs in
    let here = subst (λ (l : List Hypothesis). AreHyps t2 l Γ) (sym start.hyps)
    (hyps-after t1 t2 c.in_ok-hyps.hyps Γ hyps.known start.extends (hyps.exact Fs e)) in
    let part_is : tree_at t2 c.args.part ≡ form_encoding A =
    (twice hyps.extends start.extends).same c.args.part c.requires.part ∙ q in
    c.in_ok-hint.ensures.exact Γ A here part_is
