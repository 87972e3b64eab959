use Rattle.std.proofs.Common.{◌≡◌, ℕ, List, [], ◌∷◌, is_some, refl, sym, ◌∙◌, subst}
use Rattle.term_table.specs.Table.{tree_at, Stands}
use Rattle.lf_terms.specs.Encoding.{form_encoding}
use Rattle.prover_class.specs.Access.{without_access, by_access}
use Rattle.prover_ids.specs.Hypotheses.{AreHyps}
use Rattle.prover_ids.specs.declared.hypotheses.Hypothesis.{Hypothesis}
use Rattle.prover_ids.proofs.HypRows.{hyps-after}
use Rattle.prover_ids.proofs.Standing.{twice}
use Rattle.prover_goals.proofs.Kept.{search-more}
use Rattle.view_marks.specs.Hints.{known_hyps}
use Rattle.view_marks.proofs.Leading.{found-easy}
use Rattle.view_marks.proofs.halves.is_granted.Goals as goal

pub proof_by_access-requires-clause-search : goal.proof_by_access-requires-clause-search
proof_by_access-requires-clause-search c =
    search-more c.args.search.now c.args.table.now c.new.new.table c.requires.search
    (twice c.in_ok-hyps.ensures.extends c.in_ok-context.ensures.extends)

pub returns-clause-exact : goal.returns-clause-exact
returns-clause-exact c = λ A F qa qf.
    let t1 = c.hypotheses_of.new.table in
    let t2 = c.new.new.table in
    let t3 = c.proof_by_access.new.table in
    let hyps = c.in_ok-hyps.ensures in
    let start = c.in_ok-context.ensures in
    let o = c.in_ok-proof.proof in
    let prove = by_access (without_access c.args.counted) in
    let Γ = known_hyps [] 0 (F ∷ []) in
    let here = subst (λ (l : List Hypothesis). AreHyps t2 l Γ) (sym start.hyps)
    (hyps-after t1 t2 c.in_ok-hyps.hyps Γ hyps.known start.extends (hyps.exact (F ∷ []) (λ i. qf i ∷ []))) in
    let goal_is : tree_at t2 c.args.goal ≡ form_encoding A =
    (twice hyps.extends start.extends).same c.args.goal c.requires.goal ∙ qa in
    let found = subst (λ (n : ℕ). Stands t3 (prove n Γ A) o) start.outside
    (c.in_ok-proof.ensures.exact Γ A here goal_is) in
    c.is_some.ensures ∙ sym (found-easy t3 (prove 33 Γ A) o (is_some o) refl found)
