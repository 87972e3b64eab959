use Rattle.std.proofs.Common.{[], ◌∷◌, ◌∙◌, ap}
use Rattle.term_table.specs.Tree.{Lam}
use Rattle.lf_signature.specs.Nodes.{IsIdOf}
use Rattle.prover_ids.proofs.Standing.{ruled}
use Rattle.prover_goals.specs.Inside.Connectives.{over_tree}
use Rattle.prover_goals.proofs.Connecting.{none_made, some_made, there_known}
use Rattle.prover_goals.proofs.introductions.generalized.Goals as goal

pub returns-in-None-clause-exact : goal.returns-in-None-clause-exact
returns-in-None-clause-exact c = λ B o qb s.
    let t = c.args.table.now in
    none_made t t (over_tree c.args.rule B) o c.args.body c.in-None.is s

pub returns-in_ok-proof-in-Some-clause-exact : goal.returns-in_ok-proof-in-Some-clause-exact
returns-in_ok-proof-in-Some-clause-exact c = λ B o qb s.
    let t = c.args.table.now in
    let v = c.rule_term.new.table in
    let n = c.in_ok-proof-in-Some in
    let form = c.in_ok-form-in-Some.ensures in
    let under = c.in_ok-under-in-Some.ensures in
    some_made t v (over_tree c.args.rule B) o c.args.body c.in-Some.p n.proof c.in-Some.is s
    (ruled (λ z. IsIdOf v z n.proof) c.args.rule (λ i. (under.extends.same c.in_ok-form-in-Some.form form.id.0 ∙ form.id.1 ∙ ap Lam qb) i ∷ (under.id.1 ∙ ap Lam (form.extends.same c.in-Some.p (there_known t c.args.body c.in-Some.p c.in-Some.is c.requires.body))) i ∷ []) n.ensures.id)
