use Rattle.std.proofs.Common.{[], ◌∷◌}
use Rattle.term_table.specs.Table.{tree_at}
use Rattle.lf_signature.specs.Nodes.{IsIdOf}
use Rattle.prover_ids.proofs.Standing.{ruled}
use Rattle.prover_goals.specs.Inside.Connectives.{join_tree}
use Rattle.prover_goals.proofs.Connecting.{none_made, some_made}
use Rattle.prover_goals.proofs.introductions.joined.Goals as goal

pub returns-in-None-clause-exact : goal.returns-in-None-clause-exact
returns-in-None-clause-exact c = λ A B o qa qb s.
    let t = c.args.table.now in
    none_made t t (join_tree c.args.rule A B) o c.args.side c.in-None.is s

pub returns-in_ok-proof-in-Some-clause-exact : goal.returns-in_ok-proof-in-Some-clause-exact
returns-in_ok-proof-in-Some-clause-exact c = λ A B o qa qb s.
    let t = c.args.table.now in
    let u = c.rule_term.new.table in
    let n = c.in_ok-proof-in-Some in
    some_made t u (join_tree c.args.rule A B) o c.args.side c.in-Some.p n.proof c.in-Some.is s (ruled (λ z. IsIdOf u z n.proof) c.args.rule (λ i. qa i ∷ qb i ∷ tree_at t c.in-Some.p ∷ []) n.ensures.id)
