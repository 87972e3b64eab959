use Rattle.std.proofs.Common.{[], ◌∷◌}
use Rattle.term_table.specs.Table.{tree_at}
use Rattle.lf_signature.specs.Nodes.{IsIdOf}
use Rattle.lf_signature.specs.declared.numbers.TheConstants.{AND_I}
use Rattle.lf_terms.specs.ProofTerms.{and_i}
use Rattle.prover_ids.proofs.Standing.{ruled}
use Rattle.prover_goals.proofs.Connecting.{none_made, some_made}
use Rattle.prover_goals.proofs.introductions.both.Goals as goal

pub returns-in-None-clause-exact : goal.returns-in-None-clause-exact
returns-in-None-clause-exact c = λ A B o qa qb s.
    let t = c.args.table.now in
    none_made t t (and_i A B (tree_at t c.args.p)) o c.args.right c.in-None.is s

pub returns-in_ok-proof-in-Some-clause-exact : goal.returns-in_ok-proof-in-Some-clause-exact
returns-in_ok-proof-in-Some-clause-exact c = λ A B o qa qb s.
    let t = c.args.table.now in
    let u = c.rule_term.new.table in
    let n = c.in_ok-proof-in-Some in
    some_made t u (and_i A B (tree_at t c.args.p)) o c.args.right c.in-Some.q n.proof c.in-Some.is s (ruled (λ z. IsIdOf u z n.proof) AND_I (λ i. qa i ∷ qb i ∷ tree_at t c.args.p ∷ tree_at t c.in-Some.q ∷ []) n.ensures.id)
