use Rattle.std.proofs.Common.{◌≡◌, ◌++◌, ◌∷◌, [], length, replicate, None, rules, subst}
use Rattle.proof_container.specs.Postorder.{entries}
use Rattle.proof_container.specs.Inside.Walked.{IsUnderWay}
use Rattle.proof_container.specs.Walks.{root_trees}
use Rattle.proof_container.proofs.Walking.{begins, last_known}
use Rattle.proof_container.proofs.walk.walk_from.Goals as goal

pub loop-step-init : goal.loop-step-init
loop-step-init c =
    let table = c.args.table.now in
    let none : c.in_ok-vec.field-0.items ≡ replicate (length table.trees) None = search rules in
    begins table c.args.invs.now c.args.lemmas.now c.args.proof _ c.in_ok-steps.steps.items c.requires.known
    c.requires.lemmas c.new.ensures.items none c.in_ok-steps.ensures

pub take_step-requires-clause-known : goal.take_step-requires-clause-known
take_step-requires-clause-known c =
    let table = c.args.table.now in
    let more : c.loop-step.steps.items ≡ c.pop.new.self.items ++ c.in-Some.step ∷ [] = search rules in
    let way = subst (λ z. IsUnderWay table (entries (root_trees table c.args.invs.now c.args.lemmas.now c.args.proof)) c.loop-step.walk z) more c.loop-step.invariant in
    last_known table _ c.loop-step.walk c.pop.new.self.items c.in-Some.step way
