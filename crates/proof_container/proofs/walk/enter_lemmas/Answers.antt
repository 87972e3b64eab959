use Rattle.std.proofs.Common.{◌++◌, ◌∙◌, List, ℕ, ap}
use Rattle.std.specs.List.{flat_map}
use Rattle.std.proofs.lemmas.Iterator.Adapters.{YieldsList-from_rev_slice}
use Rattle.std.proofs.lemmas.Iterator.Consumers.{YieldsList-end}
use Rattle.proof_container.specs.declared.walk.Step.{Step}
use Rattle.proof_container.proofs.Walking.{pair_steps, steps_back}
use Rattle.proof_container.proofs.walk.enter_lemmas.Goals as goal

pub returns : goal.returns
returns c =
    let before : List Step = c.args.steps.now.items in
    let road =
    YieldsList-from_rev_slice {s = c.into_iter-lemma-iterator.result} c.args.lemmas.now cc in
    let all =
    YieldsList-end road c.loop-lemma.yielded c.loop-lemma.lemma-iterator c.loop-lemma.yielded_by
    c.next.result c.next.new.self c.in-None.is c.next.ensures.steps in
    c.loop-lemma.invariant
    ∙ ap (λ (z : List (ℕ × ℕ)). before ++ flat_map pair_steps z) all.0
    ∙ ap (λ (z : List Step). before ++ z) (steps_back c.args.lemmas.now)
