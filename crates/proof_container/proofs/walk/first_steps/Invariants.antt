use Rattle.std.proofs.Common.{◌≡◌, ◌++◌, map}
use Rattle.proof_container.specs.Inside.Walked.{proof_steps, lemma_steps}
use Rattle.proof_container.proofs.Walking.{enter_inv}
use Rattle.proof_container.proofs.walk.first_steps.Given as goal

abbrev pub invariant-loop-inv : goal.invariant-loop-inv
invariant-loop-inv l = l.steps.items ≡ proof_steps l.fn.proof
    ++ (lemma_steps l.fn.lemmas ++ map enter_inv (map (λ inv. inv.now) l.yielded))
