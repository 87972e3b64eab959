use Rattle.std.proofs.Common.{◌≡◌, ◌++◌, map}
use Rattle.std.specs.List.{flat_map}
use Rattle.proof_container.proofs.Walking.{pair_steps}
use Rattle.proof_container.proofs.walk.enter_lemmas.Given as goal

abbrev pub invariant-loop-lemma : goal.invariant-loop-lemma
invariant-loop-lemma l = l.steps.items ≡
    l.initial.steps.items ++ flat_map pair_steps (map (λ lemma. lemma.now) l.yielded)
