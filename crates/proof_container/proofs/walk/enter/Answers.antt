use Rattle.std.proofs.Common.{◌≡◌, ◌<◌, ◌++◌, ◌∷◌, [], sym, ◌∙◌, ap, subst, is_some, get_or, None, true, false, rules}
use Rattle.std.proofs.lemmas.Result.{on_ok_weaker}
use Rattle.proof_container.specs.Inside.Walked.{IsUnderWay, part_steps, steps_cost}
use Rattle.proof_container.specs.declared.walk.Step.TheVariants.{Enter, Leave}
use Rattle.proof_container.proofs.Walking.{enter_old, enter_new, cost_off, cost_enter}
use Rattle.proof_container.proofs.walk.enter.Goals as goal

pub returns-then-is_some-clause-goes : goal.returns-then-is_some-clause-goes
returns-then-is_some-clause-goes c =
    let s : is_some (get_or c.args.walk.now.numbers.items c.args.id None) ≡ true = search rules in
    λ goal u. enter_old c.args.table.now goal c.args.walk.now c.args.steps.now.items c.args.id c.requires.known s u

pub returns-then-is_some-clause-falls : goal.returns-then-is_some-clause-falls
returns-then-is_some-clause-falls c = cost_off c.args.table.now c.args.steps.now.items (Enter c.args.id)

pub returns-clause-goes : goal.returns-clause-goes
returns-clause-goes c =
    let s : is_some (get_or c.args.walk.now.numbers.items c.args.id None) ≡ false = search rules in
    let pushed : c.push.new.self.items ≡ c.args.steps.now.items ++ Leave c.args.id ∷ [] = search rules in
    on_ok_weaker c.enter_parts.result
    (λ e goal u. subst (λ z. IsUnderWay c.args.table.now goal c.args.walk.now z) (sym (e ∙ ap (λ z. z ++ part_steps c.node.result) pushed))
    (enter_new c.args.table.now goal c.args.walk.now c.args.steps.now.items c.args.id c.node.result c.requires.known c.node.ensures.tree c.node.ensures.parts s u))
    c.enter_parts.ensures

pub returns-clause-falls : goal.returns-clause-falls
returns-clause-falls c =
    let pushed : c.push.new.self.items ≡ c.args.steps.now.items ++ Leave c.args.id ∷ [] = search rules in
    on_ok_weaker c.enter_parts.result
    (λ e. subst (λ z. steps_cost c.args.table.now z < steps_cost c.args.table.now (c.args.steps.now.items ++ Enter c.args.id ∷ [])) (sym (e ∙ ap (λ z. z ++ part_steps c.node.result) pushed))
    (cost_enter c.args.table.now c.args.steps.now.items c.args.id c.node.result c.node.ensures.tree))
    c.enter_parts.ensures
