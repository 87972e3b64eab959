use Rattle.std.proofs.Common.{subst}
use Rattle.prover_class.specs.Bounds.{WordBound}
use Rattle.prover_bounds.specs.declared.bounds.Side.TheVariants.{Upper, Lower}
use Rattle.prover_bounds.specs.Choices.{IsChoice, AreParts, IsDifference}
use Rattle.prover_bounds.proofs.Choosing.{upper_alone, lower_alone}
use Rattle.prover_bounds.proofs.best_bounds.+choosing.Goals as goal

pub upper_choice-returns-in-None-clause-exact : goal.upper_choice-returns-in-None-clause-exact
upper_choice-returns-in-None-clause-exact t c = λ Γ x g q.
    let none = subst (AreParts c.args.table.now x) c.in-None.is (c.parts_of.ensures.is x q) in
    subst (λ (w : WordBound). IsChoice Upper Γ x w c.choice_alone.result) (upper_alone Γ x none) (c.choice_alone.ensures Γ x g q)

pub lower_choice-returns-in-None-clause-exact : goal.lower_choice-returns-in-None-clause-exact
lower_choice-returns-in-None-clause-exact t c = λ Γ x g q.
    let none = subst (IsDifference c.args.table.now x) c.in-None.is (c.difference_of.ensures.is x q) in
    subst (λ (w : WordBound). IsChoice Lower Γ x w c.choice_alone.result) (lower_alone Γ x none) (c.choice_alone.ensures Γ x g q)
