use Rattle.std.proofs.Common.{Some, ◌∙◌, sym, ap, option_map}
use Rattle.policy_set.specs.Views.{built_in}
use Rattle.policy_set.proofs.policy.by_name.Goals as goal

pub returns-in_ok-of-in-Some : goal.returns-in_ok-of-in-Some
returns-in_ok-of-in-Some c = record {
  exact =
      ap Some c.in_ok-of-in-Some.ensures.exact
      ∙ ap (option_map built_in) (sym c.in-Some.is ∙ c.kind_named.ensures);
}
