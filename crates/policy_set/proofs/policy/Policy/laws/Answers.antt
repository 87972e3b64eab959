use Rattle.std.proofs.Common.{subst}
use Rattle.policy_set.specs.Views.{IsPolicy}
use Rattle.policy_set.proofs.policy.Policy.laws.Goals as goal

pub returns : goal.returns
returns c = subst IsPolicy c.self.view_is c.self.invariant
