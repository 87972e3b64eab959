use Rattle.std.proofs.Common.{sym, ◌∙◌, ap, subst}
use Rattle.formula_tree.specs.Views.{form_view}
use Rattle.policy_set.specs.Views.{IsPolicy}
use Rattle.policy_set.proofs.Closed.{built_in-is, held-built_in}
use Rattle.policy_set.proofs.policy.Policy.of.Goals as goal

pub invariant_of-result : goal.invariant_of-result
invariant_of-result c =
    subst IsPolicy
    (sym
    (held-built_in c.args.kind c.in_ok-asked.asked c.in_ok-promised.promised
    (ap form_view c.in_ok-asked.ensures ∙ c.in_ok-form.ensures)
    (ap form_view c.in_ok-promised.ensures ∙ c.post.ensures)))
    (built_in-is c.args.kind)

pub returns : goal.returns
returns c = record {
  exact =
      held-built_in c.args.kind c.in_ok-asked.asked c.in_ok-promised.promised
      (ap form_view c.in_ok-asked.ensures ∙ c.in_ok-form.ensures)
      (ap form_view c.in_ok-promised.ensures ∙ c.post.ensures);
}
