use Rattle.std.proofs.Common.{sym, ◌∙◌, ap, subst}
use Rattle.formula_tree.specs.Views.{form_view}
use Rattle.policy_set.specs.Views.{IsPolicy}
use Rattle.policy_set.specs.Inside.Held.{policy_view}
use Rattle.policy_set.proofs.Closed.{held-again}
use Rattle.policy_set.proofs.policy.Policy.copy.Goals as goal

pub invariant_of-result : goal.invariant_of-result
invariant_of-result c =
    let p = c.self.inside in
    subst IsPolicy
    (sym
    (held-again (policy_view p.kind p.pre p.post) c.in_ok-asked.asked c.in_ok-promised.promised
    (c.in_ok-asked.ensures ∙ ap form_view c.deref.ensures)
    (c.in_ok-promised.ensures ∙ ap form_view c.deref-2.ensures)))
    c.self.invariant

pub returns : goal.returns
returns c =
    let p = c.self.inside in
    record {
      exact =
          held-again (policy_view p.kind p.pre p.post) c.in_ok-asked.asked
          c.in_ok-promised.promised (c.in_ok-asked.ensures ∙ ap form_view c.deref.ensures)
          (c.in_ok-promised.ensures ∙ ap form_view c.deref-2.ensures)
          ∙ c.self.view_is;
    }
