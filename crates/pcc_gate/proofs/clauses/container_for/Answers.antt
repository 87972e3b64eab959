use Rattle.std.proofs.Common.{◌∙◌, sym, rules}
use Rattle.pcc_gate.proofs.ForPolicy.{for-is}
use Rattle.pcc_gate.proofs.clauses.container_for.Goals as goal

pub returns-else-not-named-clause-answer : goal.returns-else-not-named-clause-answer
returns-else-not-named-clause-answer c = (
  record {
    size = search rules;
    encoded = search rules;
    named = for-is c.args.policy.now c.in-Ok.container.head
        (sym c.in_ok-named-in-Ok.ensures.exact ∙ c.if-not-named.false);
  },
  search rules,
)
