use Rattle.std.proofs.Common.{◌∙◌, ap, subst}
use Rattle.policy_set.specs.Views.{PolicyView}
use Rattle.packet_store.specs.Results.{packet_result}
use Rattle.vcgen.specs.Safety.{IsSafe}
use Rattle.pcc_gate.specs.Answers.{IsAcceptedBy}
use Rattle.pcc_gate.specs.Views.{AcceptedView}
use Rattle.pcc_c.proofs.hosting.runner_of.Goals as goal

pub returns-in_ok-host-in-Ok-clause-runs : goal.returns-in_ok-host-in-Ok-clause-runs
returns-in_ok-host-in-Ok-clause-runs c =
    let a : AcceptedView = c.in-Ok.accepted in
    let holds : IsAcceptedBy c.args.policy.now c.args.bytes.now a = c.in-Ok.ensures.exact in
    record {
      code = record {
        accepted = a;
        holds = holds;
        safe = subst (λ (p : PolicyView). IsSafe a.code p.pre p.post) holds.policy_is c.laws.ensures.safe;
        returns = c.in-Ok.ensures.returns;
      };
      runs =
          c.new-in-Ok.ensures
          ∙ ap (λ (h : AcceptedView). packet_result h.policy h.code c.args.steps) c.in_ok-host-in-Ok.ensures.accepted
          ∙ ap (λ (p : PolicyView). packet_result p a.code c.args.steps) holds.policy_is;
    }
