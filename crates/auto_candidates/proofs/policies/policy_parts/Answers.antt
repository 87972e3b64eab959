use Rattle.lf_encode.proofs.MachineContext.{in-context, in-machine}
use Rattle.auto_candidates.proofs.policies.policy_parts.Goals as goal

pub encode_form-requires-clause-over : goal.encode_form-requires-clause-over
encode_form-requires-clause-over c =
    in-context c.machine_context-context.result _ c.args.policy.now.pre
    c.machine_context-context.ensures c.pre.ensures.exact
    (in-machine c.args.policy.now.pre c.laws.ensures.asked.over)

pub encode_form-requires-2-clause-over : goal.encode_form-requires-2-clause-over
encode_form-requires-2-clause-over c =
    in-context c.machine_context-context.result _ c.args.policy.now.post
    c.machine_context-context.ensures c.post.ensures.exact
    (in-machine c.args.policy.now.post c.laws.ensures.promised.over)
