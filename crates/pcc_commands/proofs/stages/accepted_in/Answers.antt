use Rattle.pcc_commands.proofs.RunLemmas.{code_gives, shown_gives, policy_kept}
use Rattle.pcc_commands.proofs.stages.accepted_in.Goals as goal

pub returns-clause-code : goal.returns-clause-code
returns-clause-code c = code_gives c.args.policy.now c.args.bytes.now c.judged.result c.judged.ensures.exact c.judged.ensures.accepted

pub returns-clause-policy : goal.returns-clause-policy
returns-clause-policy c = policy_kept c.args.policy.now c.args.bytes.now c.judged.result c.judged.ensures.accepted

pub returns-clause-shown : goal.returns-clause-shown
returns-clause-shown c = shown_gives c.args.policy.now c.args.bytes.now c.judged.result c.judged.ensures.exact c.judged.ensures.accepted
