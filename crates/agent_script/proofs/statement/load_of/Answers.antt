use Rattle.agent_script.proofs.Sayings.{wrong-policy, wrong-file, wrong-packets, right-names}
use Rattle.agent_script.proofs.statement.load_of.Goals as goal

pub returns-in_err-policy : goal.returns-in_err-policy
returns-in_err-policy c =
    rw c.from_residual.ensures
    (wrong-policy c.args.policy.now c.args.file.now c.args.packets.now
    c.in_err-policy.ensures.wrong)

pub returns-in_err-file : goal.returns-in_err-file
returns-in_err-file c =
    rw c.from_residual-in_err-file.ensures
    (wrong-file c.args.policy.now c.args.file.now c.args.packets.now c.in_err-file.ensures.wrong)

pub returns-in_err-packets : goal.returns-in_err-packets
returns-in_err-packets c =
    rw c.from_residual-in_err-packets.ensures
    (wrong-packets c.args.policy.now c.args.file.now c.args.packets.now
    c.in_err-packets.ensures.wrong)

pub returns : goal.returns
returns c =
    right-names c.args.policy.now c.args.file.now c.args.packets.now
    c.in_ok-policy.policy.now c.in_ok-file.file.now c.in_ok-packets.packets.now
    c.in_ok-policy.ensures.right c.in_ok-file.ensures.right c.in_ok-packets.ensures.right
    c.in_ok-policy.ensures.some c.in_ok-file.ensures.some c.in_ok-packets.ensures.some
