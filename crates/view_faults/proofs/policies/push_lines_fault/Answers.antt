use Rattle.std.specs.Prelude.{codes, decimal}
use Rattle.pcc_lines.specs.Policies.{policy_lines_line}
use Rattle.view_faults.proofs.PolicySaid.{appended}
use Rattle.view_faults.proofs.policies.push_lines_fault.Goals as goal

pub returns : goal.returns
unfolding policy_lines_line
returns c =
    appended c.args.out.now.items (codes "policy Lines ") (decimal c.args.count) (codes "\n")
    c.extend_from_slice.new.self.items c.push_number.new.out.items c.push.new.self.items
    c.in_ok-extend_from_slice.ensures.items c.in_ok-push_number.ensures c.in_ok-push.ensures.items
