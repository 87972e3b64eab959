use Rattle.std.proofs.Common.{ℕ, List, subst}
use Rattle.auto_cli.specs.Tasks.{settled}
use Rattle.auto_cli.specs.Inside.Finds.{WroteFound, LeavesGoals}
use Rattle.auto_cli.proofs.Decided.{decides_found, decides_left}
use Rattle.auto_cli.proofs.finding.settled.Goals as goal

pub returns-in-Found : goal.returns-in-Found
returns-in-Found g c =
    let a = c.args in
    let bytes = c.in-Found.bytes.items in
    rw c.in-Found.is
    (decides_found a.policy.now a.output.now bytes c.in-Found.invariants _ _ _ _ c.written.result
    (subst
    (λ (b : List ℕ). WroteFound a.output.now b c.in-Found.invariants (g.F.Files.log a.files.now)
    (g.F.Files.log c.written.new.files) (g.F.Files.state a.files.now)
    (g.F.Files.state c.written.new.files) c.written.result)
    c.deref.ensures.value c.written.ensures))

pub returns-in-Unfound : goal.returns-in-Unfound
unfolding settled
returns-in-Unfound g c =
    let a = c.args in
    let kept : List ℕ = c.in-Unfound.kept.items in
    rw c.in-Unfound.is
    (decides_left a.policy.now kept _ _ c.left_goals.result
    (subst (λ (l : List ℕ). LeavesGoals a.policy.now l c.left_goals.result)
    c.deref-in-Unfound.ensures.value c.left_goals.ensures))
