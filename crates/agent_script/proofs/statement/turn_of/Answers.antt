use Rattle.std.proofs.Common.{Option, ℕ, Some, sym, ap, ◌∙◌}
use Rattle.agent_script.specs.Statements.{short_number, in_turn_range, turn_read}
use Rattle.agent_script.proofs.statement.turn_of.Goals as goal

pub returns-in_err-agent : goal.returns-in_err-agent
returns-in_err-agent c =
    rw c.from_residual.ensures
    (ap (λ (o : Option ℕ). turn_read o (in_turn_range (short_number c.args.budget.now)))
    (sym c.in_err-agent.ensures))

pub returns-in_err-budget : goal.returns-in_err-budget
returns-in_err-budget c =
    rw c.from_residual-in_err-budget.ensures
    (ap (λ (o : Option ℕ). turn_read o (in_turn_range (short_number c.args.budget.now)))
    (sym c.in_ok-agent.ensures)
    ∙ ap (turn_read (Some c.in_ok-agent.agent)) (sym c.in_err-budget.ensures))

pub returns : goal.returns
returns c =
    ap (λ (o : Option ℕ). turn_read o (in_turn_range (short_number c.args.budget.now)))
    (sym c.in_ok-agent.ensures)
    ∙ ap (turn_read (Some c.in_ok-agent.agent)) (sym c.in_ok-budget.ensures)
