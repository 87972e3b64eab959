use Rattle.std.proofs.Common.{◌≡◌, ℕ, List, [], ◌∷◌, sym, ap, ◌∙◌, subst}
use Rattle.agent_script.specs.Statements.{turn_operands}
use Rattle.agent_script.specs.Inside.Reading.{IsStatement}
use Rattle.agent_script.proofs.statement.read_turn.Goals as goal

pub returns-in_err-agent : goal.returns-in_err-agent
returns-in_err-agent c =
    rw c.from_residual.ensures (ap turn_operands c.in_err-agent.ensures.none)

pub returns-in_err-budget : goal.returns-in_err-budget
returns-in_err-budget c =
    let agent = c.in_ok-agent.agent.now in
    rw c.from_residual-in_err-budget.ensures (ap turn_operands (c.in_ok-agent.ensures.some
    ∙ ap (λ (l : List (List ℕ)). agent ∷ l) c.in_err-budget.ensures.none))

pub returns-in-Some : goal.returns-in-Some
returns-in-Some c =
    let agent = c.in_ok-agent.agent.now in
    let budget = c.in_ok-budget.budget.now in
    ap turn_operands (c.in_ok-agent.ensures.some
    ∙ ap (λ (l : List (List ℕ)). agent ∷ l) (c.in_ok-budget.ensures.some
    ∙ ap (λ (l : List (List ℕ)). budget ∷ l) c.in-Some.ensures.some))

pub returns-in-None : goal.returns-in-None
returns-in-None c =
    let agent = c.in_ok-agent.agent.now in
    let budget = c.in_ok-budget.budget.now in
    let whole : c.args.words.now ≡ agent ∷ budget ∷ [] =
    c.in_ok-agent.ensures.some ∙ ap (λ (l : List (List ℕ)). agent ∷ l) (c.in_ok-budget.ensures.some
    ∙ ap (λ (l : List (List ℕ)). budget ∷ l) c.in-None.ensures.none) in
    subst (λ (l : List (List ℕ)). IsStatement (turn_operands l) c.turn_of.result) (sym whole)
    c.turn_of.ensures
