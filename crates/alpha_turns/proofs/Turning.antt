-- Lists of turns: each agent is where one run alone takes it.
use Rattle.std.proofs.Common.{◌≡◌, ◌≢◌, ℕ, ◌+◌, ◌==◌, Bool, true, false, List, [], ◌∷◌, slice_get, Option, Some, None, if◌then◌else◌, refl, sym, ◌∙◌}
use Rattle.std.proofs.Common.{ap, eqb-true, eq-eqb, true≢false}
use Rattle.std.specs.Prelude.{option_map}
use Rattle.alpha_turns.specs.declared.turns.Turn.{Turn}
use Rattle.alpha_turns.specs.Turns.{Agent, run_on, with_run, after_turn, after_turns, share_of, budget_of}
use Rattle.alpha_turns.proofs.Members.{set_at, set_other, same_members}
use Rattle.alpha_turns.proofs.Running.{joined, no_steps}

-- ---- one turn

others-at : (turn : Turn) (agents : List Agent) (a : ℕ) (it : Option Agent) → a ≢ turn.agent → slice_get (with_run turn agents it) a ≡ slice_get agents a
others-at turn agents a None apart = refl
others-at turn agents a (Some agent) apart = set_other agents turn.agent a (run_on turn.budget agent) apart

-- every other agent stays
pub others : (turn : Turn) (agents : List Agent) (a : ℕ) → a ≢ turn.agent → slice_get (after_turn turn agents) a ≡ slice_get agents a
others turn agents a apart = others-at turn agents a (slice_get agents turn.agent) apart

own-at : (turn : Turn) (agents : List Agent) (it : Option Agent) → slice_get agents turn.agent ≡ it →
    slice_get (with_run turn agents it) turn.agent ≡ option_map (run_on turn.budget) it
own-at turn agents None e = e
own-at turn agents (Some agent) e = set_at agents turn.agent (run_on turn.budget agent) agent e

-- its own agent makes the run
pub own : (turn : Turn) (agents : List Agent) →
    slice_get (after_turn turn agents) turn.agent ≡ option_map (run_on turn.budget) (slice_get agents turn.agent)
own turn agents = own-at turn agents (slice_get agents turn.agent) refl

no_run : (it : Option Agent) → it ≡ option_map (run_on 0) it
no_run None = refl
no_run (Some agent) = ap Some (sym (no_steps agent))

share-at : (turn : Turn) (agents : List Agent) (a : ℕ) (same : Bool) → (turn.agent == a) ≡ same →
    slice_get (after_turn turn agents) a ≡ option_map (run_on (if same then turn.budget else 0)) (slice_get agents a)
share-at turn agents a true e =
    let it : turn.agent ≡ a = eqb-true turn.agent a e in
    ap (slice_get (after_turn turn agents)) (sym it) ∙ own turn agents ∙ ap (λ b. option_map (run_on turn.budget) (slice_get agents b)) it
share-at turn agents a false e =
    others turn agents a (λ it. true≢false (sym (eq-eqb turn.agent a (sym it)) ∙ e)) ∙ no_run (slice_get agents a)

-- each agent makes a run of its share
pub share : (turn : Turn) (agents : List Agent) (a : ℕ) → slice_get (after_turn turn agents) a ≡ option_map (run_on (share_of a turn)) (slice_get agents a)
share turn agents a = share-at turn agents a (turn.agent == a) refl

-- ---- turns

joined_map : (n k : ℕ) (it : Option Agent) → option_map (run_on k) (option_map (run_on n) it) ≡ option_map (run_on (n + k)) it
joined_map n k None = refl
joined_map n k (Some agent) = ap Some (joined n k agent)

pub alone : (turns : List Turn) (agents : List Agent) (a : ℕ) →
    slice_get (after_turns turns agents) a ≡ option_map (run_on (budget_of a turns)) (slice_get agents a)
alone [] agents a = no_run (slice_get agents a)
alone (turn ∷ turns) agents a =
    alone turns (after_turn turn agents) a ∙ ap (option_map (run_on (budget_of a turns))) (share turn agents a)
    ∙ joined_map (share_of a turn) (budget_of a turns) (slice_get agents a)

pub order : (turns more : List Turn) (agents : List Agent) → ((a : ℕ) → budget_of a turns ≡ budget_of a more) →
    after_turns turns agents ≡ after_turns more agents
order turns more agents same =
    same_members (after_turns turns agents) (after_turns more agents)
    (λ a. alone turns agents a ∙ ap (λ n. option_map (run_on n) (slice_get agents a)) (same a) ∙ sym (alone more agents a))
