-- Turns in one memory, in which each agent has a part of its own.
use Rattle.std.proofs.Common.{◌≡◌, ℕ, suc, ◌+◌, ◌*◌, ◌<◌, ◌≤◌, Bool, true, false, List, [], ◌∷◌, map, slice_get, Option, Some, None, refl}
use Rattle.std.proofs.Common.{sym, ◌∙◌, ap, subst, arith}
use Rattle.std.proofs.lemmas.Bool.Decides.{nat_tests}
use Rattle.std.specs.Prelude.{option_map}
use Rattle.std.proofs.lemmas.Option.{slice_get-map}
use Rattle.word_ops.specs.Memory.{Memory, read}
use Rattle.word_ops.specs.Rights.{Rights, allowed}
use Rattle.word_ops.proofs.Spans.{IsAllowed-from}
use Rattle.alpha_words.specs.declared.insn.Insn.{Insn}
use Rattle.alpha_cfg.specs.declared.outcome.Outcome.{Outcome}
use Rattle.alpha_cfg.specs.declared.outcome.Outcome.TheVariants as outcomes
use Rattle.alpha_cfg.specs.Machine.{State, run_of}
use Rattle.alpha_cfg.proofs.Changing.{changes_writable}
use Rattle.alpha_turns.specs.declared.turns.Turn.{Turn}
use Rattle.alpha_turns.specs.Turns.{Agent, left_by, run_on, with_run, after_turn, after_turns, budget_of}
use Rattle.alpha_turns.specs.Parts.{World, in_arena, with_run_in, turn_in, turns_in, LooksAlikeIn, AreApart, LieIn, IsAsAlone, AreBothAlone, AreAsAlone}
use Rattle.alpha_turns.specs.Parts.{LieInParts, IsWhereAlone, part_from, LieBetween}
use Rattle.alpha_turns.proofs.Members.{set_both}
use Rattle.alpha_turns.proofs.Turning.{alone}
use Rattle.alpha_turns.proofs.Depending.{with_memory, Alike, run_alike}

-- ---- one agent's run in the arena and alone

-- an agent of these parts
abbrev agent_of : List Insn → State → Outcome → Agent
agent_of code s outcome = record { code = code; state = s; outcome = outcome }

-- runs that end alike leave agents that are alike
left_alike : (part : ℕ → Bool) (agent : Agent) (rights : Rights) (lie : LieIn part rights) (p q : Outcome × State) → Alike part rights lie.reads p q →
    IsAsAlone part q.1.memory (left_by agent q) (left_by agent p)
left_alike part agent rights lie p q h =
    let ends : (p.0, with_memory p.1 h.other) ≡ q =
    ap (λ (o : Outcome). (o, with_memory p.1 h.other)) h.first ∙ ap (λ (t : State). (q.0, t)) (sym h.is) in
    subst (λ (r : Outcome × State). IsAsAlone part r.1.memory (left_by agent r) (left_by agent p)) ends
    (record { same = refl; looks = λ a in_part. sym (h.looks a in_part); lie = subst (λ (r : Rights). LieIn part r) (sym h.rights_are) lie })

run_alone-at : (part : ℕ → Bool) (arena : Memory) (n : ℕ) (code : List Insn) (s : State) (outcome : Outcome) → LooksAlikeIn part arena s.memory →
    LieIn part s.rights →
    IsAsAlone part (run_on n (in_arena arena (agent_of code s outcome))).state.memory (run_on n (in_arena arena (agent_of code s outcome)))
    (run_on n (agent_of code s outcome))
run_alone-at part arena n code s outcomes.OutOfSteps looks lie =
    left_alike part (agent_of code s outcomes.OutOfSteps) s.rights lie (run_of code n s) (run_of code n (with_memory s arena))
    (run_alike part s.rights lie.reads code n s arena refl (λ a in_part. sym (looks a in_part)))
run_alone-at part arena n code s (outcomes.Returned word) looks lie = record { same = refl; looks = looks; lie = lie }
run_alone-at part arena n code s (outcomes.Blocked index kind addr) looks lie = record { same = refl; looks = looks; lie = lie }

run_alone : (part : ℕ → Bool) (arena : Memory) (n : ℕ) (shared agent : Agent) → IsAsAlone part arena shared agent →
    IsAsAlone part (run_on n (in_arena arena shared)).state.memory (run_on n (in_arena arena shared)) (run_on n agent)
run_alone part arena n shared agent h =
    subst (λ (it : Agent). IsAsAlone part (run_on n it).state.memory (run_on n it) (run_on n agent)) (sym h.same)
    (run_alone-at part arena n agent.code agent.state agent.outcome h.looks h.lie)

-- ---- what a run leaves to the others

keeps-at : (n : ℕ) (code : List Insn) (s : State) (outcome : Outcome) (a : ℕ) → allowed s.rights.writes a ≡ false →
    read (run_on n (agent_of code s outcome)).state.memory a ≡ read s.memory a
keeps-at n code s outcomes.OutOfSteps a not_may = changes_writable code n s a not_may
keeps-at n code s (outcomes.Returned word) a not_may = refl
keeps-at n code s (outcomes.Blocked index kind addr) a not_may = refl

keeps : (n : ℕ) (agent : Agent) (a : ℕ) → allowed agent.state.rights.writes a ≡ false → read (run_on n agent).state.memory a ≡ read agent.state.memory a
keeps n agent a not_may = keeps-at n agent.code agent.state agent.outcome a not_may

-- what isn't in the part may not be stored to
outside : (part : ℕ → Bool) (rights : Rights) → LieIn part rights → (a : ℕ) → (part a ≡ true → ⊥) → (may : Bool) → allowed rights.writes a ≡ may →
    allowed rights.writes a ≡ false
outside part rights lie a out true e = absurd (out (lie.writes a e))
outside part rights lie a out false e = e

keeps_part : (part other : ℕ → Bool) (arena : Memory) (n : ℕ) (shared agent : Agent) → IsAsAlone part arena shared agent →
    ((a : ℕ) → other a ≡ true → part a ≡ true → ⊥) →
    LooksAlikeIn other (run_on n (in_arena arena shared)).state.memory arena
keeps_part part other arena n shared agent h apart a in_other =
    let rights : shared.state.rights ≡ agent.state.rights = ap (λ (it : Agent). it.state.rights) h.same in
    let none : allowed agent.state.rights.writes a ≡ false =
    outside part agent.state.rights h.lie a (apart a in_other) (allowed agent.state.rights.writes a) refl in
    keeps n (in_arena arena shared) a (ap (λ (r : Rights). allowed r.writes a) rights ∙ none)

-- an agent is as alone in an arena that reads alike in its part
moved : (part : ℕ → Bool) (old new : Memory) (x y : Option Agent) → LooksAlikeIn part new old → AreBothAlone part old x y → AreBothAlone part new x y
moved part old new None None looks h = h
moved part old new None (Some agent) looks h = h
moved part old new (Some shared) None looks h = h
moved part old new (Some shared) (Some agent) looks h =
    record { same = ap (in_arena new) h.same; looks = λ a in_part. looks a in_part ∙ h.looks a in_part; lie = h.lie }

-- ---- one turn

module _ (part : ℕ → ℕ → Bool) (apart : AreApart part) where
  turn-at : (turn : Turn) (world : World) (agents : List Agent) (x y : Option Agent) → AreAsAlone part world agents →
      slice_get world.agents turn.agent ≡ x → slice_get agents turn.agent ≡ y → AreBothAlone (part turn.agent) world.arena x y →
      AreAsAlone part (with_run_in turn world x) (with_run turn agents y)
  turn-at turn world agents None None held is_x is_y h = held
  turn-at turn world agents None (Some agent) held is_x is_y h = absurd h
  turn-at turn world agents (Some shared) None held is_x is_y h = absurd h
  turn-at turn world agents (Some shared) (Some agent) held is_x is_y h =
      let ran : Agent = run_on turn.budget (in_arena world.arena shared) in
      set_both (λ i x y. AreBothAlone (part i) ran.state.memory x y) world.agents agents turn.agent ran (run_on turn.budget agent) shared agent is_x is_y
      (run_alone (part turn.agent) world.arena turn.budget shared agent h)
      (λ i other. moved (part i) world.arena ran.state.memory (slice_get world.agents i) (slice_get agents i)
      (keeps_part (part turn.agent) (part i) world.arena turn.budget shared agent h (λ a in_i in_own. other (apart i turn.agent a in_i in_own))) (held i))

  pub turn_as_alone : (turn : Turn) (world : World) (agents : List Agent) → AreAsAlone part world agents →
      AreAsAlone part (turn_in turn world) (after_turn turn agents)
  turn_as_alone turn world agents held =
      turn-at turn world agents (slice_get world.agents turn.agent) (slice_get agents turn.agent) held refl refl (held turn.agent)

  -- ---- turns

  pub turns_as_alone : (turns : List Turn) (world : World) (agents : List Agent) → AreAsAlone part world agents →
      AreAsAlone part (turns_in turns world) (after_turns turns agents)
  turns_as_alone [] world agents held = held
  turns_as_alone (turn ∷ turns) world agents held = turns_as_alone turns (turn_in turn world) (after_turn turn agents) (turn_as_alone turn world agents held)

  -- ---- from the arena as it was

  begins-at : (arena : Memory) (i : ℕ) (it : Option Agent) → ((agent : Agent) → it ≡ Some agent → LieIn (part i) agent.state.rights) →
      AreBothAlone (part i) arena it (option_map (in_arena arena) it)
  begins-at arena i None lie = tt
  begins-at arena i (Some agent) lie = record { same = refl; looks = λ a in_part. refl; lie = lie agent refl }

  -- each with the arena as a memory of its own
  begins : (world : World) → LieInParts part world.agents → AreAsAlone part world (map (in_arena world.arena) world.agents)
  begins world lie i =
      subst (λ (y : Option Agent). AreBothAlone (part i) world.arena (slice_get world.agents i) y) (sym (slice_get-map (in_arena world.arena) world.agents i))
      (begins-at world.arena i (slice_get world.agents i) (lie i))

  both_maps : (n : ℕ) (arena : Memory) (it : Option Agent) →
      option_map (run_on n) (option_map (in_arena arena) it) ≡ option_map (λ agent. run_on n (in_arena arena agent)) it
  both_maps n arena None = refl
  both_maps n arena (Some agent) = refl

  pub each_alone : (turns : List Turn) (world : World) (i : ℕ) → LieInParts part world.agents → IsWhereAlone part turns world i
  each_alone turns world i lie =
      let agents : List Agent = map (in_arena world.arena) world.agents in
      let n : ℕ = budget_of i turns in
      let own : slice_get (after_turns turns agents) i ≡ option_map (λ agent. run_on n (in_arena world.arena agent)) (slice_get world.agents i) =
      alone turns agents i ∙ ap (option_map (run_on n)) (slice_get-map (in_arena world.arena) world.agents i)
      ∙ both_maps n world.arena (slice_get world.agents i) in
      subst (λ (y : Option Agent). AreBothAlone (part i) (turns_in turns world).arena (slice_get (turns_in turns world).agents i) y) own
      (turns_as_alone turns world agents (begins world lie) i)

-- ---- parts behind each other

span_within : (base size i : ℕ) (spans : List (ℕ × ℕ)) → LieBetween (base + size * i) (base + size * suc i) spans → (a : ℕ) → allowed spans a ≡ true →
    part_from base size i a ≡ true
span_within base size i spans lie a may =
    let h = IsAllowed-from spans a may in
    let span : ℕ × ℕ = h.0 in
    let k : ℕ = h.2.0 in
    let below : k < span.1 = h.2.1 in
    let is : a ≡ span.0 + 8 * k = h.2.2 in
    let low : base + size * i ≤ span.0 = (lie span h.1).0 in
    let high : span.0 + 8 * span.1 ≤ base + size * suc i = (lie span h.1).1 in
    let from : base + size * i ≤ a = omega (arith, is, low) in
    let to : a < base + size * suc i = omega (arith, is, high, below) in
    grind (arith, nat_tests, from, to)

pub spans_lie : (base size i : ℕ) (rights : Rights) → LieBetween (base + size * i) (base + size * suc i) rights.reads →
    LieBetween (base + size * i) (base + size * suc i) rights.writes → LieIn (part_from base size i) rights
spans_lie base size i rights reads writes = record { reads = span_within base size i rights.reads reads; writes = span_within base size i rights.writes writes }
