-- A host of many agents as a world: its memory, its rights, and what turns make of it.
use Rattle.std.proofs.Common.{◌≡◌, ◌≢◌, leb, ltb, ℕ, zero, suc, ◌+◌, ◌*◌, ◌<◌, ◌≤◌, ◌==◌, Bool, true, false, List, [], ◌∷◌, ◌++◌, length, map}
use Rattle.std.proofs.Common.{slice_get, slice_index, Option, Some, None, if◌then◌else◌, refl, sym, ◌∙◌, ap, subst, arith, eqb-true, eq-eqb, true≢false}
use Rattle.std.specs.Prelude.{option_map, slice_set}
use Rattle.std.specs.List.{concat}
use Rattle.std.specs.FinMap.{get, gets}
use Rattle.std.specs.Option.{unwrap_or}
use Rattle.std.proofs.lemmas.Bool.{and_parts, leb-true, ltb-true}
use Rattle.std.proofs.lemmas.Bool.Decides.{nat_tests}
use Rattle.std.proofs.lemmas.Option.{none-some, same_Some}
use Rattle.word_ops.specs.Memory.{Memory, read}
use Rattle.word_ops.specs.Rights.{Rights}
use Rattle.alpha_words.specs.declared.insn.Insn.{Insn}
use Rattle.alpha_cfg.specs.Machine.{State, step_of, ends_with, run_of}
use Rattle.alpha_cfg.specs.declared.outcome.Step.{Step}
use Rattle.alpha_cfg.specs.declared.outcome.Step.TheVariants as steps
use Rattle.alpha_cfg.specs.declared.outcome.Outcome.{Outcome}
use Rattle.alpha_cfg.specs.declared.outcome.Outcome.TheVariants as outcomes
use Rattle.reference_machine.specs.Arena.{map_of}
use Rattle.reference_machine.specs.Agents.{AreInArena}
use Rattle.reference_machine.proofs.ArenaWords.{get-map_of_other}
use Rattle.alpha_turns.specs.declared.turns.Turn.{Turn}
use Rattle.alpha_turns.specs.Turns.{Agent, may_go_on, left_by, run_on, with_run, after_turn}
use Rattle.alpha_turns.specs.Parts.{World, turn_in, turns_in, LooksAlikeIn, AreApart, LieIn, IsAsAlone, AreBothAlone, AreAsAlone, part_from, LieBetween}
use Rattle.alpha_turns.proofs.Members.{set_at, set_other}
use Rattle.alpha_turns.proofs.Parting.{turn_as_alone, spans_lie}
use Rattle.vcgen.specs.Safety.{steps_after}
use Rattle.pcc_gate.specs.Views.{AcceptedView}
use Rattle.host_steps.specs.declared.ended.Ended.{Ended}
use Rattle.host_steps.specs.declared.ended.Ended.TheVariants as ended
use Rattle.host_steps.specs.RunEnds.{outcome_of}
use Rattle.host_steps.specs.Parts.{part_state, PartFits}
use Rattle.agent_host.specs.declared.phase.Phase.{Phase}
use Rattle.agent_host.specs.declared.phase.Phase.TheVariants as phases
use Rattle.agent_host.specs.declared.turned.Turned.{Turned}
use Rattle.agent_host.specs.declared.turned.Turned.TheVariants as turned
use Rattle.agent_host.specs.Agents.{HostedView, base_of, annotated_code, part_of, RightsFitAgent, SomeRightsFit}
use Rattle.agent_host.specs.Hosts.{Replaces, IsHostedAt}
use Rattle.agent_host.specs.Turns.{phase_after, RunsTo, TurnsTo}
use Rattle.agent_host.specs.Worlds.{parts, outcome_seen, agent_seen, agents_seen, world_of, AreRightsOf, AreHosted}
use Rattle.agent_host.specs.Worlds.{IsSeenAs, TurnsWorlds, TakesTurns, ReadsAsParts}
use Rattle.agent_host.proofs.Running.{goes-on}

-- ---- the agents seen

-- each by its place
seen-at : (rights : ℕ → Rights) (host : List HostedView) (a : ℕ) →
    slice_get (agents_seen rights host) a ≡ option_map (λ m. agent_seen m (rights a)) (slice_get host a)
seen-at rights [] a = refl
seen-at rights (m ∷ host) zero = refl
seen-at rights (m ∷ host) (suc a) = seen-at (λ b. rights (suc b)) host a

-- with one agent replaced
seen-set : (rights : ℕ → Rights) (host : List HostedView) (a : ℕ) (m : HostedView) →
    agents_seen rights (slice_set host a m) ≡ slice_set (agents_seen rights host) a (agent_seen m (rights a))
seen-set rights [] a m = refl
seen-set rights (x ∷ host) zero m = refl
seen-set rights (x ∷ host) (suc a) m = ap (λ (l : List Agent). agent_seen x (rights 0) ∷ l) (seen-set (λ b. rights (suc b)) host a m)

-- ---- one agent's turn

-- the word that a run returns is in register 0 of its state
abbrev word-in : Outcome → ℕ
word-in (outcomes.Returned word) = word
word-in outcomes.OutOfSteps = 0
word-in (outcomes.Blocked index kind addr) = 0

ends-word : (p : Step) (u t : State) (on : Outcome × State) (word : ℕ) → (on ≡ (outcomes.Returned word, t) → slice_index t.regs 0 ≡ word) →
    ends_with p u on ≡ (outcomes.Returned word, t) → slice_index t.regs 0 ≡ word
ends-word steps.Moved u t on word more e = more e
ends-word steps.Returned u t on word more e =
    ap (λ (s : State). slice_index s.regs 0) (sym (ap (λ (q : Outcome × State). q.1) e)) ∙ ap (λ (q : Outcome × State). word-in q.0) e
ends-word (steps.Blocked index kind addr) u t on word more e =
    let wrong : outcomes.Blocked index kind addr ≡ outcomes.Returned word = ap (λ (q : Outcome × State). q.0) e in absurd cc

run-word : (code : List Insn) (n word : ℕ) (s t : State) → run_of code n s ≡ (outcomes.Returned word, t) → slice_index t.regs 0 ≡ word
run-word code zero word s t e = let wrong : outcomes.OutOfSteps ≡ outcomes.Returned word = ap (λ (q : Outcome × State). q.0) e in absurd cc
run-word code (suc n) word s t e =
    let step : Step × State = step_of code s in
    ends-word step.0 step.1 t (run_of code n step.1) word (run-word code n word step.1 t) e

-- what is seen of an agent after a run that ended so
outcome-is : (result : Ended) (regs : List ℕ) → ((word : ℕ) → outcome_of result ≡ outcomes.Returned word → slice_index regs 0 ≡ word) →
    outcome_seen (phase_after result) regs ≡ outcome_of result
outcome-is ended.OutOfSteps regs word = refl
outcome-is (ended.Returned w) regs word = ap outcomes.Returned (word w refl)

-- the agent after a run with a budget, as the definition of turns has it
abbrev run-by : (m : HostedView) (rights : Rights) (n : ℕ) → Phase → Agent
run-by m rights n phase =
    if may_go_on (outcome_seen phase m.regs) then left_by (agent_seen m rights) (run_of m.accepted.code n (part_state (part_of m) rights))
    else agent_seen m rights

module _ (was is : HostedView) (rights : Rights) (n : ℕ) where
  ran-seen : (result : Ended) → RunsTo n result was is → ((left : ℕ) × RightsFitAgent was left rights) →
      agent_seen is rights ≡ run_on n (agent_seen was rights)
  ran-seen result h fit =
      let under = h.under fit.0 rights fit.1 in
      let same : run_of was.accepted.code n (part_state (part_of was) rights) ≡ (outcome_of result, part_state (part_of is) rights) = under.same in
      let accepted : is.accepted ≡ was.accepted = ap (λ (m : HostedView). m.accepted) h.kept in
      let phase : is.phase ≡ phase_after result = ap (λ (m : HostedView). m.phase) h.kept in
      let word : (w : ℕ) → outcome_of result ≡ outcomes.Returned w → slice_index is.regs 0 ≡ w =
      λ w e. run-word was.accepted.code n w (part_state (part_of was) rights) (part_state (part_of is) rights)
      (same ∙ ap (λ (o : Outcome). (o, part_state (part_of is) rights)) e) in
      let outcome : outcome_seen is.phase is.regs ≡ outcome_of result =
      ap (λ (p : Phase). outcome_seen p is.regs) phase ∙ outcome-is result is.regs word in
      let agent : List Insn → Outcome → Agent = λ code outcome. record { code = code; state = part_state (part_of is) rights; outcome = outcome } in
      let ran : run_on n (agent_seen was rights) ≡ left_by (agent_seen was rights) (outcome_of result, part_state (part_of is) rights) =
      ap (run-by was rights n) h.ready ∙ ap (left_by (agent_seen was rights)) same in
      ap (λ (a : AcceptedView). agent a.code (outcome_seen is.phase is.regs)) accepted
      ∙ ap (agent was.accepted.code) outcome ∙ sym ran

  turn-seen : (result : Turned) → TurnsTo n result was is → (was.phase ≡ phases.Ready → (left : ℕ) × RightsFitAgent was left rights) →
      agent_seen is rights ≡ run_on n (agent_seen was rights)
  turn-seen (turned.Returned word) h fit = ran-seen (ended.Returned word) h (fit h.ready)
  turn-seen turned.OutOfSteps h fit = ran-seen ended.OutOfSteps h (fit h.ready)
  turn-seen turned.Done h fit = ap (λ (m : HostedView). agent_seen m rights) h.1 ∙ sym (ap (run-by was rights n) h.0)

  -- the rights fit again where it may go on
  ran-fits : (result : Ended) → RunsTo n result was is → (was.phase ≡ phases.Ready → (left : ℕ) × RightsFitAgent was left rights) →
      is.phase ≡ phases.Ready → (left : ℕ) × RightsFitAgent is left rights
  ran-fits result h fit ready =
      let before = fit h.ready in
      let phase : is.phase ≡ phase_after result = ap (λ (m : HostedView). m.phase) h.kept in
      let left : ℕ = steps_after was.accepted.bound n before.0 in (
        left,
        subst (λ (a : AcceptedView). PartFits (annotated_code a) left (part_of is) rights)
            (sym (ap (λ (m : HostedView). m.accepted) h.kept))
            ((h.under before.0 rights before.1).fits (goes-on result (sym phase ∙ ready))),
      )

  turn-fits : (result : Turned) → TurnsTo n result was is → (was.phase ≡ phases.Ready → (left : ℕ) × RightsFitAgent was left rights) →
      is.phase ≡ phases.Ready → (left : ℕ) × RightsFitAgent is left rights
  turn-fits (turned.Returned word) h fit ready = ran-fits (ended.Returned word) h fit ready
  turn-fits turned.OutOfSteps h fit ready = ran-fits ended.OutOfSteps h fit ready
  turn-fits turned.Done h fit ready =
      subst (λ (m : HostedView). (left : ℕ) × RightsFitAgent m left rights) (sym h.1)
      (fit (sym (ap (λ (m : HostedView). m.phase) h.1) ∙ ready))

-- ---- a turn of the host

-- the addresses of a part
part-range : (a at : ℕ) → parts a at ≡ true → (65536 + 65552 * a ≤ at) × (at < 65536 + 65552 * suc a)
part-range a at e =
    let p = and_parts (leb (65536 + 65552 * a) at) (ltb at (65536 + 65552 * suc a)) e in
    (leb-true (65536 + 65552 * a) at p.0, ltb-true at (65536 + 65552 * suc a) p.1)

-- parts have no address in common
apart : AreApart parts
apart i j a in_i in_j =
    let one = part-range i a in_i in
    let other = part-range j a in_j in
    omega (arith, one.0, one.1, other.0, other.1)

module _ (a n : ℕ) (result : Turned) (old new : List HostedView) (r : Replaces (TurnsTo n result) a old new)
    (rights : ℕ → Rights) (world : World) (held : IsSeenAs old rights world) where
  abbrev the_turn : Turn
  the_turn = record { agent = a; budget = n }

  fit-was : r.was.phase ≡ phases.Ready → (left : ℕ) × RightsFitAgent r.was left (rights a)
  fit-was = held.fits a r.was r.at

  agents-after : after_turn the_turn (agents_seen rights old) ≡ agents_seen rights new
  agents-after =
      let found : slice_get (agents_seen rights old) a ≡ Some (agent_seen r.was (rights a)) =
      seen-at rights old a ∙ ap (option_map (λ m. agent_seen m (rights a))) r.at in
      ap (with_run the_turn (agents_seen rights old)) found
      ∙ ap (slice_set (agents_seen rights old) a) (sym (turn-seen r.was r.is (rights a) n result r.known fit-was))
      ∙ sym (seen-set rights old a r.is) ∙ ap (agents_seen rights) (sym r.rest)

  fits-at : (b : ℕ) (m : HostedView) (same : Bool) → (b == a) ≡ same → slice_get new b ≡ Some m → m.phase ≡ phases.Ready →
      (left : ℕ) × RightsFitAgent m left (rights b)
  fits-at b m true e at ready =
      let it : b ≡ a = eqb-true b a e in
      let is : m ≡ r.is =
      same_Some m r.is (sym at ∙ ap (slice_get new) it ∙ ap (λ (l : List HostedView). slice_get l a) r.rest ∙ set_at old a r.is r.was r.at) in
      subst (λ (c : ℕ). (left : ℕ) × RightsFitAgent m left (rights c)) (sym it)
      (subst (λ (x : HostedView). (left : ℕ) × RightsFitAgent x left (rights a)) (sym is)
      (turn-fits r.was r.is (rights a) n result r.known fit-was (sym (ap (λ (x : HostedView). x.phase) is) ∙ ready)))
  fits-at b m false e at ready =
      let other : b ≢ a = λ it. true≢false (sym (eq-eqb b a it) ∙ e) in
      held.fits b m (sym (ap (λ (l : List HostedView). slice_get l b) r.rest ∙ set_other old a b r.is other) ∙ at) ready

  pub turned-seen : IsSeenAs new rights (turn_in the_turn world)
  turned-seen = record {
    fits = λ b m at ready. fits-at b m (b == a) refl at ready;
    alike = subst (λ (agents : List Agent). AreAsAlone parts (turn_in the_turn world) agents) agents-after
        (turn_as_alone parts apart the_turn world (agents_seen rights old) held.alike);
  }

-- ---- turns

pub turns-seen : (turns : List Turn) (old new : List HostedView) (rights : ℕ → Rights) (world : World) → TakesTurns turns old new →
    IsSeenAs old rights world → IsSeenAs new rights (turns_in turns world)
turns-seen [] old new rights world takes held = subst (λ (h : List HostedView). IsSeenAs h rights world) (sym takes) held
turns-seen (turn ∷ turns) old new rights world takes held =
    let now : List HostedView = takes.0 in
    turns-seen turns now new rights (turn_in turn world) takes.3
    (turned-seen turn.agent turn.budget takes.1 old now takes.2 rights world held)

-- ---- the host as it is

-- memories of words behind others
get-low : (ws more : List ℕ) (base a : ℕ) → a < base + 8 * length ws → get (map_of base (ws ++ more)) a ≡ get (map_of base ws) a
get-low [] more base a low =
    get-map_of_other more base a (λ k within same. absurd (omega (arith, same, low)))
    ∙ sym (get-map_of_other [] base a (λ k within. absurd (omega (arith, within))))
get-low (w ∷ ws) more base a low =
    let on : get (map_of (base + 8) (ws ++ more)) a ≡ get (map_of (base + 8) ws) a = get-low ws more (base + 8) a (omega (arith, low)) in
    grind (arith, gets, nat_tests, on)

get-high : (ws more : List ℕ) (base next a : ℕ) → next ≡ base + 8 * length ws → next ≤ a →
    get (map_of base (ws ++ more)) a ≡ get (map_of next more) a
get-high [] more base next a is high = let here : base ≡ next = omega (arith, is) in ap (λ b. get (map_of b more) a) here
get-high (w ∷ ws) more base next a is high =
    let on : get (map_of (base + 8) (ws ++ more)) a ≡ get (map_of next more) a = get-high ws more (base + 8) next a (omega (arith, is)) high in
    let past : base < a = omega (arith, is, high) in
    grind (arith, gets, nat_tests, on, past)

-- the arena reads in a part as the part's quadwords
get-part : (host : List HostedView) (base a : ℕ) (m : HostedView) (at : ℕ) →
    ((b : ℕ) (x : HostedView) → slice_get host b ≡ Some x → length x.words ≡ 8194) → slice_get host a ≡ Some m →
    base + 65552 * a ≤ at → at < base + 65552 * suc a →
    get (map_of base (concat (map (λ (x : HostedView). x.words) host))) at ≡ get (map_of (base + 65552 * a) m.words) at
get-part [] base a m at long is from to = absurd (none-some m is)
get-part (x ∷ host) base zero m at long is from to =
    let it : x ≡ m = same_Some x m is in
    let len : length x.words ≡ 8194 = long 0 x refl in
    let here : base ≡ base + 65552 * 0 = omega arith in
    get-low x.words (concat (map (λ (y : HostedView). y.words) host)) base at (omega (arith, to, len))
    ∙ ap (λ (y : HostedView). get (map_of base y.words) at) it ∙ ap (λ b. get (map_of b m.words) at) here
get-part (x ∷ host) base (suc a) m at long is from to =
    let len : length x.words ≡ 8194 = long 0 x refl in
    let next : base + 65552 + 65552 * a ≡ base + 65552 * suc a = omega arith in
    get-high x.words (concat (map (λ (y : HostedView). y.words) host)) base (base + 65552) at (omega (arith, len)) (omega (arith, from))
    ∙ get-part host (base + 65552) a m at (λ b y e. long (suc b) y e) is (omega (arith, from)) (omega (arith, to))
    ∙ ap (λ b. get (map_of b m.words) at) next

-- the spans of a part lie in it
lie-between : (a : ℕ) (spans : List (ℕ × ℕ)) → AreInArena (base_of a) spans → LieBetween (65536 + 65552 * a) (65536 + 65552 * suc a) spans
lie-between a spans inside span has =
    let h = inside span has in
    (omega (arith, h.from), omega (arith, h.to))

module _ (rights : ℕ → Rights) (host : List HostedView) (hosted : AreHosted rights host) where
  lies : (a : ℕ) (m : HostedView) → slice_get host a ≡ Some m → LieIn (parts a) (rights a)
  lies a m at =
      let h = hosted a m at in
      spans_lie 65536 65552 a (rights a)
      (lie-between a (rights a).reads (subst (λ b. AreInArena b (rights a).reads) h.0.base h.1.reads))
      (lie-between a (rights a).writes (subst (λ b. AreInArena b (rights a).writes) h.0.base h.1.writes))

  looks : (a : ℕ) (m : HostedView) → slice_get host a ≡ Some m → LooksAlikeIn (parts a) (world_of rights host).arena (map_of m.base m.words)
  looks a m at addr within =
      let range = part-range a addr within in
      let base : 65536 + 65552 * a ≡ m.base = sym (hosted a m at).0.base in
      ap (λ (w : Option ℕ). unwrap_or w 0)
      (get-part host 65536 a m addr (λ b x e. (hosted b x e).0.words) at range.0 range.1
      ∙ ap (λ b. get (map_of b m.words) addr) base)

  both : (a : ℕ) (it : Option HostedView) → slice_get host a ≡ it →
      AreBothAlone (parts a) (world_of rights host).arena (option_map (λ m. agent_seen m (rights a)) it) (option_map (λ m. agent_seen m (rights a)) it)
  both a None e = tt
  both a (Some m) e = record { same = refl; looks = looks a m e; lie = lies a m e }

  pub host-seen : IsSeenAs host rights (world_of rights host)
  host-seen = record {
    fits = λ a m at. (hosted a m at).1.fits;
    alike = λ a. subst (λ (x : Option Agent). AreBothAlone (parts a) (world_of rights host).arena x x) (sym (seen-at rights host a))
        (both a (slice_get host a) refl);
  }

-- ---- what is seen of the memory

part-held : (part : ℕ → Bool) (arena : Memory) (x y : Option Agent) (agent : Agent) → y ≡ Some agent → AreBothAlone part arena x y →
    LooksAlikeIn part arena agent.state.memory
part-held part arena x None agent e h = absurd (none-some agent e)
part-held part arena None (Some other) agent e h = absurd h
part-held part arena (Some shared) (Some other) agent e h =
    subst (λ (it : Agent). LooksAlikeIn part arena it.state.memory) (same_Some other agent e) h.looks

pub parts-held : (host : List HostedView) (rights : ℕ → Rights) (world : World) → IsSeenAs host rights world → ReadsAsParts host world
parts-held host rights world seen a m at =
    part-held (parts a) world.arena (slice_get world.agents a) (slice_get (agents_seen rights host) a) (agent_seen m (rights a))
    (seen-at rights host a ∙ ap (option_map (λ x. agent_seen x (rights a))) at) (seen.alike a)

-- ---- rights for each host

abbrev no-rights : Rights
no-rights = record { reads = []; writes = [] }

-- those that fit the agent while it may run, else none
abbrev rights-in : (m : HostedView) (phase : Phase) → (phase ≡ phases.Ready → SomeRightsFit m) → Rights
rights-in m phases.Unloaded fit = no-rights
rights-in m phases.Returned fit = no-rights
rights-in m phases.Ready fit = (fit refl).1

right-in : (m : HostedView) (phase : Phase) (fit : phase ≡ phases.Ready → SomeRightsFit m) → m.phase ≡ phase → AreRightsOf m (rights-in m phase fit)
right-in m phases.Unloaded fit e = record {
  reads = λ span has. absurd (omega (arith, has.1));
  writes = λ span has. absurd (omega (arith, has.1));
  fits = λ ready. absurd (let wrong : phases.Unloaded ≡ phases.Ready = sym e ∙ ready in cc);
}
right-in m phases.Returned fit e = record {
  reads = λ span has. absurd (omega (arith, has.1));
  writes = λ span has. absurd (omega (arith, has.1));
  fits = λ ready. absurd (let wrong : phases.Returned ≡ phases.Ready = sym e ∙ ready in cc);
}
right-in m phases.Ready fit e =
    let some : SomeRightsFit m = fit refl in
    record { reads = some.2.reads; writes = some.2.writes; fits = λ ready. (some.0, some.2) }

abbrev rights-for : (it : Option HostedView) → ((m : HostedView) → it ≡ Some m → m.phase ≡ phases.Ready → SomeRightsFit m) → Rights
rights-for None fit = no-rights
rights-for (Some m) fit = rights-in m m.phase (fit m refl)

right-for : (it : Option HostedView) (fit : (m : HostedView) → it ≡ Some m → m.phase ≡ phases.Ready → SomeRightsFit m) (m : HostedView) →
    it ≡ Some m → AreRightsOf m (rights-for it fit)
right-for None fit m e = absurd (none-some m e)
right-for (Some x) fit m e =
    subst (λ (y : HostedView). AreRightsOf y (rights-in x x.phase (fit x refl))) (same_Some x m e) (right-in x x.phase (fit x refl) refl)

pub some-rights : (host : List HostedView) → ((a : ℕ) (m : HostedView) → slice_get host a ≡ Some m → IsHostedAt a m) →
    (rights : ℕ → Rights) × AreHosted rights host
some-rights host hosted = (
  λ a. rights-for (slice_get host a) (λ m at. (hosted a m at).rights),
  λ a m at. (hosted a m at, right-for (slice_get host a) (λ x is. (hosted a x is).rights) m at),
)
