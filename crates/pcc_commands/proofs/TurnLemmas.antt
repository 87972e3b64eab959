-- Where turns take the agents of a host.
use Rattle.std.proofs.Common.{◌≡◌, ◌≢◌, ℕ, ◌+◌, ◌%◌, ◌^◌, Bool, true, false, true≢false, List, Some, refl, sym, ◌∙◌, ap, subst}
use Rattle.word_ops.specs.Memory.{Memory}
use Rattle.alpha_words.specs.declared.insn.Insn.{Insn}
use Rattle.alpha_cfg.specs.Machine.{State, run_of}
use Rattle.alpha_cfg.specs.declared.outcome.Outcome.{Outcome}
use Rattle.alpha_cfg.specs.declared.outcome.Outcome.TheVariants as outcomes
use Rattle.alpha_cfg.proofs.Joining.{run-behind}
use Rattle.reference_machine.specs.Arena.{map_of, sum_of}
use Rattle.reference_machine.specs.Starts.{StartView, start_state}
use Rattle.packet_store.specs.PolicyStarts.{start_from}
use Rattle.packet_store.proofs.StartLemmas.{start_from-sum}
use Rattle.host_steps.specs.declared.ended.Ended.{Ended}
use Rattle.host_steps.specs.declared.ended.Ended.TheVariants as ended
use Rattle.host_steps.specs.RunEnds.{outcome_of}
use Rattle.host_steps.specs.Parts.{part_state, rights_of}
use Rattle.alpha_turns.specs.Turns.{may_go_on}
use Rattle.alpha_turns.proofs.Running.{ended as ended_stays}
use Rattle.agent_host.specs.declared.phase.Phase.{Phase}
use Rattle.agent_host.specs.declared.phase.Phase.TheVariants as phases
use Rattle.agent_host.specs.declared.turned.Turned.{Turned}
use Rattle.agent_host.specs.declared.turned.Turned.TheVariants as turned
use Rattle.agent_host.specs.Agents.{HostedView, base_of, part_of, RightsFitAgent, agent_at}
use Rattle.agent_host.specs.Turns.{phase_after, RunsTo, TurnsTo, outcome_shown}
use Rattle.pcc_commands.specs.Stages.Hosting.{Member}
use Rattle.pcc_commands.specs.Commands.Host.{alone, turn_outcome, region_sum}
use Rattle.vcgen.specs.Safety.{steps_after}
use Rattle.pcc_commands.specs.Inside.Standing.{StandsAt}

-- phases are apart
abbrev is_ready : Phase → Bool
is_ready phases.Ready = true
is_ready phases.Unloaded = false
is_ready phases.Returned = false

abbrev is_unloaded : Phase → Bool
is_unloaded phases.Unloaded = true
is_unloaded phases.Ready = false
is_unloaded phases.Returned = false

after-loaded : (result : Ended) → phase_after result ≢ phases.Unloaded
after-loaded (ended.Returned word) e = true≢false (sym (ap is_unloaded e))
after-loaded ended.OutOfSteps e = true≢false (sym (ap is_unloaded e))

after-out : (result : Ended) → phase_after result ≡ phases.Ready → result ≡ ended.OutOfSteps
after-out ended.OutOfSteps e = refl
after-out (ended.Returned word) e = absurd (true≢false (sym (ap is_ready e)))

after-returned : (result : Ended) → phase_after result ≡ phases.Returned → may_go_on (outcome_of result) ≡ false
after-returned (ended.Returned word) e = refl
after-returned ended.OutOfSteps e = absurd (true≢false (ap is_ready e))

module _ (a : ℕ) (agent : Member) (setup : StartView) where
  -- at its start
  pub stands-start : (m : HostedView) (left : ℕ) → m.accepted.policy ≡ agent.policy
      → m.accepted.code ≡ agent.code → m.base ≡ base_of a
      → RightsFitAgent (agent_at m setup) left (rights_of setup)
      → StandsAt a agent setup 0 (agent_at m setup)
  stands-start m left policy code base fits = record {
    policy = policy;
    code = code;
    base = base;
    region = refl;
    state = ap (λ b. start_state b setup) (sym base);
    loaded = λ e. true≢false (ap is_ready e);
    out = λ _. refl;
    fits = λ _. (left, fits);
    ended = λ e. absurd (true≢false (ap is_ready e));
  }

  -- through a run
  ran : (n k : ℕ) (m q : HostedView) (result : Ended) → StandsAt a agent setup n m → RunsTo k result m q → alone a agent setup (n + k) ≡ (outcome_of result, part_state (part_of q) (rights_of setup))
  ran n k m q result s t =
      let here : alone a agent setup n ≡ (outcomes.OutOfSteps, part_state (part_of m) (rights_of setup)) =
      ap (λ (o : Outcome). (o, (alone a agent setup n).1)) (s.out t.ready) ∙ ap (λ (x : State). (outcomes.OutOfSteps, x)) s.state in
      run-behind agent.code n k (start_state (base_of a) setup) (part_state (part_of m) (rights_of setup)) here
      ∙ ap (λ (l : List Insn). run_of l k (part_state (part_of m) (rights_of setup))) (sym s.code)
      ∙ (let f = s.fits t.ready in (t.under f.0 (rights_of setup) f.1).same)

  stands-run : (n k : ℕ) (m q : HostedView) (result : Ended) → StandsAt a agent setup n m → RunsTo k result m q → StandsAt a agent setup (n + k) q
  stands-run n k m q result s t =
      let phase : q.phase ≡ phase_after result = ap (λ (h : HostedView). h.phase) t.kept in
      let there = ran n k m q result s t in
      record {
        policy = ap (λ (h : HostedView). h.accepted.policy) t.kept ∙ s.policy;
        code = ap (λ (h : HostedView). h.accepted.code) t.kept ∙ s.code;
        base = ap (λ (h : HostedView). h.base) t.kept ∙ s.base;
        region = ap (λ (h : HostedView). h.region) t.kept ∙ s.region;
        state = ap (λ p. p.1) there;
        loaded = λ e. after-loaded result (sym phase ∙ e);
        out = λ e. ap (λ p. p.0) there ∙ ap outcome_of (after-out result (sym phase ∙ e));
        fits = λ e.
            let old = s.fits t.ready in
            let on = (t.under old.0 (rights_of setup) old.1).fits (after-out result (sym phase ∙ e)) in
            let left : ℕ = steps_after m.accepted.bound k old.0 in (
              left,
              subst (λ c. RightsFitAgent (record q { accepted = c }) left (rights_of setup))
                  (sym (ap (λ (h : HostedView). h.accepted) t.kept))
                  (record { reads = on.reads; writes = on.writes; few = on.few; holds = on.holds }),
            );
        ended = λ e. ap (λ p. may_go_on p.0) there ∙ after-returned result (sym phase ∙ e);
      }

  -- behind a return more steps change nothing
  stands-done : (n k : ℕ) (m : HostedView) → m.phase ≡ phases.Returned → StandsAt a agent setup n m → StandsAt a agent setup (n + k) m
  stands-done n k m done s =
      let same : alone a agent setup (n + k) ≡ alone a agent setup n = ended_stays agent.code n k (start_state (base_of a) setup) (s.ended done) in
      record {
        policy = s.policy;
        code = s.code;
        base = s.base;
        region = s.region;
        state = ap (λ p. p.1) same ∙ s.state;
        loaded = s.loaded;
        out = λ e. ap (λ p. p.0) same ∙ s.out e;
        fits = s.fits;
        ended = λ e. ap (λ p. may_go_on p.0) same ∙ s.ended e;
      }

  -- through a turn
  pub stands-turn : (n k : ℕ) (m q : HostedView) (result : Turned) → StandsAt a agent setup n m → TurnsTo k result m q → StandsAt a agent setup (n + k) q
  stands-turn n k m q (turned.Returned word) s t = stands-run n k m q (ended.Returned word) s t
  stands-turn n k m q turned.OutOfSteps s t = stands-run n k m q ended.OutOfSteps s t
  stands-turn n k m q turned.Done s t = subst (StandsAt a agent setup (n + k)) (sym t.1) (stands-done n k m t.0 s)

  ran-shown : (n k : ℕ) (m q : HostedView) (result : Ended) → StandsAt a agent setup n m → RunsTo k result m q → Some (outcome_of result) ≡ turn_outcome a agent setup n k
  ran-shown n k m q result s t =
      let on : may_go_on (alone a agent setup n).0 ≡ true = ap may_go_on (s.out t.ready) in
      rw on (ap (λ p. Some p.0) (sym (ran n k m q result s t)))

  -- what the turn shows
  pub turn-shown : (n k : ℕ) (m q : HostedView) (result : Turned) → StandsAt a agent setup n m → TurnsTo k result m q → outcome_shown result ≡ turn_outcome a agent setup n k
  turn-shown n k m q (turned.Returned word) s t = ran-shown n k m q (ended.Returned word) s t
  turn-shown n k m q turned.OutOfSteps s t = ran-shown n k m q ended.OutOfSteps s t
  turn-shown n k m q turned.Done s t = rw (s.ended t.0) refl

-- an agent that was loaded still is
pub turn-loaded : (budget : ℕ) (was is : HostedView) (result : Turned) → was.phase ≢ phases.Unloaded → TurnsTo budget result was is → is.phase ≢ phases.Unloaded
turn-loaded budget was is (turned.Returned word) loaded t e = after-loaded (ended.Returned word) (sym (ap (λ (h : HostedView). h.phase) t.kept) ∙ e)
turn-loaded budget was is turned.OutOfSteps loaded t e = after-loaded ended.OutOfSteps (sym (ap (λ (h : HostedView). h.phase) t.kept) ∙ e)
turn-loaded budget was is turned.Done loaded t e = loaded (sym (ap (λ (h : HostedView). h.phase) t.1) ∙ e)

-- the sum of the region where an agent stands
pub stands-sum : (a : ℕ) (agent : Member) (setup : StartView) (n sum : ℕ) (q : HostedView)
    → start_from (base_of a) agent.policy.kind agent.packet ≡ Some setup
    → StandsAt a agent setup n q
    → sum ≡ sum_of (map_of q.base q.words) q.base q.region % 2 ^ 64 → sum ≡ region_sum a agent setup n
stands-sum a agent setup n sum q starts s is =
    let m : Memory = map_of q.base q.words in
    let memory : (alone a agent setup n).1.memory ≡ m = ap (λ (x : State). x.memory) s.state in
    is ∙ ap (λ b. sum_of m b q.region % 2 ^ 64) s.base ∙ ap (λ k. sum_of m (base_of a) k % 2 ^ 64) s.region
    ∙ ap (λ x. x % 2 ^ 64) (start_from-sum (base_of a) agent.policy.kind agent.packet setup m starts)
    ∙ ap (λ (l : Memory). sum_of l setup.at setup.region % 2 ^ 64) (sym memory)
