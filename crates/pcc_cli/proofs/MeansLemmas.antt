-- From the clauses of the commands to what a run of any command means: where memory ran out, the reads are those that the
-- command's definition asks for.
use Rattle.std.proofs.Common.{◌≡◌, ℕ, suc, ◌<◌, ◌⊎◌, inl, inr, Bool, true, false, true≢false, List, [], ◌∷◌, ◌++◌, Option, Some, None, Result, Ok, Err}
use Rattle.std.proofs.Common.{refl, sym, ap, ◌∙◌, subst, arith}
use Rattle.std.proofs.lemmas.List.{append-nil}
use Rattle.file_port.specs.Events.{Given, whole, missing, too_long, failed, no_memory, Event, was_read, was_written, was_put}
use Rattle.file_port.specs.Sink.{SinkState}
use Rattle.file_port.specs.declared.Put.{Put}
use Rattle.alpha_words.specs.declared.insn.Insn.{Insn}
use Rattle.asm_text.specs.declared.limits.TheConstants.{MAX_SOURCE}
use Rattle.policy_set.specs.Views.{PolicyView}
use Rattle.packet_store.specs.PacketDecoding.{decoded_packets}
use Rattle.policy_set.specs.Names.{policy_of}
use Rattle.term_table.specs.Bytes.{IsBytes}
use Rattle.agent_script.specs.declared.script.TheConstants.{MAX_SCRIPT}
use Rattle.agent_script.specs.Statements.{LoadView}
use Rattle.agent_script.specs.Scripts.{ScriptView}
use Rattle.agent_script.specs.Texts.{SpellsScript}
use Rattle.pcc_gate.specs.Accepted.{IsAccepted}
use Rattle.pcc_gate.specs.First.{first_refusal}
use Rattle.pcc_gate.specs.Clauses.{IsFirstRefusal}
use Rattle.pcc_gate.specs.declared.refusal.Refusal.{Refusal}
use Rattle.pcc_words.specs.Invocations.{named, from_file, Invocation, asm, prove, check, run, ref, demo, upgrade, host, bpf, command_of}
use Rattle.pcc_lines.specs.Fixed.{accepted_line, bpf_too_long_line, container_too_long_line, packets_too_long_line, policy_too_long_line, unknown_policy_line}
use Rattle.pcc_lines.specs.Fixed.{script_too_long_line, source_too_long_line}
use Rattle.pcc_stages.specs.Exits.{Exit}
use Rattle.pcc_stages.specs.Runs.{Effect, AreOctets, NoneFailed, done_exit}
use Rattle.pcc_stages.specs.Stage.{Stage, stops, gives, reads, ◌>>=◌, went_on, Follows}
use Rattle.pcc_stages.specs.Stages.Common.{refused, policy_found, printing}
use Rattle.packet_store.specs.Results.{packet_result}
use Rattle.pcc_lines.specs.Results.{result_lines}
use Rattle.pcc_stages.specs.Stages.Containers.{code_in, code_of}
use Rattle.pcc_stages.specs.Stages.Packets.{packets_in}
use Rattle.pcc_stages.specs.Stages.Policies.{policy_from}
use Rattle.pcc_stages.specs.declared.files.TheConstants.{MAX_FILE, MAX_POLICY_FILE}
use Rattle.pcc_stages.specs.Texts.{texts}
use Rattle.pcc_stages.proofs.StageLemmas.{bind-assoc, follows-join, went_on-bind}
use Rattle.pcc_commands.specs.Commands.Assemble.{asm_command}
use Rattle.pcc_commands.specs.Commands.Bpf.{bpf_command}
use Rattle.pcc_commands.specs.Commands.Check.{check_command}
use Rattle.pcc_commands.specs.Commands.Demo.{demo_command}
use Rattle.pcc_commands.specs.Commands.Host.{turn_lines, host_command}
use Rattle.pcc_commands.specs.Commands.Prove.{prove_command}
use Rattle.pcc_commands.specs.Commands.Reference.{ref_command}
use Rattle.pcc_commands.specs.Commands.Running.{run_command}
use Rattle.pcc_commands.specs.Commands.Upgrade.{upgrade_command}
use Rattle.pcc_commands.specs.Stages.Assembling.{assembled_in, assembled_of}
use Rattle.pcc_commands.specs.Stages.Compiling.{compiled_in, compiled_of}
use Rattle.pcc_commands.specs.Stages.Hosting.{script_of, script_found, script_in, Member, packet_of, load_of, told_of, for_agent, agents_from}
use Rattle.pcc_commands.specs.Stages.Judging.{stops_if_refused, accepted_in, accepted_of, accepted_code_in, accepted_code_of}
use Rattle.pcc_commands.specs.Stages.Proving.{proved_in, proved_of}
use Rattle.pcc_commands.specs.Stages.Upgrading.{upgraded_in, upgraded_of}
use Rattle.pcc_commands.specs.Stages.Writing.{writing}
use Rattle.pcc_commands.specs.Tasks.{stage_of}
use Rattle.pcc_commands.specs.declared.stages.TheConstants.{MAX_PROGRAM_FILE}
use Rattle.pcc_commands.proofs.RunLemmas.{accepted_code_of_bytes}
use Rattle.pcc_cli.specs.Headline.{ToldOf, AssemblesTo, IsNoSource, ProvesExactly, IsUnprovedExactly, UpgradesTo, IsNoUpgrade, CompilesExactly, IsNoProgram}
use Rattle.pcc_cli.specs.Headline.{IsFirstVerdict, Checks, ChecksFrom, without_policy, with_policy, RunsCode, not_accepted, accepted, Refs, no_code}
use Rattle.pcc_cli.specs.Headline.{ran, Demonstrates, demonstrated, not_assembled, not_proved, Makes, not_made}
use Rattle.pcc_cli.specs.Headline.{made, IsJudged, agent_exit, packet_given, member_with, LoadsMember}
use Rattle.pcc_cli.specs.Headline.{no_policy, no_container, has_container, LoadsMembers, all, ended, ended_later, loaded, Hosts, no_script}
use Rattle.pcc_cli.specs.Headline.{not_loaded, took_turns}
use Rattle.pcc_cli.specs.Clauses.{AreOfBytes, Came, came, out_of_memory, EndsAtOnce, Under}
use Rattle.pcc_stages.specs.Requests.{usage_exit}
use Rattle.pcc_cli.specs.Means.{MayDo, Means, came_to, ran_out, MeansIfCommand, KeepsClauses}
use Rattle.pcc_cli.proofs.CodeLemmas.{code_has}
use Rattle.pcc_cli.proofs.DemoLemmas.{filter_policy}
use Rattle.pcc_cli.proofs.EndLemmas.{GateLaws, judged_by}
use Rattle.pcc_cli.proofs.CheckLemmas.{ReadsPolicies, checked_by, checked-spelled}
use Rattle.pcc_cli.proofs.HostLemmas.{ReadsScripts, member, member_stage, first_stage, by_given, packet_reads}
use Rattle.pcc_cli.proofs.HeadlineLemmas.{ReadsPackets, run_by, run_by-accepted, ref_by, ref_by-code}

-- ---- events before others

abbrev is_nil : List Event → Bool
is_nil [] = true
is_nil (x ∷ events) = false

abbrev head_of : Event → List Event → Event
head_of other [] = other
head_of other (x ∷ events) = x

abbrev tail_of : List Event → List Event
tail_of [] = []
tail_of (x ∷ events) = events

pub nil_split : (events rest : List Event) → events ++ rest ≡ [] → events ≡ []
nil_split [] rest e = refl
nil_split (x ∷ events) rest e = absurd (true≢false (ap is_nil (sym e)))

-- events before others, that begin so
data Begins (events rest : List Event) (first : Event) (more : List Event) : Type 0 where
  at_none : events ≡ [] → Begins events rest first more
  at_first : (later : List Event) → events ≡ first ∷ later → later ++ rest ≡ more → Begins events rest first more

begins : (events rest : List Event) (first : Event) (more : List Event) → events ++ rest ≡ first ∷ more → Begins events rest first more
begins [] rest first more e = at_none refl
begins (x ∷ events) rest first more e = at_first events (ap (λ y. y ∷ events) (ap (head_of first) e)) (ap tail_of e)

-- two splits of the same events
data Splits (events rest first more : List Event) : Type 0 where
  inside_first : (x : List Event) → first ≡ events ++ x → Splits events rest first more
  past_first : (y : List Event) → events ≡ first ++ y → y ++ rest ≡ more → Splits events rest first more

splits_on : (e : Event) (events rest first more : List Event) → Splits events rest first more → Splits (e ∷ events) rest (e ∷ first) more
splits_on e events rest first more (inside_first x is) = inside_first x (ap (λ es. e ∷ es) is)
splits_on e events rest first more (past_first y is on) =
    past_first y (ap (λ es. e ∷ es) is) on

splits : (events rest first more : List Event) → events ++ rest ≡ first ++ more → Splits events rest first more
splits [] rest first more e = inside_first first refl
splits (x ∷ events) rest [] more e = past_first (x ∷ events) refl e
splits (x ∷ events) rest (y ∷ first) more e =
    subst (λ z. Splits (x ∷ events) rest (z ∷ first) more) (ap (head_of x) e)
    (splits_on x events rest first more (splits events rest first more (ap tail_of e)))

-- ---- what events reach

-- the events are the first reads of the stage
abbrev pub Reach : List Event → Stage Effect → Type 0
Reach events stage = (later : Stage Effect) × Follows texts events stage later

pub reach_nothing : (events : List Event) (stage : Stage Effect) → events ≡ [] → Reach events stage
reach_nothing events stage is = (stage, subst (λ es. Follows texts es stage stage) (sym is) refl)

module _ (name : List ℕ) (max : ℕ) (more : Exit) (on : List ℕ → Stage Effect) (given : Given) (events rest : List Event) where
  reach_read : (behind : List Event) → events ++ rest ≡ was_read name max given ∷ behind
      → ((later : List Event) → events ≡ was_read name max given ∷ later → later ++ rest ≡ behind → Reach later (went_on texts name more on given))
      → Reach events (reads name max more on)
  reach_read behind e each = by (begins events rest (was_read name max given) behind e)
    where
      by : Begins events rest (was_read name max given) behind → Reach events (reads name max more on)
      by (at_none is) = reach_nothing events (reads name max more on) is
      by (at_first later is split) =
          let r = each later is split in (
            r.0,
            subst (λ es. Follows texts es (reads name max more on) r.0) (sym is)
                (went_on texts name more on given, record { more = more; on = on; asks = refl; goes = refl }, r.1),
          )

  reach_once : events ++ rest ≡ was_read name max given ∷ [] → Reach events (reads name max more on)
  reach_once e = reach_read [] e (λ later is split. reach_nothing later (went_on texts name more on given) (nil_split later rest split))

-- nothing was written where none failed
no_write : (later rest : List Event) (name bytes : List ℕ) (answer : Put) → NoneFailed later → later ++ rest ≡ was_written name bytes answer ∷ [] → later ≡ []
no_write later rest name bytes answer clean e = by (begins later rest (was_written name bytes answer) [] e)
  where
    by : Begins later rest (was_written name bytes answer) [] → later ≡ []
    by (at_none is) = is
    by (at_first others is split) = absurd (subst NoneFailed is clean)

reach_makes : (input output : List ℕ) (max : ℕ) (more : Exit) (on : List ℕ → Stage Effect) (IsMade : List ℕ → List ℕ → Type 0)
    (IsTold : Given → Exit → Type 0)
    (events rest : List Event) (exit : Exit) → NoneFailed events → Makes input output max IsMade IsTold (events ++ rest) exit → Reach events
    (reads input max more on)
reach_makes input output max more on IsMade IsTold events rest exit clean (not_made given is why) = reach_once input max more on given events rest is
reach_makes input output max more on IsMade IsTold events rest exit clean (made b out answer is what end) =
    reach_read input max more on (whole b) events rest (was_written output out answer ∷ []) is
    (λ later at split. reach_nothing later (on b) (no_write later rest output out answer (subst NoneFailed at clean) split))

under_reach : (p : Option PolicyView) (May : PolicyView → List Event → Exit → Type 0) (next : PolicyView → Stage Effect) (events rest : List Event)
    (exit : Exit)
    → ((under : PolicyView) → May under (events ++ rest) exit → Reach events (next under)) → Under p May (events ++ rest) exit → Reach events
    (policy_found p >>= next)
under_reach None May next events rest exit each may =
    reach_nothing events (policy_found None >>= next) (nil_split events rest may.0)
under_reach (Some under) May next events rest exit each may = each under may

-- ---- check, run and ref

reach_check : (Judges : PolicyView → List ℕ → Exit → Type 0) (under : PolicyView) (file : List ℕ) (more : Exit) (on : List ℕ → Stage Effect)
    (events rest : List Event) (exit : Exit)
    → Checks Judges under file (events ++ rest) exit → Reach events (reads file MAX_FILE more on)
reach_check Judges under file more on events rest exit c = reach_once file MAX_FILE more on c.given events rest c.one_read

module _ (gate : GateLaws) (policies : ReadsPolicies) (name file : List ℕ) (events rest : List Event) (exit : Exit) where
  reach_from : ChecksFrom IsFirstVerdict name file (events ++ rest) exit → Reach events
      (reads name MAX_POLICY_FILE (refused policy_too_long_line) (checked_by gate policies name file))
  reach_from (without_policy given is why) = reach_once name MAX_POLICY_FILE (refused policy_too_long_line)
      (checked_by gate policies name file) given events rest is
  reach_from (with_policy text policy given spells kept is judged) =
      reach_read name MAX_POLICY_FILE (refused policy_too_long_line) (checked_by gate policies name file) (whole text) events rest
      (was_read file MAX_FILE given ∷ []) is
      (λ later at split. subst (λ s. Reach later s) (sym (checked-spelled gate policies name file text policy ((policies.spelled text policy).0 spells)))
      (reach_once file MAX_FILE (refused container_too_long_line) (λ b. judged_by gate policy (first_refusal policy b)) given later rest split))

-- what is printed of the packets of bytes
abbrev lines_behind : PolicyView → List Insn → ℕ → List ℕ → Stage Effect
lines_behind under code steps b =
    packets_in b >>= λ packets. printing (result_lines under.kind (packet_result under code steps) 0 packets)

module _ (gate : GateLaws) (packet_laws : ReadsPackets) (under : PolicyView) (file packets : List ℕ) (steps : ℕ) (events rest : List Event)
    (exit : Exit) where
  reach_run : AreOfBytes events → RunsCode IsFirstVerdict under file packets steps (events ++ rest) exit
      → Reach events (reads file MAX_FILE (refused container_too_long_line) (run_by gate packet_laws under file packets steps))
  reach_run held (not_accepted given is judged more) = reach_once file MAX_FILE (refused container_too_long_line)
      (run_by gate packet_laws under file packets steps) given events rest is
  reach_run held (accepted b a given is by) =
      reach_read file MAX_FILE (refused container_too_long_line) (run_by gate packet_laws under file packets steps) (whole b) events rest
      (was_read packets MAX_FILE given ∷ []) is
      (λ later at split.
      let bytes : AreOfBytes (was_read file MAX_FILE (whole b) ∷ later) = subst AreOfBytes at held in
      let first : first_refusal under b ≡ None = (gate.accepted under b bytes.0).0 a in
      subst (λ s. Reach later s) (sym (run_by-accepted gate packet_laws under file packets steps b a first))
      (reach_once packets MAX_FILE (refused packets_too_long_line) (lines_behind under a.code steps) given later rest split))

  reach_ref : Refs under file packets steps (events ++ rest) exit → Reach events
      (reads file MAX_FILE (refused container_too_long_line) (ref_by packet_laws under file packets steps))
  reach_ref (no_code given is why) = reach_once file MAX_FILE (refused container_too_long_line)
      (ref_by packet_laws under file packets steps) given events rest is
  reach_ref (ran b c code given is h by same) =
      reach_read file MAX_FILE (refused container_too_long_line) (ref_by packet_laws under file packets steps) (whole b) events rest
      (was_read packets MAX_FILE given ∷ []) is
      (λ later at split. subst (λ s. Reach later s) (sym (ref_by-code packet_laws under file packets steps b code (code_has under b c code h)))
      (reach_once packets MAX_FILE (refused packets_too_long_line) (lines_behind under code steps) given later rest split))

-- ---- demo

reach_demo : (IsProved : List ℕ → List ℕ → Type 0) (IsTold : List ℕ → Exit → Type 0) (n : ℕ) (stage : Stage Effect) (events rest : List Event) (exit : Exit)
    → Demonstrates IsProved IsTold n (events ++ rest) exit → Reach events stage
reach_demo IsProved IsTold n stage events rest exit (demonstrated is d) = reach_nothing events stage (nil_split events rest is)
reach_demo IsProved IsTold n stage events rest exit (not_assembled is why) = reach_nothing events stage (nil_split events rest is)
reach_demo IsProved IsTold n stage events rest exit (not_proved bare is assembled told) = reach_nothing events stage (nil_split events rest is)

-- ---- host

module _ (gate : GateLaws) (a : ℕ) (one : LoadView) (next : Member → Stage Effect) (policy : PolicyView) (is_named : policy_of one.policy ≡ Some policy) where
  -- what a load goes on with behind its policy
  abbrev coded : Stage (List Insn) → Stage Member
  coded stage = stage >>= λ code. packet_of a policy one.packets >>= λ packet. gives (record { policy = policy; code = code; packet = packet })

  -- behind its container
  abbrev judged_on : List ℕ → Stage Effect
  judged_on b = for_agent a (coded (accepted_code_in policy b)) >>= next

  at_file : (for_agent a (load_of a one) >>= next) ≡ reads one.file MAX_FILE (told_of a (refused container_too_long_line)) judged_on
  unfolding load_of accepted_code_of
  at_file =
      ap
      (λ o. for_agent a (policy_found o >>= λ p. accepted_code_of p one.file >>= λ code. packet_of a p one.packets >>= λ packet. gives
      (record { policy = p; code = code; packet = packet })) >>= next) is_named

  module _ (b : List ℕ) (held : IsBytes b) (it : IsAccepted policy b) where
    -- behind its packets
    abbrev packets_on : List ℕ → Stage Effect
    packets_on bytes = for_agent a (first_stage a policy it.code (decoded_packets bytes)) >>= next

    at_packets : judged_on b ≡ reads one.packets MAX_FILE (told_of a (refused packets_too_long_line)) packets_on
    at_packets =
        ap (λ s. for_agent a (coded s) >>= next)
        (accepted_code_of_bytes policy b it.contents it.code it.marks it.accepts.passes ((gate.accepted policy b held).0 it))
        ∙ ap (λ s. s >>= next) (packet_reads a policy it.code one.packets)

    at_member : (given : Given) → went_on texts one.packets (told_of a (refused packets_too_long_line)) packets_on given
        ≡ (member_stage policy it.code (packet_given a policy one.packets given) >>= next)
    at_member given =
        sym (went_on-bind next one.packets (told_of a (refused packets_too_long_line))
        (λ bytes. for_agent a (first_stage a policy it.code (decoded_packets bytes))) given)
        ∙ ap (λ s. s >>= next) (by_given a policy it.code one.packets given)

    member_goes : (agent : Member) (found : Result (List ℕ) Exit) → Ok agent ≡ member_with policy it.code found →
        (member_stage policy it.code found >>= next) ≡ next agent
    member_goes agent (Ok packet) is =
        let both : Ok agent ≡ Ok (member policy it.code packet) = is in
        let same : member policy it.code packet ≡ agent = cc in ap next same
    member_goes agent (Err exit) is = let wrong : Ok agent ≡ Err exit = is in absurd (cc)

module _ (gate : GateLaws) (a : ℕ) (one : LoadView) (next : Member → Stage Effect) where
  abbrev load_stage : Stage Effect
  load_stage = for_agent a (load_of a one) >>= next

  reach_load : (events rest whole_events : List Event) (found : Result Member Exit) → events ++ rest ≡ whole_events → AreOfBytes events
      → LoadsMember a one whole_events found
      → Reach events load_stage
  reach_load events rest whole_events found e held (no_policy unknown is why) = reach_nothing events load_stage (nil_split events rest (e ∙ is))
  reach_load events rest whole_events found e held (no_container policy given exit is_named is judged more why) =
      subst (λ s. Reach events s) (sym (at_file gate a one next policy is_named))
      (reach_once one.file MAX_FILE (told_of a (refused container_too_long_line)) (judged_on gate a one next policy is_named) given events rest (e ∙ is))
  reach_load events rest whole_events found e held (has_container policy b it given is_named is why) =
      subst (λ s. Reach events s) (sym (at_file gate a one next policy is_named))
      (reach_read one.file MAX_FILE (told_of a (refused container_too_long_line)) (judged_on gate a one next policy is_named) (whole b) events rest
      (was_read one.packets MAX_FILE given ∷ []) (e ∙ is)
      (λ later at split.
      let bytes : AreOfBytes (was_read one.file MAX_FILE (whole b) ∷ later) = subst AreOfBytes at held in
      subst (λ s. Reach later s) (sym (at_packets gate a one next policy is_named b bytes.0 it))
      (reach_once one.packets MAX_FILE (told_of a (refused packets_too_long_line))
      (packets_on gate a one next policy is_named b bytes.0 it) given later rest split)))

  -- a load that gave its agent
  went_load : (events : List Event) (agent : Member) → AreOfBytes events → LoadsMember a one events (Ok agent) → Follows texts events load_stage (next agent)
  went_load events agent held (no_policy unknown is why) = absurd (cc)
  went_load events agent held (no_container policy given exit is_named is judged more why) = absurd (cc)
  went_load events agent held (has_container policy b it given is_named is why) =
      let bytes : AreOfBytes (was_read one.file MAX_FILE (whole b) ∷ was_read one.packets MAX_FILE given ∷ []) = subst AreOfBytes is held in
      let reads_packets = at_packets gate a one next policy is_named b bytes.0 it in
      let ends : went_on texts one.packets (told_of a (refused packets_too_long_line))
      (packets_on gate a one next policy is_named b bytes.0 it) given ≡ next agent =
      at_member gate a one next policy is_named b bytes.0 it given ∙ member_goes gate a one next policy is_named b bytes.0 it agent
      (packet_given a policy one.packets given) why in
      let behind : Follows texts (was_read one.packets MAX_FILE given ∷ []) (judged_on gate a one next policy is_named b) (next agent) =
      subst (λ s. Follows texts (was_read one.packets MAX_FILE given ∷ []) s (next agent)) (sym reads_packets)
      (next agent, record { more = _; on = _; asks = refl; goes = sym ends }, refl) in
      subst (λ es. Follows texts es load_stage (next agent)) (sym is)
      (subst (λ s. Follows texts (was_read one.file MAX_FILE (whole b) ∷ was_read one.packets MAX_FILE given ∷ []) s (next agent))
      (sym (at_file gate a one next policy is_named))
      (judged_on gate a one next policy is_named b, record { more = _; on = _; asks = refl; goes = refl }, behind))

  -- behind a container that isn't accepted, or wasn't read
  judged_stop : (policy : PolicyView) (is_named : policy_of one.policy ≡ Some policy) (given : Given) (exit : Exit) → AreOctets given
      → IsJudged IsFirstVerdict policy one.file given exit → 0 < exit.status
      → went_on texts one.file (told_of a (refused container_too_long_line)) (judged_on gate a one next policy is_named) given ≡ stops (told_of a exit)
  unfolding accepted_code_in accepted_in
  judged_stop policy is_named (whole b) exit held judged more = by judged.judged
    where
      by : IsAccepted policy b ⊎ ((r : Refusal) × IsFirstRefusal policy b r) → judged_on gate a one next policy is_named b ≡ stops (told_of a exit)
      by (inl it) =
          let done : exit ≡ done_exit accepted_line = judged.verdict.accepted.1 it in
          let wrong : exit.status ≡ 0 = ap (λ (x : Exit). x.status) done in absurd (omega (arith, wrong, more))
      by (inr (r, first)) =
          ap (λ x. for_agent a (coded gate a one next policy is_named (stops_if_refused x >>= λ accepted. code_in policy b)) >>= next)
          ((gate.refusals policy b r held).1 first)
          ∙ ap (λ x. stops (told_of a x)) (sym (judged.refused r first))
  judged_stop policy is_named missing exit held judged more = ap (λ x. stops (told_of a x)) (sym judged)
  judged_stop policy is_named too_long exit held judged more = ap (λ x. stops (told_of a x)) (sym judged)
  judged_stop policy is_named failed exit held judged more = ap (λ x. stops (told_of a x)) (sym judged)
  judged_stop policy is_named no_memory exit held judged more = ap (λ x. stops (told_of a x)) (sym judged)

  -- no agent was found behind one that is
  member_stop : (policy : PolicyView) (code : List Insn) (exit : Exit) (found : Result (List ℕ) Exit) → Err exit ≡ member_with policy code found
      → (member_stage policy code found >>= next) ≡ stops exit
  member_stop policy code exit (Ok packet) is = let wrong : Err exit ≡ Ok (member policy code packet) = is in absurd (cc)
  member_stop policy code exit (Err other) is = let both : Err exit ≡ Err other = is in let same : other ≡ exit = cc in ap stops same

  -- where no policy has the name
  at_no_policy : policy_of one.policy ≡ None → load_stage ≡ stops (told_of a (refused unknown_policy_line))
  unfolding load_of
  at_no_policy unknown =
      ap
      (λ o. for_agent a (policy_found o >>= λ p. accepted_code_of p one.file >>= λ code. packet_of a p one.packets >>= λ packet. gives
      (record { policy = p; code = code; packet = packet })) >>= next) unknown

  -- a load that ended the command
  stop_load : (events : List Event) (exit : Exit) → AreOfBytes events → LoadsMember a one events (Err exit) → Follows texts events load_stage (stops exit)
  stop_load events exit held (no_policy unknown is why) =
      let both : Err exit ≡ Err (agent_exit a unknown_policy_line) = why in
      let same : exit ≡ agent_exit a unknown_policy_line = cc in
      subst (λ es. Follows texts es load_stage (stops exit)) (sym is) (ap stops same ∙ sym (at_no_policy unknown))
  stop_load events exit held (no_container policy given other is_named is judged more why) =
      let bytes : AreOfBytes (was_read one.file MAX_FILE given ∷ []) = subst AreOfBytes is held in
      let both : Err exit ≡ Err (told_of a other) = why in
      let same : exit ≡ told_of a other = cc in
      let goes = judged_stop policy is_named given other bytes.0 judged more in
      subst (λ es. Follows texts es load_stage (stops exit)) (sym is)
      (subst (λ s. Follows texts (was_read one.file MAX_FILE given ∷ []) s (stops exit)) (sym (at_file gate a one next policy is_named))
      (_, record { more = _; on = _; asks = refl; goes = refl }, ap stops same ∙ sym goes))
  stop_load events exit held (has_container policy b it given is_named is why) =
      let bytes : AreOfBytes (was_read one.file MAX_FILE (whole b) ∷ was_read one.packets MAX_FILE given ∷ []) = subst AreOfBytes is held in
      let reads_packets = at_packets gate a one next policy is_named b bytes.0 it in
      let ends : went_on texts one.packets (told_of a (refused packets_too_long_line))
      (packets_on gate a one next policy is_named b bytes.0 it) given ≡ stops exit =
      at_member gate a one next policy is_named b bytes.0 it given ∙ member_stop policy it.code exit (packet_given a policy one.packets given) why in
      let behind : Follows texts (was_read one.packets MAX_FILE given ∷ []) (judged_on gate a one next policy is_named b) (stops exit) =
      subst (λ s. Follows texts (was_read one.packets MAX_FILE given ∷ []) s (stops exit)) (sym reads_packets)
      (stops exit, record { more = _; on = _; asks = refl; goes = sym ends }, refl) in
      subst (λ es. Follows texts es load_stage (stops exit)) (sym is)
      (subst (λ s. Follows texts (was_read one.file MAX_FILE (whole b) ∷ was_read one.packets MAX_FILE given ∷ []) s (stops exit))
      (sym (at_file gate a one next policy is_named))
      (judged_on gate a one next policy is_named b, record { more = _; on = _; asks = refl; goes = refl }, behind))

-- what was read by some of the events
bytes_before : (first rest : List Event) → AreOfBytes (first ++ rest) → AreOfBytes first
bytes_before [] rest held = tt
bytes_before (was_read name max given ∷ first) rest held = (held.0, bytes_before first rest held.1)
bytes_before (was_written name bytes answer ∷ first) rest held = bytes_before first rest held
bytes_before (was_put piece answer ∷ first) rest held = held

bytes_behind : (first rest : List Event) → AreOfBytes (first ++ rest) → AreOfBytes rest
bytes_behind [] rest held = held
bytes_behind (was_read name max given ∷ first) rest held = bytes_behind first rest held.1
bytes_behind (was_written name bytes answer ∷ first) rest held = bytes_behind first rest held
bytes_behind (was_put piece answer ∷ first) rest held = absurd held

module _ (gate : GateLaws) where
  -- what a host goes on with behind a load
  abbrev others_on : ℕ → List LoadView → (List Member → Stage Effect) → Member → Stage Effect
  others_on a loads next agent = (agents_from (suc a) loads >>= λ agents. gives (agent ∷ agents)) >>= next

  first_load : (a : ℕ) (one : LoadView) (loads : List LoadView) (next : List Member → Stage Effect) (events : List Event)
      → Reach events (for_agent a (load_of a one) >>= others_on a loads next) → Reach events (agents_from a (one ∷ loads) >>= next)
  first_load a one loads next events =
      subst (λ s. Reach events s) (sym (bind-assoc (for_agent a (load_of a one))
      (λ agent. agents_from (suc a) loads >>= λ agents. gives (agent ∷ agents)) next))

  -- behind a load that gave its agent
  then_others : (a : ℕ) (one : LoadView) (loads : List LoadView) (next : List Member → Stage Effect) (agent : Member) (events rest first more : List Event)
      → AreOfBytes events → LoadsMember a one first (Ok agent)
      → ((y : List Event) → AreOfBytes y → y ++ rest ≡ more → Reach y (agents_from (suc a) loads >>= λ agents. next (agent ∷ agents)))
      → Splits events rest first more → Reach events (agents_from a (one ∷ loads) >>= next)
  then_others a one loads next agent events rest first more held one_is others (inside_first x is) =
      first_load a one loads next events (reach_load gate a one (others_on a loads next) events x first (Ok agent) (sym is) held one_is)
  then_others a one loads next agent events rest first more held one_is others (past_first y is on) =
      let bytes : AreOfBytes (first ++ y) = subst AreOfBytes is held in
      let r = others y (bytes_behind first y bytes) on in
      let there : Follows texts y (others_on a loads next agent) r.0 =
      subst (λ s. Follows texts y s r.0) (sym (bind-assoc (agents_from (suc a) loads) (λ agents. gives (agent ∷ agents)) next)) r.1 in
      first_load a one loads next events (
        r.0,
        subst (λ es. Follows texts es (for_agent a (load_of a one) >>= others_on a loads next) r.0) (sym is)
            (follows-join first y (for_agent a (load_of a one) >>= others_on a loads next) (others_on a loads next agent) r.0
            (went_load gate a one (others_on a loads next) first agent (bytes_before first y bytes) one_is) there),
      )

  -- where loads come to: their agents, or the exit of the one that ended the command
  abbrev pub loads_end : (List Member → Stage Effect) → Result (List Member) Exit → Stage Effect
  loads_end next (Ok agents) = next agents
  loads_end next (Err exit) = stops exit

  abbrev by_first : ℕ → LoadView → List LoadView → (List Member → Stage Effect) → Stage Effect
  by_first a one loads next = for_agent a (load_of a one) >>= others_on a loads next

  first_of_loads : (a : ℕ) (one : LoadView) (loads : List LoadView) (next : List Member → Stage Effect)
      → by_first a one loads next ≡ (agents_from a (one ∷ loads) >>= next)
  first_of_loads a one loads next =
      sym (bind-assoc (for_agent a (load_of a one)) (λ agent. agents_from (suc a) loads >>= λ agents. gives (agent ∷ agents)) next)

  -- behind a load that gave its agent
  join_loads : (a : ℕ) (one : LoadView) (loads : List LoadView) (next : List Member → Stage Effect) (agent : Member) (first more : List Event)
      (later : Stage Effect)
      → AreOfBytes (first ++ more) → LoadsMember a one first (Ok agent)
      → Follows texts more (agents_from (suc a) loads >>= λ agents. next (agent ∷ agents)) later
      → Follows texts (first ++ more) (agents_from a (one ∷ loads) >>= next) later
  join_loads a one loads next agent first more later held one_is behind =
      subst (λ s. Follows texts (first ++ more) s later) (first_of_loads a one loads next)
      (follows-join first more (by_first a one loads next) (others_on a loads next agent) later
      (went_load gate a one (others_on a loads next) first agent (bytes_before first more held) one_is)
      (subst (λ s. Follows texts more s later) (sym (bind-assoc (agents_from (suc a) loads) (λ agents. gives (agent ∷ agents)) next)) behind))

  pub loads_follow : (a : ℕ) (loads : List LoadView) (next : List Member → Stage Effect) (events : List Event) (found : Result (List Member) Exit)
      → AreOfBytes events → LoadsMembers a loads events found → Follows texts events (agents_from a loads >>= next) (loads_end next found)
  loads_follow a loads next events found held all = refl
  loads_follow a loads next events found held (ended {one = one} {loads = others} {exit = exit} one_is) =
      subst (λ s. Follows texts events s (stops exit)) (first_of_loads a one others next)
      (stop_load gate a one (others_on a others next) events exit held one_is)
  loads_follow a loads next events found held
      (ended_later {one = one} {loads = others} {first = first} {events = more} {agent = agent} {exit = exit} one_is rest_is) =
      join_loads a one others next agent first more (stops exit) held one_is
      (loads_follow (suc a) others (λ agents. next (agent ∷ agents)) more (Err exit) (bytes_behind first more held) rest_is)
  loads_follow a loads next events found held
      (loaded {one = one} {loads = others} {first = first} {events = more} {agent = agent} {agents = agents} one_is rest_is) =
      join_loads a one others next agent first more (next (agent ∷ agents)) held one_is
      (loads_follow (suc a) others (λ all_agents. next (agent ∷ all_agents)) more (Ok agents) (bytes_behind first more held) rest_is)

  reach_loads : (a : ℕ) (loads : List LoadView) (next : List Member → Stage Effect) (events rest whole_events : List Event)
      (found : Result (List Member) Exit)
      → events ++ rest ≡ whole_events → AreOfBytes events → LoadsMembers a loads whole_events found → Reach events (agents_from a loads >>= next)
  reach_loads a loads next events rest whole_events found e held all =
      reach_nothing events (next []) (nil_split events rest e)
  reach_loads a loads next events rest whole_events found e held (ended {one = one} {loads = others} {exit = exit} one_is) =
      first_load a one others next events
      (reach_load gate a one (others_on a others next) events rest whole_events (Err exit) e held one_is)
  reach_loads a loads next events rest whole_events found e held
      (ended_later {one = one} {loads = others} {first = first} {events = more} {agent = agent} {exit = exit} one_is rest_is) =
      then_others a one others next agent events rest first more held one_is
      (λ y bytes on. reach_loads (suc a) others (λ agents. next (agent ∷ agents)) y rest more (Err exit) on bytes rest_is)
      (splits events rest first more e)
  reach_loads a loads next events rest whole_events found e held
      (loaded {one = one} {loads = others} {first = first} {events = more} {agent = agent} {agents = agents} one_is rest_is) =
      then_others a one others next agent events rest first more held one_is
      (λ y bytes on. reach_loads (suc a) others (λ all_agents. next (agent ∷ all_agents)) y rest more (Ok agents) on bytes rest_is)
      (splits events rest first more e)

module _ (gate : GateLaws) (scripts : ReadsScripts) (name : List ℕ) (events rest : List Event) (exit : Exit) (held : AreOfBytes events) where
  -- what the command goes on with behind its script
  abbrev turns_on : ScriptView → Stage Effect
  turns_on script = agents_from 0 script.loads >>= λ agents. printing (turn_lines agents 0 [] script.turns)

  at_script : (text : List ℕ) (script : ScriptView) → SpellsScript text script → (script_in text >>= turns_on) ≡ turns_on script
  unfolding script_in
  at_script text script spells = ap (λ r. script_found r >>= turns_on) ((scripts.spelled text script).1 spells)

  reach_script : (text : List ℕ) (script : ScriptView) (reads_behind : List Event) (found : Result (List Member) Exit)
      → events ++ rest ≡ was_read name MAX_SCRIPT (whole text) ∷ reads_behind → SpellsScript text script → LoadsMembers 0 script.loads reads_behind found
      → Reach events (reads name MAX_SCRIPT (refused script_too_long_line) (λ b. script_in b >>= turns_on))
  reach_script text script reads_behind found is spells loads =
      reach_read name MAX_SCRIPT (refused script_too_long_line) (λ b. script_in b >>= turns_on) (whole text) events rest reads_behind is
      (λ later at split.
      let bytes : AreOfBytes (was_read name MAX_SCRIPT (whole text) ∷ later) = subst AreOfBytes at held in
      subst (λ s. Reach later s) (sym (at_script text script spells))
      (reach_loads gate 0 script.loads (λ agents. printing (turn_lines agents 0 [] script.turns)) later rest reads_behind found split bytes.1 loads))

  reach_host : Hosts name (events ++ rest) exit → Reach events (reads name MAX_SCRIPT (refused script_too_long_line) (λ b. script_in b >>= turns_on))
  reach_host (no_script given is told) = reach_once name MAX_SCRIPT (refused script_too_long_line) (λ b. script_in b >>= turns_on) given events rest is
  reach_host (not_loaded text script reads_behind is spells loads) = reach_script text script reads_behind (Err exit) is spells loads
  reach_host (took_turns text script agents reads_behind is spells loads end) = reach_script text script reads_behind (Ok agents) is spells loads

-- ---- a run

module _ (gate : GateLaws) (policies : ReadsPolicies) (packet_laws : ReadsPackets) (scripts : ReadsScripts) where
  pub reach : (command : Invocation) (events rest : List Event) (exit : Exit) → AreOfBytes events → NoneFailed events → MayDo command (events ++ rest) exit
      → Reach events (stage_of command)
  unfolding asm_command prove_command check_command run_command ref_command demo_command upgrade_command host_command script_of bpf_command policy_from assembled_of proved_of upgraded_of accepted_of accepted_code_of code_of compiled_of accepted_in
  reach (asm policy input output version bound) events rest exit held clean may =
      under_reach (policy_of policy)
      (λ under. Makes input output MAX_SOURCE (AssemblesTo version bound under)
      (ToldOf (IsNoSource version bound) input source_too_long_line))
      (λ under. reads input MAX_SOURCE (refused source_too_long_line)
      (λ b. assembled_in version bound under b >>= λ out. writing output out)) events rest exit
      (λ under m. reach_makes input output MAX_SOURCE (refused source_too_long_line)
      (λ b. assembled_in version bound under b >>= λ out. writing output out) (AssemblesTo version bound under)
      (ToldOf (IsNoSource version bound) input source_too_long_line) events rest exit clean m) may
  reach (prove policy input output) events rest exit held clean may =
      under_reach (policy_of policy)
      (λ under. Makes input output MAX_FILE (ProvesExactly under) (ToldOf (IsUnprovedExactly under) input container_too_long_line))
      (λ under. reads input MAX_FILE (refused container_too_long_line) (λ b. proved_in under b >>= λ out. writing output out)) events rest exit
      (λ under m. reach_makes input output MAX_FILE (refused container_too_long_line) (λ b. proved_in under b >>= λ out. writing output out)
      (ProvesExactly under) (ToldOf (IsUnprovedExactly under) input container_too_long_line) events rest exit clean m) may
  reach (check (named policy) file) events rest exit held clean may =
      under_reach (policy_of policy) (λ under. Checks IsFirstVerdict under file)
      (λ under. reads file MAX_FILE (refused container_too_long_line) (λ b. accepted_in under b >>= λ accepted. printing accepted_line)) events rest exit
      (λ under c. reach_check IsFirstVerdict under file (refused container_too_long_line)
      (λ b. accepted_in under b >>= λ accepted. printing accepted_line) events rest exit c) may
  reach (check (from_file name) file) events rest exit held clean may = reach_from gate policies name file events rest exit may
  reach (run policy file packets steps) events rest exit held clean may =
      under_reach (policy_of policy) (λ under. RunsCode IsFirstVerdict under file packets steps)
      (λ under. reads file MAX_FILE (refused container_too_long_line) (run_by gate packet_laws under file packets steps)) events rest exit
      (λ under r. reach_run gate packet_laws under file packets steps events rest exit held r) may
  reach (ref policy file packets steps) events rest exit held clean may =
      under_reach (policy_of policy) (λ under. Refs under file packets steps)
      (λ under. reads file MAX_FILE (refused container_too_long_line) (ref_by packet_laws under file packets steps)) events rest exit
      (λ under r. reach_ref gate packet_laws under file packets steps events rest exit r) may
  reach (demo n) events rest exit held clean may =
      reach_demo (ProvesExactly filter_policy) (IsUnprovedExactly filter_policy) n (demo_command n) events rest exit may
  reach (upgrade input output) events rest exit held clean may =
      reach_makes input output MAX_FILE (refused container_too_long_line) (λ b. upgraded_in b >>= λ out. writing output out)
      UpgradesTo (ToldOf IsNoUpgrade input container_too_long_line) events rest exit clean may
  reach (host script) events rest exit held clean may = reach_host gate scripts script events rest exit held may
  reach (bpf input output) events rest exit held clean may =
      reach_makes input output MAX_PROGRAM_FILE (refused bpf_too_long_line) (λ b. compiled_in b >>= λ out. writing output out)
      CompilesExactly (ToldOf IsNoProgram input bpf_too_long_line) events rest exit clean may

  meant : (command : Invocation) (e e' : List Event) (s t : SinkState) (status : ℕ) → Came (MayDo command) e e' s t status → Means command e e' s t status
  meant command e e' s t status (came events exit logged held may prints) = came_to events exit logged may prints
  meant command e e' s t status (out_of_memory events rest exit logged held may clean same is) =
      let r = reach command events rest exit held clean may in
      ran_out events r.0 logged r.1 clean same is

  -- where the words are no command, nothing was asked
  nothing_asked : (May : List Event → Exit → Type 0) → ((events : List Event) (exit : Exit) → May events exit → events ≡ []) → (e e' : List Event)
      (s t : SinkState) (status : ℕ)
      → Came May e e' s t status → e' ≡ e
  nothing_asked May none_asked e e' s t status (came events exit logged held may prints) = logged ∙ ap (λ es. e ++ es)
      (none_asked events exit may) ∙ append-nil e
  nothing_asked May none_asked e e' s t status (out_of_memory events rest exit logged held may clean same is) =
      logged ∙ ap (λ es. e ++ es) (nil_split events rest (none_asked (events ++ rest) exit may)) ∙ append-nil e

  module _ (words : List (List ℕ)) (e e' : List Event) (s t : SinkState) (status : ℕ) (k : KeepsClauses words e e' s t status) where
    pub of_command : (command : Invocation) → command_of words ≡ Some command → Came (MayDo command) e e' s t status
    of_command (asm policy input output version bound) is = k.assembles policy input output version bound is
    of_command (prove policy input output) is = k.proves_exactly policy input output is
    of_command (check (named policy) file) is = k.refuses.checks policy file is
    of_command (check (from_file name) file) is = k.refuses.checks_from name file is
    of_command (run policy file packets steps) is = k.refuses.runs_code policy file packets steps is
    of_command (ref policy file packets steps) is = k.refers policy file packets steps is
    of_command (demo n) is = k.demonstrates_exactly n is
    of_command (upgrade input output) is = k.upgrades input output is
    of_command (host script) is = k.hosts script is
    of_command (bpf input output) is = k.compiles_exactly input output is

    means_of : (o : Option Invocation) → command_of words ≡ o → MeansIfCommand o e e' s t status
    means_of None is = nothing_asked (EndsAtOnce (usage_exit texts)) (λ events exit may. may.0) e e' s t status (k.no_command is)
    means_of (Some command) is = meant command e e' s t status (of_command command is)

    pub means : MeansIfCommand (command_of words) e e' s t status
    means = means_of (command_of words) refl
