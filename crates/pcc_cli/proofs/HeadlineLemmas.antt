-- What each command does, by its events and its exit; and what accepted code is worth.
use Rattle.std.proofs.Common.{◌≡◌, ℕ, suc, ◌+◌, ◌*◌, ◌%◌, ◌^◌, ◌<◌, ◌≤◌, ◌↔◌, ◌⊎◌, inl, inr, false, true≢false, List, [], ◌∷◌, ◌++◌, length, Option}
use Rattle.std.proofs.Common.{Some, None, IfSome, is_some, unwrap_or, Result, Ok, Err, refl, sym, ap, ◌∙◌, subst, arith}
use Rattle.file_port.specs.Events.{Given, whole, missing, too_long, failed, no_memory, Event, was_read, was_written}
use Rattle.file_port.specs.Files.{FilesState}
use Rattle.file_port.specs.declared.Put.{Put}
use Rattle.alpha_words.specs.declared.insn.Insn.{Insn}
use Rattle.alpha_cfg.specs.Isolation.{ChangesWritable, DependsOnReadable}
use Rattle.alpha_cfg.specs.Machine.{State, IsState, run_of}
use Rattle.policy_set.specs.Views.{PolicyView, IsPolicy}
use Rattle.policy_set.proofs.Closed.{policy_of-is}
use Rattle.policy_set.specs.Names.{policy_of}
use Rattle.reference_machine.specs.declared.layout.TheConstants.{ARENA}
use Rattle.reference_machine.specs.Starts.{StartView, start_state}
use Rattle.packet_store.specs.declared.fault.PacketFault.{PacketFault}
use Rattle.packet_store.specs.declared.reader.TheConstants.{MAX_PACKET}
use Rattle.packet_store.specs.PacketDecoding.{decoded_packets}
use Rattle.packet_store.specs.Packets.{AreShort, packets_encoding, IsFirstFault}
use Rattle.packet_store.specs.PolicyStarts.{start_from, start_of}
use Rattle.packet_store.specs.Results.{result_from, packet_result}
use Rattle.packet_store.specs.StartMeets.{StartMeets, StartMeetsIn}
use Rattle.term_table.specs.Bytes.{IsBytes}
use Rattle.asm_text.specs.declared.limits.TheConstants.{MAX_SOURCE}
use Rattle.vcgen.specs.Safety.{IsReturn}
use Rattle.pcc_gate.specs.declared.refusal.Refusal.{Refusal}
use Rattle.pcc_gate.specs.Accepted.{IsAccepted}
use Rattle.pcc_gate.specs.First.{first_refusal}
use Rattle.pcc_gate.specs.Safe.{AcceptedSafe, AcceptedReturns}
use Rattle.gate_upgrade.specs.declared.fault.UpgradeFlaw.{UpgradeFlaw}
use Rattle.gate_upgrade.specs.Upgrading.{upgraded_container}
use Rattle.gate_upgrade.specs.Upgrades.{IsUpgrade}
use Rattle.gate_upgrade.specs.Laws.{UpgradedExactly, UpgradeRefused, UpgradedAccepted}
use Rattle.pcc_words.specs.Invocations.{named, from_file, Invocation, asm, prove, check, run, ref, demo, upgrade, host, bpf}
use Rattle.pcc_lines.specs.Fixed.{accepted_line, bpf_too_long_line, unknown_policy_line, container_too_long_line, packets_too_long_line, source_too_long_line}
use Rattle.pcc_lines.specs.PacketFaults.{packet_fault_line}
use Rattle.pcc_lines.specs.Refusals.{refusal_line}
use Rattle.pcc_lines.specs.Results.{result_lines}
use Rattle.pcc_lines.specs.Sources.{written_line}
use Rattle.pcc_stages.specs.Exits.{Exit, Change}
use Rattle.pcc_stages.specs.Requests.{missing_exit, read_fault_exit, no_memory_exit}
use Rattle.pcc_stages.specs.Stage.{Stage, stops, gives, reads, ◌>>=◌, went_on, Follows}
use Rattle.pcc_stages.specs.Runs.{Effect, AreOctets, Happens, done_exit, written_exit}
use Rattle.pcc_stages.proofs.RunLemmas.{is_stop, is_read, exit_at}
use Rattle.pcc_stages.specs.declared.files.TheConstants.{MAX_FILE}
use Rattle.pcc_stages.specs.Texts.{texts}
use Rattle.pcc_stages.specs.Stages.Common.{refused, policy_found, printing}
use Rattle.pcc_stages.specs.Stages.Containers.{code_in, code_of}
use Rattle.pcc_stages.specs.Stages.Packets.{packets_found, packets_in, packets_of}
use Rattle.pcc_stages.specs.Stages.Policies.{policy_from}
use Rattle.pcc_commands.specs.declared.stages.TheConstants.{MAX_PROGRAM_FILE}
use Rattle.pcc_commands.specs.Stages.Writing.{writing}
use Rattle.pcc_commands.specs.Stages.Judging.{stops_if_refused, accepted_in, accepted_code_in, accepted_of, accepted_code_of}
use Rattle.pcc_commands.specs.Stages.Assembling.{assembled_in, assembled_of}
use Rattle.pcc_commands.specs.Stages.Proving.{proved_in, proved_of}
use Rattle.pcc_commands.specs.Stages.Upgrading.{container_upgraded, upgraded_in, upgraded_of}
use Rattle.pcc_commands.specs.Stages.Compiling.{compiled_in, compiled_of}
use Rattle.pcc_commands.specs.Commands.Assemble.{asm_command}
use Rattle.pcc_commands.specs.Stages.Hosting.{script_of}
use Rattle.pcc_commands.specs.Commands.Bpf.{bpf_command}
use Rattle.pcc_commands.specs.Commands.Host.{host_command}
use Rattle.pcc_commands.specs.Commands.Check.{check_command}
use Rattle.pcc_commands.specs.Commands.Prove.{prove_command}
use Rattle.pcc_commands.specs.Commands.Reference.{ref_command}
use Rattle.pcc_commands.specs.Commands.Running.{run_command}
use Rattle.pcc_commands.specs.Commands.Upgrade.{upgrade_command}
use Rattle.pcc_commands.specs.Commands.Demo.{demo_command}
use Rattle.pcc_commands.specs.Tasks.{stage_of}
use Rattle.packet_store.proofs.StartLemmas.{start_from-good, start_from-state}
use Rattle.packet_store.proofs.Meeting.{start_from-meets}
use Rattle.reference_machine.specs.Agents.{IsInArena, AreInArena}
use Rattle.word_ops.specs.Rights.{Rights}
use Rattle.alpha_turns.specs.Parts.{AreApart, LieIn, LieBetween, part_from}
use Rattle.agent_host.specs.declared.host.TheConstants.{MAX_AGENTS}
use Rattle.agent_host.specs.Agents.{base_of}
use Rattle.pcc_cli.specs.Headline.{agent_part, StaysInPart, AgentsStayInParts, ToldOf, IsFirstVerdict, IsJudged, IsRunOn, on_packets}
use Rattle.pcc_cli.specs.Headline.{no_packets, IsRunBy, Checks, RunsCode, not_accepted, accepted, Refs, no_code, ran, Makes, not_made, made}
use Rattle.pcc_cli.specs.Headline.{IsWithoutCode, AssemblesTo, IsNoSource, ProvesExactly, IsUnprovedExactly, UpgradesTo, IsNoUpgrade}
use Rattle.pcc_cli.specs.Headline.{CompilesExactly, IsNoProgram, AcceptedRunsSafely, IsShortOrReturns, BoundedReturns}
use Rattle.pcc_cli.specs.Clauses.{Under}
use Rattle.pcc_cli.specs.Means.{MayDo}
use Rattle.pcc_commands.proofs.RunLemmas.{code_given, accepted_code_of_bytes}
use Rattle.pcc_cli.proofs.CheckLemmas.{ReadsPolicies, checks_from}
use Rattle.pcc_cli.proofs.CompileLemmas.{ReadsPrograms, CompilesPrograms, compiles, told}
use Rattle.pcc_cli.proofs.CodeLemmas.{Coded, coded_as, coded_not, code_has, coded}
use Rattle.pcc_cli.proofs.DemoLemmas.{demonstrates}
use Rattle.bounds_prover.specs.ProvedLaws.{ProvedAccepted}
use Rattle.pcc_cli.proofs.ProveLemmas.{proves_of_stage, unproved_of_stage}
use Rattle.pcc_cli.proofs.SourceLemmas.{AssemblerLaws, assembles_of_stage, no_source_of_stage}
use Rattle.pcc_cli.proofs.TaskLemmas.{assembled_in-ends, proved_in-ends, upgraded_in-ends, compiled_in-ends}
use Rattle.pcc_cli.proofs.EndLemmas.{GateLaws, Ended, change_at, checks, end_at, ended_at_once, ended_once, first_event, first_read, given_bytes, given_short}
use Rattle.pcc_cli.proofs.EndLemmas.{second_bytes, no_read, read_once, shape, stopped_there, verdict, went_on-silent}
use Rattle.pcc_cli.proofs.HostLemmas.{ReadsScripts, hosts}

-- ---- what is told of what a read gave

-- where a stage goes on with the bytes, and stops
told_of_stage : {A : Type 0} (Tells : List ℕ → Exit → Type 0) (name line : List ℕ) (stage : List ℕ → Stage A) (given : Given) (exit : Exit)
    → ((b : List ℕ) → given ≡ whole b → stage b ≡ stops exit → Tells b exit) → went_on texts name (refused line) stage given ≡ stops exit
    → ToldOf Tells name line given exit
told_of_stage Tells name line stage (whole b) exit each stop = each b refl stop
told_of_stage Tells name line stage missing exit each stop = sym (ap exit_at stop)
told_of_stage Tells name line stage too_long exit each stop = sym (ap exit_at stop)
told_of_stage Tells name line stage failed exit each stop = sym (ap exit_at stop)
told_of_stage Tells name line stage no_memory exit each stop = sym (ap exit_at stop)

-- ---- run and ref

-- what is printed of the packets that bytes were read as, or of their fault
abbrev lines_exit : PolicyView → List Insn → ℕ → Result (List (List ℕ)) PacketFault → Exit
lines_exit policy code steps (Ok packets) = done_exit (result_lines policy.kind (packet_result policy code steps) 0 packets)
lines_exit policy code steps (Err fault) = refused (packet_fault_line fault)

-- the same, by what the read of PACKETS gave
abbrev run_exit : PolicyView → List Insn → ℕ → List ℕ → Given → Exit
run_exit policy code steps packets (whole bytes) = lines_exit policy code steps (decoded_packets bytes)
run_exit policy code steps packets missing = missing_exit texts packets
run_exit policy code steps packets too_long = refused packets_too_long_line
run_exit policy code steps packets failed = read_fault_exit texts packets
run_exit policy code steps packets no_memory = no_memory_exit

-- what packets are, by the laws
pub record ReadsPackets : Type 0 where
  pub whole_file : (bytes : List ℕ) (ps : List (List ℕ)) → IsBytes bytes → (decoded_packets bytes ≡ Ok ps) ↔ (AreShort ps × (bytes ≡ packets_encoding ps))
  pub faulty : (bytes : List ℕ) (fault : PacketFault) → IsBytes bytes → (decoded_packets bytes ≡ Err fault) ↔ IsFirstFault bytes fault

module _ (packet_laws : ReadsPackets) (under : PolicyView) (code : List Insn) (steps : ℕ) where
  run_on : (b : List ℕ) → IsBytes b → (r : Result (List (List ℕ)) PacketFault) → decoded_packets b ≡ r → IsRunOn under code steps b
      (lines_exit under code steps r)
  run_on b held (Ok ps) is = let w = (packet_laws.whole_file b ps held).0 is in on_packets ps w.0 w.1 refl
  run_on b held (Err fault) is = no_packets fault ((packet_laws.faulty b fault held).0 is) refl

  run_told : (packets : List ℕ) (given : Given) (exit : Exit) → AreOctets given → exit ≡ run_exit under code steps packets given
      → IsRunBy under code steps packets given exit
  run_told packets (whole b) exit held is = subst (IsRunOn under code steps b) (sym is) (run_on b held (decoded_packets b) refl)
  run_told packets missing exit held is = is
  run_told packets too_long exit held is = is
  run_told packets failed exit held is = is
  run_told packets no_memory exit held is = is

-- what is run of code, behind its container
abbrev pub after_code : PolicyView → List Insn → ℕ → List ℕ → Stage Effect
after_code under code steps packets =
    reads packets MAX_FILE (refused packets_too_long_line)
    (λ b. packets_in b >>= λ all. printing
    (result_lines under.kind (packet_result under code steps) 0 all))

module _ (under : PolicyView) (code : List Insn) (steps : ℕ) (packets : List ℕ) where
  -- what is printed of what was read as packets
  abbrev lines : Result (List (List ℕ)) PacketFault → Stage Effect
  lines r =
      packets_found r >>= λ all. printing
      (result_lines under.kind (packet_result under code steps) 0 all)

  lines-ended : (r : Result (List (List ℕ)) PacketFault) → is_read (lines r) ≡ false
  lines-ended (Ok all) = refl
  lines-ended (Err fault) = refl

  lines-silent : (r : Result (List (List ℕ)) PacketFault) → change_at (lines r) ≡ None
  lines-silent (Ok all) = refl
  lines-silent (Err fault) = refl

  lines-exit : (r : Result (List (List ℕ)) PacketFault) → end_at (lines r)
      ≡ lines_exit under code steps r
  lines-exit (Ok all) = refl
  lines-exit (Err fault) = refl

  run-exit : (given : Given)
      → end_at
      (went_on texts packets (refused packets_too_long_line) (λ b. lines (decoded_packets b)) given)
      ≡ run_exit under code steps packets given
  run-exit (whole b) = lines-exit (decoded_packets b)
  run-exit missing = refl
  run-exit too_long = refl
  run-exit failed = refl
  run-exit no_memory = refl

  -- the packets are read, and their lines printed
  record RanPackets (events : List Event) (exit : Exit) : Type 0 where
    given : Given
    is : events ≡ was_read packets MAX_FILE given ∷ []
    ends : exit ≡ run_exit under code steps packets given

  ran_packets : (asked : List Event) (later : Stage Effect) (events : List Event) (exit : Exit)
      → Follows texts asked (after_code under code steps packets) later → is_read later ≡ false
      → ((events ≡ asked) × (exit ≡ end_at later) × (change_at later ≡ None))
      ⊎ ((text : List ℕ) × (to : List ℕ) × (bytes : List ℕ) × (answer : Put) × (later ≡ gives (record { text = text; change = Some (to, bytes) }))
      × (events ≡ asked ++ was_written to bytes answer ∷ []) × (exit ≡ written_exit texts to text answer)) → RanPackets events exit
  ran_packets asked later events exit follows ended does =
      let once = ended_once packets MAX_FILE (refused packets_too_long_line) (λ b. lines (decoded_packets b)) (λ b. lines-ended (decoded_packets b))
      (λ b. lines-silent (decoded_packets b))
      asked later events exit follows ended does in
      record { given = once.given; is = once.is; ends = once.ends ∙ run-exit once.given }

-- the packets are read behind the first read
packets_there : (under : PolicyView) (code : List Insn) (steps : ℕ) (packets : List ℕ)
    (rest : List Event) (later : Stage Effect) (first : Event) (events asked : List Event)
    (exit : Exit)
    → asked ≡ first ∷ rest → (s : Stage Effect) → s ≡ after_code under code steps packets
    → Follows texts rest s later → is_read later ≡ false
    → ((events ≡ asked) × (exit ≡ end_at later) × (change_at later ≡ None))
    ⊎ ((text : List ℕ) × (to : List ℕ) × (bytes : List ℕ) × (answer : Put) × (later ≡ gives (record { text = text; change = Some (to, bytes) }))
    × (events ≡ asked ++ was_written to bytes answer ∷ []) × (exit ≡ written_exit texts to text answer))
    → (given : Given) × (events ≡ first ∷ was_read packets MAX_FILE given ∷ [])
    × (exit ≡ run_exit under code steps packets given)
packets_there under code steps packets rest later first events asked exit is s at follows ended
    does = by does
  where
    follows_there : Follows texts rest (after_code under code steps packets) later
    follows_there = subst (λ x. Follows texts rest x later) at follows

    by : ((events ≡ asked) × (exit ≡ end_at later) × (change_at later ≡ None))
        ⊎ ((text : List ℕ) × (to : List ℕ) × (bytes : List ℕ) × (answer : Put) × (later ≡ gives (record { text = text; change = Some (to, bytes) }))
        × (events ≡ asked ++ was_written to bytes answer ∷ []) × (exit ≡ written_exit texts to text answer))
        → (given : Given) × (events ≡ first ∷ was_read packets MAX_FILE given ∷ [])
        × (exit ≡ run_exit under code steps packets given)
    by (inl d) =
        let r = ran_packets under code steps packets rest later rest exit follows_there ended
        (inl (refl, d.1, d.2)) in
        (r.given, d.0 ∙ is ∙ ap (λ es. first ∷ es) r.is, r.ends)
    by (inr d) =
        let r = read_once packets MAX_FILE (refused packets_too_long_line)
        (λ b. lines under code steps packets (decoded_packets b))
        (λ b. lines-ended under code steps packets (decoded_packets b)) rest later ended
        follows_there in
        let none : None ≡ Some (d.1, d.2) =
        sym
        (went_on-silent packets MAX_FILE (refused packets_too_long_line)
        (λ b. lines under code steps packets (decoded_packets b))
        (λ b. lines-ended under code steps packets (decoded_packets b))
        (λ b. lines-silent under code steps packets (decoded_packets b)) r.given)
        ∙ ap change_at (sym r.goes) ∙ ap change_at d.4 in
        absurd (true≢false (sym (ap is_some none)))

module _ (gate : GateLaws) (packet_laws : ReadsPackets) (under : PolicyView) (file packets : List ℕ) (steps : ℕ)
  where
    -- what `run` goes on with
    abbrev pub run_by : List ℕ → Stage Effect
    run_by b =
        accepted_code_in under b >>= λ code. packets_of packets >>= λ all. printing
        (result_lines under.kind (packet_result under code steps) 0 all)

    pub run_by-accepted : (b : List ℕ) (a : IsAccepted under b) → first_refusal under b ≡ None
        → run_by b
        ≡ after_code under a.code steps packets
    unfolding packets_of
    run_by-accepted b a none =
        ap
        (λ c. c >>= λ code. packets_of packets >>= λ all. printing
        (result_lines under.kind (packet_result under code steps) 0 all))
        (accepted_code_of_bytes under b a.contents a.code a.marks a.accepts.passes none)

    pub run_by-refused : (b : List ℕ) (r : Refusal) → first_refusal under b ≡ Some r → run_by b
        ≡ stops (refused (refusal_line r))
    unfolding accepted_code_in accepted_in
    run_by-refused b r some =
        ap
        (λ x. (stops_if_refused x >>= λ accepted. code_in under b) >>= λ code. packets_of
        packets >>= λ all. printing
        (result_lines under.kind (packet_result under code steps) 0 all)) some

    module _ (events : List Event) (exit : Exit) (f g : FilesState) (happened : Happens events f g)
        (e : Ended (reads file MAX_FILE (refused container_too_long_line) run_by) events exit) where
      -- the file isn't there, or wasn't read
      run_stopped : (given : Given) (exit' : Exit) (rest : List Event) → e.asked
          ≡ was_read file MAX_FILE given ∷ rest → went_on texts file
          (refused container_too_long_line) run_by given ≡ stops exit'
          → Follows texts rest (went_on texts file (refused container_too_long_line) run_by given)
          e.later → IsJudged IsFirstVerdict under file given exit' → 0 < exit'.status
          → RunsCode IsFirstVerdict under file packets steps events exit
      run_stopped given exit' rest is stop follows judged some =
          let there = stopped_there exit' rest e.later
          (was_read file MAX_FILE given) events e.asked exit is
          (went_on texts file (refused container_too_long_line) run_by given) stop follows e.does in
          not_accepted given there.0 (subst (IsJudged IsFirstVerdict under file given) (sym there.1) judged)
          (subst (λ (x : Exit). 0 < x.status) (sym there.1) some)

      run_judged : (b : List ℕ) (rest : List Event) (r : Option Refusal) → first_refusal under b ≡ r
          → IsBytes b → e.asked ≡ was_read file MAX_FILE (whole b) ∷ rest
          → Follows texts rest (run_by b) e.later
          → RunsCode IsFirstVerdict under file packets steps events exit
      run_judged b rest (Some r) some held is follows =
          run_stopped (whole b) (refused (refusal_line r)) rest is (run_by-refused b r some) follows
          (verdict gate under b held (Some r) some) (omega arith)
      run_judged b rest None none held is follows =
          let a : IsAccepted under b = (gate.accepted under b held).1 none in
          let there = packets_there under a.code steps packets rest e.later
          (was_read file MAX_FILE (whole b)) events e.asked exit is (run_by b)
          (run_by-accepted b a none) follows e.ended e.does in
          accepted b a there.0 there.1
          (run_told packet_laws under a.code steps packets there.0 exit
          (second_bytes file packets MAX_FILE MAX_FILE (whole b) there.0 events f g there.1 happened) there.2)

      -- the bytes that were read first
      first_bytes : (b : List ℕ) (rest : List Event) → e.asked ≡ was_read file MAX_FILE
          (whole b) ∷ rest → IsBytes b
      first_bytes b rest is = by e.does
        where
          at : (more : List Event) → events ≡ was_read file MAX_FILE (whole b) ∷ more → IsBytes b
          at more split = given_bytes file MAX_FILE (whole b) more events f g split happened

          by : ((events ≡ e.asked) × (exit ≡ end_at e.later) × (change_at e.later ≡ None))
              ⊎ ((text : List ℕ) × (to : List ℕ) × (bytes : List ℕ) × (answer : Put) ×
              (e.later ≡ gives (record { text = text; change = Some (to, bytes) }))
              × (events ≡ e.asked ++ was_written to bytes answer ∷ []) ×
              (exit ≡ written_exit texts to text answer)) → IsBytes b
          by (inl d) = at rest (d.0 ∙ is)
          by (inr d) = at (rest ++ was_written d.1 d.2 d.3 ∷ [])
              (d.5 ∙ ap (λ es. es ++ was_written d.1 d.2 d.3 ∷ []) is)

      run_given : (given : Given) (rest : List Event) → e.asked
          ≡ was_read file MAX_FILE given ∷ rest → Follows texts rest
          (went_on texts file (refused container_too_long_line) run_by given) e.later
          → RunsCode IsFirstVerdict under file packets steps events exit
      run_given (whole b) rest is follows =
          run_judged b rest (first_refusal under b) refl (first_bytes b rest is) is follows
      run_given missing rest is follows = run_stopped missing
          (missing_exit texts file) rest is refl follows refl (omega arith)
      run_given too_long rest is follows =
          run_stopped too_long (refused container_too_long_line) rest is refl follows refl
          (omega arith)
      run_given failed rest is follows =
          run_stopped failed (read_fault_exit texts file) rest is refl follows refl (omega arith)
      run_given no_memory rest is follows =
          run_stopped no_memory no_memory_exit rest is refl follows refl (omega arith)

      runs_code : RunsCode IsFirstVerdict under file packets steps events exit
      runs_code =
          let r = first_read file MAX_FILE
          (refused container_too_long_line) run_by e.asked e.later e.ended e.follows in
          run_given r.given r.rest r.is r.follows

-- what a stage gives
abbrev value_at : {A : Type 0} → Stage A → Option A
value_at (stops exit) = None
value_at (gives x) = Some x
value_at (reads name max more on) = None

module _ (packet_laws : ReadsPackets) (under : PolicyView) (file packets : List ℕ) (steps : ℕ) where
  -- what `ref` goes on with
  abbrev pub ref_by : List ℕ → Stage Effect
  ref_by b =
      code_in under b >>= λ code. packets_of packets >>= λ all. printing
      (result_lines under.kind (packet_result under code steps) 0 all)

  pub ref_by-code : (b : List ℕ) (code : List Insn) → code_in under b ≡ gives code → ref_by b
      ≡ after_code under code steps packets
  unfolding packets_of
  ref_by-code b code is =
      ap
      (λ c. c >>= λ code. packets_of packets >>= λ all. printing
      (result_lines under.kind (packet_result under code steps) 0 all)) is

  pub ref_by-stop : (b : List ℕ) (exit' : Exit) → code_in under b ≡ stops exit' → ref_by b ≡ stops exit'
  ref_by-stop b exit' is =
      ap
      (λ c. c >>= λ code. packets_of packets >>= λ all. printing
      (result_lines under.kind (packet_result under code steps) 0 all)) is

  same_code : (b : List ℕ) (code : List Insn) → code_in under b ≡ gives code
      → (a : IsAccepted under b) → code ≡ a.code
  same_code b code is a =
      let both : Some code ≡ Some a.code =
      ap value_at (sym is ∙ code_given under b a.contents a.code a.marks a.accepts.passes) in
      cc

  module _ (events : List Event) (exit : Exit) (f g : FilesState) (happened : Happens events f g)
      (e : Ended (reads file MAX_FILE (refused container_too_long_line) ref_by) events exit) where
    ref_stopped : (given : Given) (exit' : Exit) (rest : List Event)
        → e.asked ≡ was_read file MAX_FILE given ∷ rest
        → ToldOf (IsWithoutCode under) file container_too_long_line given exit'
        → went_on texts file (refused container_too_long_line) ref_by given ≡ stops exit'
        → Follows texts rest (went_on texts file (refused container_too_long_line) ref_by given)
        e.later → Refs under file packets steps events exit
    ref_stopped given exit' rest is why stop follows =
        let there = stopped_there exit' rest e.later
        (was_read file MAX_FILE given) events e.asked exit is
        (went_on texts file (refused container_too_long_line) ref_by given) stop follows e.does in
        no_code given there.0
        (subst (ToldOf (IsWithoutCode under) file container_too_long_line given)
        (sym there.1) why)

    ref_code : (b : List ℕ) (rest : List Event) → Coded under b → e.asked ≡ was_read file MAX_FILE (whole b) ∷ rest
        → Follows texts rest (ref_by b) e.later → Refs under file packets steps events exit
    ref_code b rest (coded_as c code h) is follows =
        let found : code_in under b ≡ gives code = code_has under b c code h in
        let there = packets_there under code steps packets rest e.later
        (was_read file MAX_FILE (whole b)) events e.asked exit is (ref_by b)
        (ref_by-code b code found) follows e.ended e.does in
        ran b c code there.0 there.1 h
        (run_told packet_laws under code steps packets there.0 exit
        (second_bytes file packets MAX_FILE MAX_FILE (whole b) there.0 events f g there.1 happened) there.2)
        (same_code b code found)
    ref_code b rest (coded_not r first none stop) is follows =
        ref_stopped (whole b) (refused (refusal_line r)) rest is
        (record { refusal = r; first = first; told = refl; none = none })
        (ref_by-stop b (refused (refusal_line r)) stop) follows

    ref_given : (given : Given) (rest : List Event) → e.asked ≡ was_read file MAX_FILE given ∷ rest → Follows texts rest
        (went_on texts file (refused container_too_long_line) ref_by given) e.later
        → Refs under file packets steps events exit
    ref_given (whole b) rest is follows =
        let first = first_event (reads file MAX_FILE (refused container_too_long_line) ref_by) events exit e
        (was_read file MAX_FILE (whole b)) rest is in
        ref_code b rest
        (coded under b (given_bytes file MAX_FILE (whole b) first.0 events f g first.1 happened)
        (given_short file MAX_FILE b first.0 events f g first.1 happened)) is follows
    ref_given missing rest is follows = ref_stopped missing _ rest is refl refl follows
    ref_given too_long rest is follows = ref_stopped too_long _ rest is refl refl follows
    ref_given failed rest is follows = ref_stopped failed _ rest is refl refl follows
    ref_given no_memory rest is follows = ref_stopped no_memory _ rest is refl refl follows

    refs : Refs under file packets steps events exit
    refs =
        let r = first_read file MAX_FILE (refused container_too_long_line) ref_by e.asked e.later e.ended e.follows in
        ref_given r.given r.rest r.is r.follows

-- ---- asm, prove and bpf

module _ (input output : List ℕ) (max : ℕ) (more : Exit) (made_of : List ℕ → Stage (List ℕ)) (ends : (b : List ℕ) → is_read (made_of b) ≡ false)
    (IsMade : List ℕ → List ℕ → Type 0) (IsTold : Given → Exit → Type 0) where
  -- what the command goes on with
  abbrev copy_by : List ℕ → Stage Effect
  copy_by b = made_of b >>= λ out. writing output out

  module _ (events : List Event) (exit : Exit) (is_made : (b out : List ℕ) (rest : List Event) → events ≡ was_read input max (whole b) ∷ rest
      → made_of b ≡ gives out → IsMade b out)
      (is_told : (given : Given) (exit' : Exit) (rest : List Event) → events ≡ was_read input max given ∷ rest
      → went_on texts input more made_of given ≡ stops exit' → IsTold given exit')
      (e : Ended (reads input max more copy_by) events exit) where
    copy_stopped : (given : Given) (exit' : Exit) (rest : List Event) → e.asked ≡ was_read input max given ∷ rest
        → went_on texts input more made_of given ≡ stops exit'
        → went_on texts input more copy_by given ≡ stops exit' → Follows texts rest (went_on texts input more copy_by given) e.later
        → Makes input output max IsMade IsTold events exit
    copy_stopped given exit' rest is why stop follows =
        let there = stopped_there exit' rest e.later (was_read input max given) events e.asked exit is
        (went_on texts input more copy_by given) stop follows e.does in
        not_made given there.0 (subst (IsTold given) (sym there.1) (is_told given exit' [] there.0 why))

    -- the effect of what was made
    abbrev made_effect : List ℕ → Effect
    made_effect out = record { text = written_line (length out); change = Some (output, out) }

    copied : (b out : List ℕ) (rest : List Event) → made_of b ≡ gives out → e.asked ≡ was_read input max (whole b) ∷ rest → Follows texts rest
        (copy_by b) e.later
        → Makes input output max IsMade IsTold events exit
    copied b out rest is asked follows = by e.does
      where
        at : copy_by b ≡ gives (made_effect out)
        at = ap (λ c. c >>= λ out. writing output out) is

        last : (rest ≡ []) × (e.later ≡ copy_by b)
        last = no_read (copy_by b) (ap is_read at) rest e.later follows

        by : ((events ≡ e.asked) × (exit ≡ end_at e.later) × (change_at e.later ≡ None))
            ⊎ ((text : List ℕ) × (to : List ℕ) × (bytes : List ℕ) × (answer : Put) × (e.later ≡ gives (record { text = text; change = Some (to, bytes) }))
            × (events ≡ e.asked ++ was_written to bytes answer ∷ []) × (exit ≡ written_exit texts to text answer))
            → Makes input output max IsMade IsTold events exit
        by (inl d) = let none : Some (output, out) ≡ None = ap change_at (sym (last.1 ∙ at)) ∙ d.2 in absurd (true≢false (ap is_some none))
        by (inr d) =
            let same : Some (made_effect out) ≡ Some (record { text = d.0; change = Some (d.1, d.2) }) = ap value_at (sym (last.1 ∙ at) ∙ d.4) in
            let effect : record { text = d.0; change = Some (d.1, d.2) } ≡ made_effect out = cc in
            let text : d.0 ≡ written_line (length out) = ap (λ (x : Effect). x.text) effect in
            let change : Some (d.1, d.2) ≡ Some (output, out) = ap (λ (x : Effect). x.change) effect in
            let to : d.1 ≡ output = ap (λ (x : Change). (unwrap_or x (output, out)).0) change in
            let bytes : d.2 ≡ out = ap (λ (x : Change). (unwrap_or x (output, out)).1) change in
            let split : events ≡ was_read input max (whole b) ∷ was_written output out d.3 ∷ [] =
            d.5 ∙ ap (λ es. es ++ was_written d.1 d.2 d.3 ∷ []) (asked ∙ ap (λ es. was_read input max (whole b) ∷ es) last.0)
            ∙ ap (λ n. was_read input max (whole b) ∷ was_written n d.2 d.3 ∷ []) to ∙ ap
            (λ o. was_read input max (whole b) ∷ was_written output o d.3 ∷ []) bytes in
            made b out d.3 split (is_made b out (was_written output out d.3 ∷ []) split is)
            (d.6 ∙ ap (λ n. written_exit texts n d.0 d.3) to ∙ ap (λ x. written_exit texts output x d.3) text)

    copy_made : (b : List ℕ) (rest : List Event) → ((out : List ℕ) × (made_of b ≡ gives out)) ⊎ ((exit' : Exit) × (made_of b ≡ stops exit'))
        → e.asked ≡ was_read input max (whole b) ∷ rest → Follows texts rest (copy_by b) e.later → Makes input output max IsMade IsTold events exit
    copy_made b rest (inl (out, is)) asked follows = copied b out rest is asked follows
    copy_made b rest (inr (exit', is)) asked follows = copy_stopped (whole b) exit' rest asked is (ap (λ c. c >>= λ out. writing output out) is) follows

    copy_given : (given : Given) (rest : List Event) → e.asked ≡ was_read input max given ∷ rest → Follows texts rest
        (went_on texts input more copy_by given) e.later
        → Makes input output max IsMade IsTold events exit
    copy_given (whole b) rest is follows = copy_made b rest (shape (made_of b) (ends b)) is follows
    copy_given missing rest is follows = copy_stopped missing _ rest is refl refl follows
    copy_given too_long rest is follows = copy_stopped too_long _ rest is refl refl follows
    copy_given failed rest is follows = copy_stopped failed _ rest is refl refl follows
    copy_given no_memory rest is follows = copy_stopped no_memory _ rest is refl refl follows

    makes : Makes input output max IsMade IsTold events exit
    makes =
        let r = first_read input max more copy_by e.asked e.later e.ended e.follows in
        copy_given r.given r.rest r.is r.follows

-- ---- upgrade

-- what containers are upgraded to, by the laws
pub record UpgradesContainers : Type 0 where
  pub exactly : UpgradedExactly
  pub refused : UpgradeRefused
  pub accepted : UpgradedAccepted

upgraded_is : UpgradesContainers → (b out : List ℕ) → IsBytes b
    → (r : Result (List ℕ) UpgradeFlaw) → upgraded_container b ≡ r
    → container_upgraded r ≡ gives out → UpgradesTo b out
upgraded_is laws b out held (Ok bytes) is e =
    let same : Some bytes ≡ Some out = ap value_at e in
    let at : upgraded_container b ≡ Ok out =
    is ∙ ap Ok (let found : bytes ≡ out = cc in found) in
    let upgrade : IsUpgrade b out = (laws.exactly b out held).0 at in
    record {
      upgrade = upgrade;
      accepted = λ policy kept it. laws.accepted policy b out kept upgrade it;
    }
upgraded_is laws b out held (Err fault) is e = absurd (true≢false (ap is_stop e))

upgraded_of_stage : UpgradesContainers → (b out : List ℕ) → IsBytes b
    → upgraded_in b ≡ gives out → UpgradesTo b out
unfolding upgraded_in
upgraded_of_stage laws b out held e = upgraded_is laws b out held (upgraded_container b) refl e

-- why nothing is upgraded
not_upgraded_is : UpgradesContainers → (b : List ℕ) (exit : Exit) → IsBytes b → (r : Result (List ℕ) UpgradeFlaw) → upgraded_container b ≡ r
    → container_upgraded r ≡ stops exit → IsNoUpgrade b exit
not_upgraded_is laws b exit held (Ok bytes) is e = absurd (true≢false (sym (ap is_stop e)))
not_upgraded_is laws b exit held (Err flaw) is e = (flaw, (laws.refused b flaw held).0 is, sym (ap exit_at e))

not_upgraded_of : UpgradesContainers → (b : List ℕ) (exit : Exit) → IsBytes b → upgraded_in b ≡ stops exit → IsNoUpgrade b exit
unfolding upgraded_in
not_upgraded_of laws b exit held e = not_upgraded_is laws b exit held (upgraded_container b) refl e

-- ---- by what the arguments are

-- a command whose policy was looked up
under_named : (May : PolicyView → List Event → Exit → Type 0) (next : PolicyView → Stage Effect) (events : List Event) (exit : Exit)
    → ((under : PolicyView) → IsPolicy under → Ended (next under) events exit → May under events exit)
    → (p : Option PolicyView) → IfSome p IsPolicy → Ended (policy_found p >>= next) events exit → Under p May events exit
under_named May next events exit each None kept e = ended_at_once (refused unknown_policy_line) events exit e
under_named May next events exit each (Some under) kept e = each under kept e

-- what holds by the laws of the crates below
pub record CommandLaws : Type 0 where
  pub gate : GateLaws
  pub prover : ProvedAccepted
  pub assembler : AssemblerLaws
  pub programs : ReadsPrograms
  pub compiled : CompilesPrograms
  pub policies : ReadsPolicies
  pub upgrades : UpgradesContainers
  pub packet_files : ReadsPackets
  pub scripts : ReadsScripts

module _ (laws : CommandLaws) where
  pub does : (invocation : Invocation) (events : List Event) (exit : Exit) (f g : FilesState) → Happens events f g → Ended (stage_of invocation) events exit
      → MayDo invocation events exit
  unfolding asm_command prove_command check_command run_command ref_command demo_command upgrade_command host_command script_of bpf_command policy_from assembled_of proved_of upgraded_of accepted_of accepted_code_of code_of compiled_of accepted_in
  does (asm policy input output version bound) events exit f g happened e =
      under_named
      (λ under. Makes input output MAX_SOURCE (AssemblesTo version bound under)
      (ToldOf (IsNoSource version bound) input source_too_long_line))
      (λ under. reads input MAX_SOURCE (refused source_too_long_line)
      (λ b. assembled_in version bound under b >>= λ out. writing output out)) events exit
      (λ under kept e. makes input output MAX_SOURCE (refused source_too_long_line)
      (assembled_in version bound under) (assembled_in-ends version bound under) (AssemblesTo version bound under)
      (ToldOf (IsNoSource version bound) input source_too_long_line) events exit
      (λ b out rest split is. assembles_of_stage laws.assembler version bound under b out is)
      (λ given exit' rest split why. told_of_stage (IsNoSource version bound) input source_too_long_line
      (assembled_in version bound under) given exit'
      (λ b whole_is at. no_source_of_stage laws.assembler version bound under b exit' at) why) e)
      (policy_of policy) (policy_of-is policy) e
  does (prove policy input output) events exit f g happened e =
      under_named
      (λ under. Makes input output MAX_FILE (ProvesExactly under) (ToldOf (IsUnprovedExactly under) input container_too_long_line))
      (λ under. reads input MAX_FILE (refused container_too_long_line)
      (λ b. proved_in under b >>= λ out. writing output out)) events exit
      (λ under kept e. makes input output MAX_FILE (refused container_too_long_line)
      (proved_in under) (proved_in-ends under) (ProvesExactly under)
      (ToldOf (IsUnprovedExactly under) input container_too_long_line) events exit
      (λ b out rest split is. proves_of_stage laws.prover under kept b out
      (given_bytes input MAX_FILE (whole b) rest events f g split happened) is)
      (λ given exit' rest split why. told_of_stage (IsUnprovedExactly under) input container_too_long_line
      (proved_in under) given exit'
      (λ b whole_is at. unproved_of_stage under b exit'
      (given_bytes input MAX_FILE (whole b) rest events f g
      (split ∙ ap (λ x. was_read input MAX_FILE x ∷ rest) whole_is) happened) at) why) e)
      (policy_of policy) (policy_of-is policy) e
  does (check (named policy) file) events exit f g happened e =
      under_named (λ under. Checks IsFirstVerdict under file)
      (λ under. reads file MAX_FILE (refused container_too_long_line)
      (λ b. accepted_in under b >>= λ accepted. printing accepted_line)) events exit
      (λ under kept e. checks laws.gate under file events exit f g happened e)
      (policy_of policy) (policy_of-is policy) e
  does (check (from_file name) file) events exit f g happened e =
      checks_from laws.gate laws.policies name file events exit f g happened e
  does (run policy file packets steps) events exit f g happened e =
      under_named (λ under. RunsCode IsFirstVerdict under file packets steps)
      (λ under. reads file MAX_FILE (refused container_too_long_line)
      (run_by laws.gate laws.packet_files under file packets steps)) events exit
      (λ under kept e. runs_code laws.gate laws.packet_files under file packets steps events exit f g happened e)
      (policy_of policy) (policy_of-is policy) e
  does (ref policy file packets steps) events exit f g happened e =
      under_named (λ under. Refs under file packets steps)
      (λ under. reads file MAX_FILE (refused container_too_long_line)
      (ref_by laws.packet_files under file packets steps)) events exit
      (λ under kept e. refs laws.packet_files under file packets steps events exit f g happened e) (policy_of policy)
      (policy_of-is policy) e
  does (demo n) events exit f g happened e =
      demonstrates laws.assembler laws.prover n events exit e
  does (upgrade input output) events exit f g happened e =
      makes input output MAX_FILE (refused container_too_long_line) upgraded_in upgraded_in-ends
      UpgradesTo (ToldOf IsNoUpgrade input container_too_long_line) events exit
      (λ b out rest split is. upgraded_of_stage laws.upgrades b out
      (given_bytes input MAX_FILE (whole b) rest events f g split happened) is)
      (λ given exit' rest split why. told_of_stage IsNoUpgrade input container_too_long_line upgraded_in given exit'
      (λ b whole_is at. not_upgraded_of laws.upgrades b exit'
      (given_bytes input MAX_FILE (whole b) rest events f g
      (split ∙ ap (λ x. was_read input MAX_FILE x ∷ rest) whole_is) happened) at) why) e
  does (host script) events exit f g happened e = hosts laws.gate laws.scripts script events exit f g happened e
  does (bpf input output) events exit f g happened e =
      makes input output MAX_PROGRAM_FILE (refused bpf_too_long_line) compiled_in compiled_in-ends CompilesExactly
      (ToldOf IsNoProgram input bpf_too_long_line) events exit
      (λ b out rest split is. compiles laws.programs laws.compiled b out (given_bytes input MAX_PROGRAM_FILE (whole b) rest events f g split happened) is)
      (λ given exit' rest split why. told_of_stage IsNoProgram input bpf_too_long_line compiled_in given exit'
      (λ b whole_is at. told laws.programs laws.compiled b exit'
      (given_bytes input MAX_PROGRAM_FILE (whole b) rest events f g
      (split ∙ ap (λ x. was_read input MAX_PROGRAM_FILE x ∷ rest) whole_is) happened) at) why) e

-- ---- what accepted code is worth

-- a policy's start on a packet of bytes is a state, and meets the precondition
abbrev pub StartsState : Type 0
StartsState =
    (policy : PolicyView) (packet : List ℕ) (setup : StartView) → length packet ≤ MAX_PACKET
    → IsBytes packet → start_of policy packet ≡ Some setup → IsState (start_state ARENA setup)

abbrev pub StartsMeet : Type 0
StartsMeet =
    (policy : PolicyView) (packet : List ℕ) (setup : StartView) → IsPolicy policy
    → length packet ≤ MAX_PACKET → start_of policy packet ≡ Some setup → StartMeets setup policy.pre

pub runs_safely : AcceptedSafe → StartsState → StartsMeet → ((code : List Insn) (n : ℕ) (s : State) → ChangesWritable code n s) →
    ((code : List Insn) (n : ℕ) (s : State) → DependsOnReadable code n s)
    → AcceptedRunsSafely
runs_safely safe state meets changes depends under bytes kept a p setup n held short is = record {
  good =
      safe under bytes a.contents a.code a.marks kept a.accepts (start_state ARENA setup)
      (state under p setup short held is) refl (meets under p setup kept short is) n;
  changes = changes a.code n (start_state ARENA setup);
  depends = depends a.code n (start_state ARENA setup);
}

-- ---- agents of a host

-- the spans of a part lie in it
lie_between : (a : ℕ) (spans : List (ℕ × ℕ)) → AreInArena (base_of a) spans → LieBetween (65536 + 65552 * a) (65536 + 65552 * suc a) spans
lie_between a spans inside span has =
    let i : IsInArena (base_of a) span = inside span has in
    (omega (arith, i.from), omega (arith, i.to))

pub stays_in_parts : AcceptedSafe → ((code : List Insn) (n : ℕ) (s : State) → ChangesWritable code n s) →
    ((code : List Insn) (n : ℕ) (s : State) → DependsOnReadable code n s)
    → AreApart agent_part
    → ((base size i : ℕ) (rights : Rights) → LieBetween (base + size * i) (base + size * suc i) rights.reads → LieBetween (base + size * i)
    (base + size * suc i) rights.writes
    → LieIn (part_from base size i) rights)
    → AgentsStayInParts
stays_in_parts accepted_safe changes depends apart spans = record { parts = apart; stays = stays_in }
  where
    stays_in : (policy : PolicyView) (bytes : List ℕ) → IsPolicy policy
        → (it : IsAccepted policy bytes) (a : ℕ) (packet : List ℕ) (setup : StartView)
        (budget : ℕ) → a < MAX_AGENTS → IsBytes packet → length packet ≤ MAX_PACKET
        → start_from (base_of a) policy.kind packet ≡ Some setup
        → StaysInPart a policy it.code budget setup
    stays_in policy bytes kept it a packet setup budget few held short is =
        let low : base_of a < 2 ^ 32 = omega (arith, few) in
        let aligned : base_of a % 8 ≡ 0 = omega arith in
        let start : State = start_state (base_of a) setup in
        let state : IsState start =
        start_from-state (base_of a) policy.kind packet setup aligned low short held is in
        let meets : StartMeetsIn (base_of a) setup policy.pre =
        start_from-meets (base_of a) policy packet setup kept low short is in
        let good = start_from-good (base_of a) policy.kind packet setup low short held is in
        record {
          lie =
              spans 65536 65552 a start.rights
              (lie_between a setup.reads good.fits.reads_in)
              (lie_between a setup.writes good.fits.writes_in);
          safe = record {
            good =
                accepted_safe policy bytes it.contents it.code it.marks kept it.accepts start state
                refl meets budget;
            changes = changes it.code budget start;
            depends = depends it.code budget start;
          };
        }

-- ---- code whose steps are bounded

module _ (returns : AcceptedReturns) (state : StartsState) (meets : StartsMeet)
    (policy : PolicyView) (bytes : List ℕ) (kept : IsPolicy policy)
    (a : IsAccepted policy bytes) (bound : ℕ) (is : a.contents.bound ≡ Some bound) where
  -- with at least as many steps as the bound, a packet's run returns, where it has a start
  from_start : (packet : List ℕ) (steps : ℕ) → IsBytes packet → length packet ≤ MAX_PACKET
      → bound ≤ steps → (o : Option StartView) → start_of policy packet ≡ o
      → IsShortOrReturns (result_from a.code steps o)
  unfolding result_from
  from_start packet steps held short enough None e = tt
  from_start packet steps held short enough (Some setup) e =
      returns policy bytes a.contents a.code a.marks kept a.accepts bound is
      (start_state ARENA setup) (state policy packet setup short held e) refl
      (meets policy packet setup kept short e) steps enough

  -- an agent returns from a start in its part
  from_part : (agent : ℕ) (packet : List ℕ) (setup : StartView) (budget : ℕ)
      → agent < MAX_AGENTS → IsBytes packet → length packet ≤ MAX_PACKET
      → start_from (base_of agent) policy.kind packet ≡ Some setup → bound ≤ budget
      → IsReturn (run_of a.code budget (start_state (base_of agent) setup)).0
  from_part agent packet setup budget few held short e enough =
      let low : base_of agent < 2 ^ 32 = omega (arith, few) in
      let aligned : base_of agent % 8 ≡ 0 = omega arith in
      let start : State = start_state (base_of agent) setup in
      let good : IsState start =
      start_from-state (base_of agent) policy.kind packet setup aligned low short held e in
      let begun : StartMeetsIn (base_of agent) setup policy.pre =
      start_from-meets (base_of agent) policy packet setup kept low short e in
      returns policy bytes a.contents a.code a.marks kept a.accepts bound is start good refl begun
      budget enough

pub bounded_returns : AcceptedReturns → StartsState → StartsMeet → BoundedReturns
bounded_returns returns state meets policy bytes kept a bound is = record {
  packets = λ packet steps held short enough.
      from_start returns state meets policy bytes kept a bound is packet steps held short enough
      (start_of policy packet) refl;
  agents = from_part returns state meets policy bytes kept a bound is;
}
