-- What each command does, whatever the files hold: what it reads and writes, and what it prints by
-- what it read; and what accepted code is worth.
use Rattle.std.specs.Prelude.{◌≡◌, ℕ, suc, Bool, ◌*◌, ◌<◌, ◌≤◌, ◌↔◌, ◌⊎◌, List, [], ◌∷◌, ◌++◌, length, Option, None, Some, is_some, Result, Ok, Err}
use Rattle.file_port.specs.Events.{Given, whole, missing, too_long, failed, no_memory, Event, was_read, was_written}
use Rattle.file_port.specs.declared.port.Put.{Put}
use Rattle.alpha_words.specs.declared.insn.Insn.{Insn}
use Rattle.alpha_cfg.specs.Isolation.{ChangesWritable, DependsOnReadable}
use Rattle.alpha_cfg.specs.Machine.{State, run_of}
use Rattle.alpha_cfg.specs.declared.outcome.Outcome.TheVariants.{Returned}
use Rattle.policy_set.specs.declared.kind.PolicyKind.TheVariants.{Filter}
use Rattle.policy_set.specs.Views.{PolicyView, built_in, IsPolicy}
use Rattle.policy_set.specs.Names.{policy_of}
use Rattle.policy_set.specs.declared.fault.PolicyFlaw.{PolicyFlaw}
use Rattle.policy_set.specs.PolicyText.{SpellsPolicy, IsPolicyFlaw}
use Rattle.reference_machine.specs.declared.layout.TheConstants.{ARENA, QUADWORDS}
use Rattle.reference_machine.specs.Starts.{StartView, start_state}
use Rattle.packet_store.specs.declared.reader.TheConstants.{MAX_PACKET}
use Rattle.packet_store.specs.declared.fault.PacketFault.{PacketFault}
use Rattle.packet_store.specs.declared.results.PacketResult.{PacketResult}
use Rattle.packet_store.specs.declared.results.PacketResult.TheVariants.{Short, Ran}
use Rattle.packet_store.specs.PacketDecoding.{decoded_packets}
use Rattle.packet_store.specs.Packets.{AreShort, packets_encoding, IsFirstFault}
use Rattle.packet_store.specs.PolicyStarts.{start_from, start_of}
use Rattle.packet_store.specs.Results.{packet_result}
use Rattle.term_table.specs.Bytes.{IsBytes}
use Rattle.vcgen.specs.Safety.{IsGoodEnd, IsReturn}
use Rattle.pcc_gate.specs.declared.refusal.Refusal.{Refusal}
use Rattle.pcc_gate.specs.Accepted.{IsAccepted}
use Rattle.pcc_gate.specs.WrittenOut.{IsAcceptedWrittenOut}
use Rattle.pcc_gate.specs.Passing.{Passes, PassesRead}
use Rattle.pcc_gate.specs.Clauses.{IsFirstRefusal, IsLemmaRefusal}
use Rattle.pcc_gate.specs.Answers.{HasGoodLemmas}
use Rattle.proof_container.specs.Contents.{Contents}
use Rattle.proof_container.specs.Encoding.{EncodesContents, encoding_of}
use Rattle.proof_container.specs.Versions.{profile_of}
use Rattle.term_table.specs.Tree.{Tree}
use Rattle.asm_text.specs.declared.fault.LineFlaw.{LineFlaw}
use Rattle.asm_text.specs.Names.{line_flaw_name}
use Rattle.asm_text.specs.Sources.{Source, SpellsSource}
use Rattle.asm_text.specs.Faults.{IsSourceFault}
use Rattle.pcc_asm.specs.declared.fault.AsmFlaw.{AsmFlaw}
use Rattle.pcc_asm.specs.Names.{asm_flaw_line, asm_flaw_name}
use Rattle.pcc_asm.specs.Words.{code_bytes}
use Rattle.pcc_asm.specs.Assembling.{Assembles}
use Rattle.pcc_asm.specs.Faults.{IsAsmFault}
use Rattle.pcc_demo.specs.Sources.{demo_source}
use Rattle.pcc_lines.specs.Demo.{demo_lines}
use Rattle.bpf_words.specs.declared.insn.TheConstants.{LOADABLE}
use Rattle.bpf_words.specs.declared.insn.Bpf.{Bpf}
use Rattle.bpf_words.specs.declared.fault.BpfFlaw.{BpfFlaw}
use Rattle.bpf_words.specs.Flaws.{MeansFlaw}
use Rattle.bpf_words.specs.Programs.{IsProgram}
use Rattle.bpf_words.specs.Reading.{HasInsns}
use Rattle.bpf_words.specs.Values.{bpf_value}
use Rattle.bpf_code.specs.Blocks.{nonzero_flag}
use Rattle.bpf_compile.specs.Compilation.{bare_contents}
use Rattle.bounds_prover.specs.declared.fault.ProveFlaw.{ProveFlaw}
use Rattle.bounds_prover.specs.Proving.{with_proof, proved_contents}
use Rattle.prover_conditions.specs.Conditions.{condition_parts}
use Rattle.gate_upgrade.specs.declared.fault.UpgradeFlaw.{UpgradeFlaw}
use Rattle.gate_upgrade.specs.Upgrades.{IsUpgrade}
use Rattle.gate_upgrade.specs.UpgradeTests.{IsUpgradeFlaw}
use Rattle.alpha_turns.specs.Parts.{AreApart, LieIn, part_from}
use Rattle.agent_script.specs.declared.fault.ScriptFlaw.{ScriptFlaw}
use Rattle.agent_script.specs.declared.script.TheConstants.{MAX_SCRIPT}
use Rattle.agent_script.specs.Names.{script_flaw_name}
use Rattle.agent_script.specs.Statements.{LoadView}
use Rattle.agent_script.specs.Scripts.{ScriptView}
use Rattle.agent_script.specs.Texts.{SpellsScript, HasFault}
use Rattle.agent_host.specs.declared.host.TheConstants.{MAX_AGENTS}
use Rattle.agent_host.specs.Agents.{base_of}
use Rattle.pcc_lines.specs.Agents.{agent_line, no_packet_line, short_line}
use Rattle.pcc_lines.specs.Scripts.{script_fault_line}
use Rattle.pcc_lines.specs.Bpf.{bpf_flaw_line}
use Rattle.pcc_lines.specs.Fixed.{accepted_line, unknown_policy_line, container_too_long_line, packets_too_long_line, policy_too_long_line, script_too_long_line}
use Rattle.pcc_lines.specs.Named.{missing_line, read_fault_line}
use Rattle.pcc_lines.specs.PacketFaults.{packet_fault_line}
use Rattle.pcc_lines.specs.Refusals.{refusal_line}
use Rattle.pcc_lines.specs.Results.{result_lines}
use Rattle.pcc_lines.specs.Sources.{source_fault_line, written_line}
use Rattle.pcc_stages.specs.Exits.{Exit}
use Rattle.pcc_stages.specs.Requests.{missing_exit, read_fault_exit, no_memory_exit}
use Rattle.pcc_stages.specs.Runs.{done_exit, written_exit}
use Rattle.pcc_stages.specs.Texts.{texts}
use Rattle.pcc_stages.specs.Stages.Common.{refused}
use Rattle.pcc_stages.specs.Stages.Policies.{no_policy_spelled}
use Rattle.pcc_stages.specs.declared.files.TheConstants.{MAX_FILE, MAX_POLICY_FILE}
use Rattle.pcc_commands.specs.Stages.Hosting.{Member, told_of}
use Rattle.pcc_commands.specs.Stages.Proving.{no_container as unproved_exit}
use Rattle.pcc_commands.specs.Stages.Upgrading.{not_upgraded}
use Rattle.pcc_commands.specs.Commands.Demo.{summary_of}
use Rattle.pcc_commands.specs.Commands.Host.{turn_lines}

-- ---- what is printed of what a read gave

-- What is printed of what a read of the file of a name gave: of its bytes what Tells says, of a file
-- that has too many the line, else that there is none, or that the read failed.
abbrev pub ToldOf : (List ℕ → Exit → Type 0) → List ℕ → List ℕ → Given → Exit → Type 0
ToldOf Tells name line (whole bytes) exit = Tells bytes exit
ToldOf Tells name line missing exit = exit ≡ record { status = 3; text = missing_line name }
ToldOf Tells name line too_long exit = exit ≡ refused line
ToldOf Tells name line failed exit = exit ≡ record { status = 3; text = read_fault_line name }
ToldOf Tells name line no_memory exit = exit ≡ no_memory_exit

-- The verdict on bytes: `accepted` exactly where they are accepted under the policy, and that is so
-- exactly where they are with every lemma written out; else the line of a refusal.
pub record IsVerdict (policy : PolicyView) (bytes : List ℕ) (exit : Exit) : Type 0 where
  pub accepted : (exit ≡ done_exit accepted_line) ↔ IsAccepted policy bytes
  pub written_out : (exit ≡ done_exit accepted_line) ↔ IsAcceptedWrittenOut policy bytes
  pub judged : IsAccepted policy bytes ⊎ ((r : Refusal) × (exit ≡ refused (refusal_line r)))

-- the same, and the refusal is that of the first clause that fails
pub record IsFirstVerdict (policy : PolicyView) (bytes : List ℕ) (exit : Exit) : Type 0 where
  pub verdict : IsVerdict policy bytes exit
  pub refused : (r : Refusal) → IsFirstRefusal policy bytes r → exit ≡ refused (refusal_line r)
  pub judged : IsAccepted policy bytes ⊎ ((r : Refusal) × IsFirstRefusal policy bytes r)

-- a verdict on bytes under a policy, by an exit
abbrev pub Verdict : Type 1
Verdict = PolicyView → List ℕ → Exit → Type 0

-- what `check` prints of what its read of FILE gave, where this is the verdict on its bytes
abbrev pub IsJudged : Verdict → PolicyView → List ℕ → Given → Exit → Type 0
IsJudged Judges policy file = ToldOf (Judges policy) file container_too_long_line

-- What is printed of bytes as packets, by the machine that tests every access: a line for each of
-- the packets, or the first fault of a file that has none.
pub data IsRunOn (policy : PolicyView) (code : List Insn) (steps : ℕ) (bytes : List ℕ) (exit : Exit)
    : Type 0 where
  on_packets : (packets : List (List ℕ)) → AreShort packets → bytes ≡ packets_encoding packets
      → exit ≡ done_exit (result_lines policy.kind (packet_result policy code steps) 0 packets)
      → IsRunOn policy code steps bytes exit
  no_packets : (fault : PacketFault) → IsFirstFault bytes fault
      → exit ≡ refused (packet_fault_line fault) → IsRunOn policy code steps bytes exit

-- what `run` and `ref` print of code, by what the read of PACKETS gave
abbrev pub IsRunBy : PolicyView → List Insn → ℕ → List ℕ → Given → Exit → Type 0
IsRunBy policy code steps packets =
    ToldOf (IsRunOn policy code steps) packets packets_too_long_line

-- ---- what a command did, by its events and its exit

-- `check`: one read, of FILE, and the verdict on what it gave.
pub record Checks (Judges : Verdict) (policy : PolicyView) (file : List ℕ) (events : List Event)
    (exit : Exit) : Type 0 where
  pub given : Given
  pub one_read : events ≡ was_read file MAX_FILE given ∷ []
  pub judged : IsJudged Judges policy file given exit

-- what `check @NAME` prints of what its read of NAME gave, where that spells no policy
abbrev pub IsNoPolicy : List ℕ → Given → Exit → Type 0
IsNoPolicy name =
    ToldOf
    (λ text exit. (flaw : PolicyFlaw) × IsPolicyFlaw text flaw × (exit ≡ no_policy_spelled flaw))
    name policy_too_long_line

-- `check @NAME`: one read, of NAME, which spells no policy, and what is wrong with it; or it spells
-- one, which keeps what each policy does, FILE is read behind it, and the verdict is that of this
-- policy.
pub data ChecksFrom (Judges : Verdict) (name file : List ℕ) (events : List Event) (exit : Exit)
    : Type 0 where
  without_policy : (given : Given) → events ≡ was_read name MAX_POLICY_FILE given ∷ []
      → IsNoPolicy name given exit → ChecksFrom Judges name file events exit
  with_policy : (text : List ℕ) (policy : PolicyView) (given : Given) → SpellsPolicy text policy
      → IsPolicy policy
      → events ≡ was_read name MAX_POLICY_FILE (whole text) ∷ was_read file MAX_FILE given ∷ []
      → IsJudged Judges policy file given exit → ChecksFrom Judges name file events exit

-- `run`: one read, of FILE, which is not accepted, and what `check` prints of it, which isn't done;
-- or it is accepted, PACKETS is read behind it, and the lines are those of the machine that tests
-- every access, of the code that was accepted.
pub data RunsCode (Judges : Verdict) (policy : PolicyView) (file packets : List ℕ) (steps : ℕ)
    (events : List Event) (exit : Exit) : Type 0 where
  not_accepted : (given : Given) → events ≡ was_read file MAX_FILE given ∷ []
      → IsJudged Judges policy file given exit → 0 < exit.status
      → RunsCode Judges policy file packets steps events exit
  accepted : (bytes : List ℕ) (a : IsAccepted policy bytes) (given : Given)
      → events ≡ was_read file MAX_FILE (whole bytes) ∷ was_read packets MAX_FILE given ∷ []
      → IsRunBy policy a.code steps packets given exit
      → RunsCode Judges policy file packets steps events exit

-- The bytes have no code for the policy, and this is printed: the line of the first clause that
-- fails.
pub record IsWithoutCode (policy : PolicyView) (bytes : List ℕ) (exit : Exit) : Type 0 where
  pub refusal : Refusal
  pub first : IsFirstRefusal policy bytes refusal
  pub told : exit ≡ refused (refusal_line refusal)
  pub none : (contents : Contents) (code : List Insn) → PassesRead policy bytes contents code → ⊥

-- `ref`: one read, of FILE, which has no code for the policy; or PACKETS is read behind it, and the
-- lines are those of the machine that tests every access, of the code that the bytes have, which of
-- accepted ones is what was accepted.
pub data Refs (policy : PolicyView) (file packets : List ℕ) (steps : ℕ) (events : List Event)
    (exit : Exit) : Type 0 where
  no_code : (given : Given) → events ≡ was_read file MAX_FILE given ∷ []
      → ToldOf (IsWithoutCode policy) file container_too_long_line given exit
      → Refs policy file packets steps events exit
  ran : (bytes : List ℕ) (contents : Contents) (code : List Insn) (given : Given)
      → events ≡ was_read file MAX_FILE (whole bytes) ∷ was_read packets MAX_FILE given ∷ []
      → PassesRead policy bytes contents code → IsRunBy policy code steps packets given exit
      → ((a : IsAccepted policy bytes) → code ≡ a.code)
      → Refs policy file packets steps events exit

-- A command that makes a file of another: one read, of IN, and the exit that tells why nothing is made of what it gave; or then one
-- write to OUT, of what is made of the bytes.
pub data Makes (input output : List ℕ) (max : ℕ) (IsMade : List ℕ → List ℕ → Type 0) (IsTold : Given → Exit → Type 0) (events : List Event) (exit : Exit) : Type 0 where
  not_made : (given : Given) → events ≡ was_read input max given ∷ [] → IsTold given exit → Makes input output max IsMade IsTold events exit
  made : (bytes out : List ℕ) (answer : Put) → events ≡ was_read input max (whole bytes) ∷ was_written output out answer ∷ []
      → IsMade bytes out → exit ≡ written_exit texts output (written_line (length out)) answer → Makes input output max IsMade IsTold events exit

-- `asm` makes of a text the container of the source that it spells, in this version and with this
-- bound: the encoding of contents that are the source's, and whose words are those that are written
-- for its instructions, since many words are a `ret`.
pub record AssemblesTo (version : ℕ) (bound : Option ℕ) (policy : PolicyView) (text out : List ℕ)
    : Type 0 where
  pub source : Source
  pub contents : Contents
  pub spelled : SpellsSource (profile_of version) (is_some bound) text source
  pub assembled : Assembles version bound policy source contents
  pub written : contents.code ≡ code_bytes assembled.insns
  pub encoded : out ≡ encoding_of contents

-- the line that is wrong of a source, and why
abbrev pub source_exit : ℕ → List ℕ → Exit
source_exit line flaw = refused (source_fault_line line flaw)

-- `asm` makes nothing of a text, and prints why: it spells no source, or what it spells can't be
-- code
pub data IsNoSource (version : ℕ) (bound : Option ℕ) (text : List ℕ) (exit : Exit) : Type 0 where
  not_spelled : (line : ℕ) (flaw : LineFlaw)
      → IsSourceFault (profile_of version) (is_some bound) text line flaw
      → exit ≡ source_exit line (line_flaw_name flaw) → IsNoSource version bound text exit
  not_assembled : (source : Source) (flaw : AsmFlaw)
      → SpellsSource (profile_of version) (is_some bound) text source
      → IsAsmFault (profile_of version) source flaw
      → exit ≡ source_exit (asm_flaw_line flaw) (asm_flaw_name flaw)
      → IsNoSource version bound text exit

-- `prove` makes nothing of bytes that have a flaw, and prints one
abbrev pub IsUnproved : List ℕ → Exit → Type 0
IsUnproved bytes exit = (flaw : ProveFlaw) × (exit ≡ unproved_exit flaw)

-- `prove` makes of a container one that is accepted, of the same contents but for the proof
pub record Proves (policy : PolicyView) (bytes out : List ℕ) : Type 0 where
  pub contents : Contents
  pub proof : Tree
  pub given : EncodesContents bytes contents
  pub made : out ≡ encoding_of (with_proof contents proof)
  pub accepted : IsAccepted policy out

-- Of bytes that pass the checks before the proof, and of their lemmas alone 10 and 14, the class
-- makes this by the parts of their condition.
pub record ClassMakes (policy : PolicyView) (bytes : List ℕ) (made : Result (List ℕ) ProveFlaw)
    : Type 0 where
  pub contents : Contents
  pub code : List Insn
  pub marks : List Bool
  pub passes : Passes policy bytes contents code marks
  pub lemmas : HasGoodLemmas contents
  pub parts : proved_contents contents (condition_parts policy contents.bound code contents.invs)
      ≡ made

-- what `prove` makes is accepted, and it is what the class of proofs that it searches has
pub record ProvesExactly (policy : PolicyView) (bytes out : List ℕ) : Type 0 where
  pub proves : Proves policy bytes out
  pub exactly : ClassMakes policy bytes (Ok out)

-- `prove` makes nothing, exactly: the first check that fails, or the class makes nothing
pub data IsUnprovedExactly (policy : PolicyView) (bytes : List ℕ) (exit : Exit) : Type 0 where
  not_checked : (r : Refusal) → IsLemmaRefusal policy bytes r → exit ≡ refused (refusal_line r)
      → IsUnprovedExactly policy bytes exit
  not_in_class : (flaw : ProveFlaw) → ClassMakes policy bytes (Err flaw)
      → exit ≡ unproved_exit flaw → IsUnprovedExactly policy bytes exit

-- The source of `demo` is assembled for `filter`, what `prove` makes of it is accepted, and the
-- lines tell of the accepted code and of its runs.
pub record IsDemo (IsProved : List ℕ → List ℕ → Type 0) (n : ℕ) (exit : Exit) : Type 0 where
  pub bare : List ℕ
  pub out : List ℕ
  pub assembled : AssemblesTo 1 None (built_in Filter) (demo_source n) bare
  pub proved : IsProved bare out
  pub accepted : IsAccepted (built_in Filter) out
  pub lines : exit ≡ done_exit (demo_lines (summary_of (built_in Filter) n
      (record { code = accepted.code; invariants = length accepted.contents.invs })))

-- `demo`: no file is read or written, and the lines are printed, or why nothing is assembled or
-- proved, by what `prove` makes and tells.
pub data Demonstrates (IsProved : List ℕ → List ℕ → Type 0) (IsTold : List ℕ → Exit → Type 0)
    (n : ℕ) (events : List Event) (exit : Exit) : Type 0 where
  demonstrated : events ≡ [] → IsDemo IsProved n exit → Demonstrates IsProved IsTold n events exit
  not_assembled : events ≡ [] → IsNoSource 1 None (demo_source n) exit
      → Demonstrates IsProved IsTold n events exit
  not_proved : (bare : List ℕ) → events ≡ []
      → AssemblesTo 1 None (built_in Filter) (demo_source n) bare → IsTold bare exit
      → Demonstrates IsProved IsTold n events exit

-- `upgrade` makes of a container of version 1 one of version 2, of the same code, invariants and
-- proof, that is accepted under each policy under which the first is
pub record UpgradesTo (bytes out : List ℕ) : Type 0 where
  pub upgrade : IsUpgrade bytes out
  pub accepted : (policy : PolicyView) → IsPolicy policy → IsAccepted policy bytes
      → IsAccepted policy out

-- `upgrade` makes nothing of bytes that have a flaw, and prints the first one
abbrev pub IsNoUpgrade : List ℕ → Exit → Type 0
IsNoUpgrade bytes exit =
    (flaw : UpgradeFlaw) × IsUpgradeFlaw bytes flaw × (exit ≡ not_upgraded flaw)

-- the most steps of a run of what a program is compiled to; each of at most forty instructions takes twenty
abbrev pub bpf_steps : ℕ
bpf_steps = 1000

-- each packet that isn't short comes to the flag of the program's value on it, 0 if the value is 0, else 1, by the machine that tests every access
abbrev pub ComesToFlags : List Bpf → List Insn → Type 0
ComesToFlags program code =
    (packet : List ℕ) → IsBytes packet → LOADABLE ≤ length packet
    → packet_result (built_in Filter) code bpf_steps packet
    ≡ Ran (Returned (nonzero_flag (bpf_value program packet))) 0

-- `bpf` makes of a program a container that is accepted under `filter`, and whatever code that is,
-- packets come to the flags of the program's values
pub record CompilesTo (bytes out : List ℕ) : Type 0 where
  pub program : List Bpf
  pub insns : HasInsns bytes program
  pub lawful : IsProgram program
  pub accepted : IsAccepted (built_in Filter) out
  pub flags : (a : IsAccepted (built_in Filter) out) → ComesToFlags program a.code

-- it is the container that `prove` makes of the program's code and invariants
pub record CompilesExactly (bytes out : List ℕ) : Type 0 where
  pub compiles : CompilesTo bytes out
  pub compiled :
      ClassMakes (built_in Filter) (encoding_of (bare_contents compiles.program)) (Ok out)

-- `bpf` makes nothing of bytes that are no program, and prints the first flaw
abbrev pub IsNoProgram : List ℕ → Exit → Type 0
IsNoProgram bytes exit =
    (flaw : BpfFlaw) × MeansFlaw bytes flaw × (exit ≡ refused (bpf_flaw_line flaw))

-- ---- `host`

-- what is printed of a load that is refused, told of agent a
abbrev pub agent_exit : ℕ → List ℕ → Exit
agent_exit a line = refused (agent_line a line)

-- the packet, where it has a start in the part of agent a
abbrev pub unless_short_of : ℕ → List ℕ → Option StartView → Result (List ℕ) Exit
unless_short_of a packet None = Err (agent_exit a short_line)
unless_short_of a packet (Some setup) = Ok packet

-- the first packet of those that were read, or what is wrong with them
abbrev pub first_packet_of : ℕ → PolicyView → Result (List (List ℕ)) PacketFault
    → Result (List ℕ) Exit
first_packet_of a policy (Err fault) = Err (agent_exit a (packet_fault_line fault))
first_packet_of a policy (Ok []) = Err (agent_exit a no_packet_line)
first_packet_of a policy (Ok (packet ∷ packets)) =
    unless_short_of a packet (start_from (base_of a) policy.kind packet)

-- what the read of the packet file of agent a gave
abbrev pub packet_given : ℕ → PolicyView → List ℕ → Given → Result (List ℕ) Exit
packet_given a policy packets (whole bytes) = first_packet_of a policy (decoded_packets bytes)
packet_given a policy packets missing = Err (missing_exit texts packets)
packet_given a policy packets too_long = Err (agent_exit a packets_too_long_line)
packet_given a policy packets failed = Err (read_fault_exit texts packets)
packet_given a policy packets no_memory = Err no_memory_exit

-- the agent of accepted code with its packet, or what is wrong with that
abbrev pub member_with : PolicyView → List Insn → Result (List ℕ) Exit → Result Member Exit
member_with policy code (Ok packet) = Ok (record { policy = policy; code = code; packet = packet })
member_with policy code (Err exit) = Err exit

-- A load of agent a: no policy has its name, and nothing is read; or FILE is read, which is not accepted, and what `check` prints of
-- it is told of the agent; or it is accepted, and PACKETS is read behind it.
pub data LoadsMember (a : ℕ) (one : LoadView) (events : List Event) (found : Result Member Exit) : Type 0 where
  no_policy : policy_of one.policy ≡ None → events ≡ [] → found ≡ Err (agent_exit a unknown_policy_line) → LoadsMember a one events found
  no_container : (policy : PolicyView) (given : Given) (exit : Exit) → policy_of one.policy
      ≡ Some policy
      → events ≡ was_read one.file MAX_FILE given ∷ [] → IsJudged IsFirstVerdict policy one.file given exit → 0 < exit.status → found ≡ Err (told_of a exit)
      → LoadsMember a one events found
  has_container : (policy : PolicyView) (bytes : List ℕ) (it : IsAccepted policy bytes)
      (given : Given) → policy_of one.policy ≡ Some policy
      → events ≡ was_read one.file MAX_FILE (whole bytes) ∷ was_read one.packets MAX_FILE given ∷ []
      → found ≡ member_with policy it.code (packet_given a policy one.packets given) → LoadsMember a one events found

-- loads in order, the first of which is agent a, up to the first that ends the command
pub data LoadsMembers : ℕ → List LoadView → List Event → Result (List Member) Exit → Type 0 where
  all : {a : ℕ} → LoadsMembers a [] [] (Ok [])
  ended : {a : ℕ} {one : LoadView} {loads : List LoadView} {events : List Event} {exit : Exit} → LoadsMember a one events (Err exit)
      → LoadsMembers a (one ∷ loads) events (Err exit)
  ended_later : {a : ℕ} {one : LoadView} {loads : List LoadView} {first events : List Event} {agent : Member} {exit : Exit}
      → LoadsMember a one first (Ok agent) → LoadsMembers (suc a) loads events (Err exit) → LoadsMembers a (one ∷ loads) (first ++ events) (Err exit)
  loaded : {a : ℕ} {one : LoadView} {loads : List LoadView} {first events : List Event} {agent : Member} {agents : List Member}
      → LoadsMember a one first (Ok agent) → LoadsMembers (suc a) loads events (Ok agents) → LoadsMembers a (one ∷ loads) (first ++ events) (Ok (agent ∷ agents))

-- what `host` prints of what its read of SCRIPT gave, where there is no script: the line of the first fault
abbrev pub IsFaultTold : List ℕ → Given → Exit → Type 0
IsFaultTold name =
    ToldOf
    (λ text exit. (line : ℕ) × (flaw : ScriptFlaw) × HasFault text line flaw
    × (exit ≡ refused (script_fault_line line (script_flaw_name flaw))))
    name script_too_long_line

-- `host`: one read, of SCRIPT, and what is wrong with it; or then the reads of its loads in order, up to the first that ends the
-- command; or of all, and the line of each turn says what the agent comes to alone, by the machine that tests every access, with the
-- sum of its own budgets so far: no other agent has a part in it.
pub data Hosts (name : List ℕ) (events : List Event) (exit : Exit) : Type 0 where
  no_script : (given : Given) → events ≡ was_read name MAX_SCRIPT given ∷ [] → IsFaultTold name given exit → Hosts name events exit
  not_loaded : (text : List ℕ) (script : ScriptView) (reads : List Event) → events ≡ was_read name MAX_SCRIPT (whole text) ∷ reads
      → SpellsScript text script → LoadsMembers 0 script.loads reads (Err exit) → Hosts name events exit
  took_turns : (text : List ℕ) (script : ScriptView) (agents : List Member) (reads : List Event) → events ≡ was_read name MAX_SCRIPT (whole text) ∷ reads
      → SpellsScript text script → LoadsMembers 0 script.loads reads (Ok agents) → exit ≡ done_exit (turn_lines agents 0 [] script.turns)
      → Hosts name events exit

-- ---- what accepted code is worth

-- A run of the code from the state isn't blocked, and a return satisfies the postcondition; it changes nothing that may not be
-- stored to, and depends on nothing but the registers and what may be loaded.
pub record IsSafeRun (policy : PolicyView) (code : List Insn) (budget : ℕ) (state : State) : Type 0
  where
    pub good : IsGoodEnd policy.post (run_of code budget state)
    pub changes : ChangesWritable code budget state
    pub depends : DependsOnReadable code budget state

-- so does every run from a start of the policy
abbrev pub RunsSafely : PolicyView → List Insn → Type 0
RunsSafely policy code =
    (packet : List ℕ) (setup : StartView) (budget : ℕ) → IsBytes packet → length packet ≤ MAX_PACKET → start_of policy packet ≡ Some setup
    → IsSafeRun policy code budget (start_state ARENA setup)

-- code that is accepted under a policy, which keeps what each does, runs safely
abbrev pub AcceptedRunsSafely : Type 0
AcceptedRunsSafely =
    (policy : PolicyView) (bytes : List ℕ) → IsPolicy policy → (a : IsAccepted policy bytes)
    → RunsSafely policy a.code

-- the part of the arena that is agent a's
abbrev pub agent_part : ℕ → ℕ → Bool
agent_part = part_from ARENA (8 * QUADWORDS)

-- The rights of agent a at a start lie in its own part of the arena, and no run of its accepted code from there is blocked; so it
-- changes nothing outside its part, and depends on nothing outside it.
pub record StaysInPart (a : ℕ) (policy : PolicyView) (code : List Insn) (budget : ℕ)
    (setup : StartView) : Type 0 where
  pub lie : LieIn (agent_part a) (start_state (base_of a) setup).rights
  pub safe : IsSafeRun policy code budget (start_state (base_of a) setup)

-- No address is in the parts of two agents, and every agent that a host may have, under a policy
-- that keeps what each does, stays in its own; so none changes or learns anything of another's.
pub record AgentsStayInParts : Type 0 where
  pub parts : AreApart agent_part
  pub stays : (policy : PolicyView) (bytes : List ℕ) → IsPolicy policy
      → (it : IsAccepted policy bytes) (a : ℕ) (packet : List ℕ) (setup : StartView) (budget : ℕ)
      → a < MAX_AGENTS → IsBytes packet → length packet ≤ MAX_PACKET
      → start_from (base_of a) policy.kind packet ≡ Some setup
      → StaysInPart a policy it.code budget setup

-- ---- code whose steps are bounded

-- a packet was short, or its run returned: it wasn't out of steps
abbrev pub IsShortOrReturns : PacketResult → Type 0
IsShortOrReturns Short = Unit {0}
IsShortOrReturns (Ran outcome sum) = IsReturn outcome

-- With at least as many steps for a packet as the bound, no packet of `run` is out of steps; and
-- from a start in its part, with a budget of at least the bound, an agent of `host` returns.
pub record ReturnsInTime (policy : PolicyView) (code : List Insn) (bound : ℕ) : Type 0 where
  pub packets : (packet : List ℕ) (steps : ℕ) → IsBytes packet → length packet ≤ MAX_PACKET
      → bound ≤ steps → IsShortOrReturns (packet_result policy code steps packet)
  pub agents : (a : ℕ) (packet : List ℕ) (setup : StartView) (budget : ℕ) → a < MAX_AGENTS
      → IsBytes packet → length packet ≤ MAX_PACKET
      → start_from (base_of a) policy.kind packet ≡ Some setup → bound ≤ budget
      → IsReturn (run_of code budget (start_state (base_of a) setup)).0

-- code that is accepted under a policy, which keeps what each does, with a bound of its steps,
-- returns in time
abbrev pub BoundedReturns : Type 0
BoundedReturns =
    (policy : PolicyView) (bytes : List ℕ) → IsPolicy policy → (a : IsAccepted policy bytes)
    (bound : ℕ) → a.contents.bound ≡ Some bound → ReturnsInTime policy a.code bound
