-- What the arguments ask for is suited: the stages stop with refusals that go with what the arguments are, and read the named files.
use Rattle.std.proofs.Common.{◌≡◌, ◌⊎◌, ℕ, suc, ◌<◌, true, false, List, [], ◌∷◌, ◌==◌, get_or, Option, Some, None, Result, Ok, Err, Contains, IfSome, refl, sym, ap, subst, arith, inl, inr}
use Rattle.packet_store.specs.PacketDecoding.{decoded_packets}
use Rattle.packet_store.specs.Results.{packet_result}
use Rattle.alpha_words.specs.declared.insn.Insn.{Insn}
use Rattle.policy_set.specs.Views.{PolicyView}
use Rattle.policy_set.specs.Names.{policy_of}
use Rattle.asm_text.specs.declared.limits.TheConstants.{MAX_SOURCE}
use Rattle.pcc_demo.specs.Sources.{demo_source}
use Rattle.pcc_words.specs.Invocations.{named, from_file, Invocation, asm, prove, check, run, ref, demo, upgrade, host, bpf}
use Rattle.reference_machine.specs.Starts.{StartView}
use Rattle.packet_store.specs.PolicyStarts.{start_from}
use Rattle.agent_script.specs.declared.fault.ScriptFlaw.{ScriptFlaw}
use Rattle.agent_script.specs.declared.script.TheConstants.{MAX_SCRIPT}
use Rattle.agent_script.specs.Names.{script_flaw_name}
use Rattle.agent_script.specs.Statements.{LoadView}
use Rattle.agent_script.specs.Scripts.{ScriptView, parsed_script}
use Rattle.agent_host.specs.Agents.{base_of}
use Rattle.pcc_lines.specs.Agents.{agent_line}
use Rattle.pcc_lines.specs.Scripts.{script_fault_line}
use Rattle.pcc_lines.specs.Demo.{demo_lines}
use Rattle.pcc_lines.specs.Fixed.{accepted_line, bpf_too_long_line, container_too_long_line, packets_too_long_line, policy_too_long_line, script_too_long_line, source_too_long_line}
use Rattle.pcc_lines.specs.Results.{result_lines}
use Rattle.pcc_stages.specs.Exits.{Exit}
use Rattle.pcc_stages.specs.Requests.{command, no_memory_exit}
use Rattle.pcc_stages.specs.Stage.{Stage, stops, gives, reads, ◌>>=◌}
use Rattle.pcc_stages.specs.Runs.{Effect, IsStop, IsSuited}
use Rattle.pcc_stages.proofs.RunLemmas.{is_read}
use Rattle.pcc_stages.specs.Texts.{texts}
use Rattle.pcc_stages.specs.Told.{standing_of_policy}
use Rattle.pcc_stages.proofs.PureStages.{EndsAs, gave, refused_by, had_no_memory, end_then, code_end, packets_in_end, policy_in_end}
use Rattle.pcc_stages.proofs.Suiting.{suited-then, stop_line, stop_unknown, ends-fits, reads-fit, only, first_of_two, second_of_two}
use Rattle.pcc_commands.proofs.PureStages.{accepted_in_end, accepted_code_in_end, shown_in_end, assembled_in_end, proved_in_end, upgraded_in_end, compiled_in_end}
use Rattle.pcc_stages.specs.declared.files.TheConstants.{MAX_FILE, MAX_POLICY_FILE}
use Rattle.pcc_stages.specs.Stages.Policies.{policy_in, policy_from}
use Rattle.pcc_stages.specs.Stages.Common.{refused, policy_found, printing}
use Rattle.pcc_stages.specs.Stages.Containers.{code_in, code_of}
use Rattle.pcc_stages.specs.Stages.Packets.{packets_found, packets_in, packets_of}
use Rattle.pcc_commands.specs.declared.stages.TheConstants.{MAX_PROGRAM_FILE}
use Rattle.pcc_commands.specs.Stages.Upgrading.{upgraded_in, upgraded_of}
use Rattle.pcc_commands.specs.Stages.Writing.{writing}
use Rattle.pcc_commands.specs.Stages.Judging.{accepted_in, accepted_code_in, shown_in, accepted_of, accepted_code_of}
use Rattle.pcc_commands.specs.Stages.Assembling.{assembled_in, assembled_of}
use Rattle.pcc_commands.specs.Stages.Proving.{proved_in, proved_of}
use Rattle.pcc_commands.specs.Stages.Compiling.{compiled_in, compiled_of}
use Rattle.pcc_commands.specs.Stages.Hosting.{script_found, script_in, script_of, Member, unless_short, first_packet, packet_of, load_of, told_of, for_agent, agents_from}
use Rattle.pcc_commands.specs.Commands.Host.{turn_lines, host_command}
use Rattle.pcc_commands.specs.Commands.Assemble.{asm_command}
use Rattle.pcc_commands.specs.Commands.Bpf.{bpf_command}
use Rattle.pcc_commands.specs.Commands.Check.{check_command}
use Rattle.pcc_commands.specs.Commands.Prove.{prove_command}
use Rattle.pcc_commands.specs.Commands.Reference.{ref_command}
use Rattle.pcc_commands.specs.Commands.Running.{run_command}
use Rattle.pcc_commands.specs.Commands.Upgrade.{upgrade_command}
use Rattle.pcc_commands.specs.Commands.Demo.{summary_of, demo_container, demo_told, demo_effect, demo_policy, demo_command}
use Rattle.pcc_commands.specs.Tasks.{task_of_command}

-- ---- stages

module _ (names : Option (List (List ℕ))) where
  -- a stage of a command
  abbrev Fits : {A : Type 0} → Stage A → Type 0
  Fits s = IsSuited texts command names s

  behind : {A B : Type 0} (next : A → Stage B) (s : Stage A) → Fits s → ((x : A) → Fits (next x)) → Fits (s >>= next)
  behind next s h k = suited-then texts command names next s h k

  -- behind a stage that reads no file
  ends : {A B : Type 0} (next : A → Stage B) (s : Stage A) → EndsAs s → ((x : A) → Fits (next x)) → Fits (s >>= next)
  ends next s h k = behind next s (ends-fits texts names refl s h) k

  -- the file of a name is read
  read : {A : Type 0} (name : List ℕ) (max : ℕ) (line : List ℕ) (on : List ℕ → Stage A) → IfSome names (λ all. Contains all name) → get_or line 0 0 < 117 → ((b : List ℕ) → Fits (on b))
      → Fits (reads name max (refused line) on)
  read name max line on listed less each = reads-fit texts names refl name max line on listed less each

  -- stages that read
  packets_of-fits : {B : Type 0} (name : List ℕ) (next : List (List ℕ) → Stage B) → IfSome names (λ all. Contains all name) → ((all : List (List ℕ)) → Fits (next all)) → Fits (packets_of name >>= next)
  unfolding packets_of
  packets_of-fits name next listed each =
      behind next (packets_of name) (read name MAX_FILE packets_too_long_line (λ b. packets_in b) listed (omega arith)
      (λ b. ends-fits texts names refl (packets_in b) (packets_in_end b))) each

-- ---- stages that read no file

demo_effect_end : (policy : PolicyView) (n : ℕ) → EndsAs (demo_effect policy n)
unfolding demo_effect demo_told demo_container
demo_effect_end policy n =
    end_then (λ told. printing (demo_lines told)) (demo_told policy n)
    (end_then (λ container. shown_in policy container >>= λ shown. gives (summary_of policy n shown)) (demo_container policy n)
    (end_then (λ container. proved_in policy container) (assembled_in 1 None policy (demo_source n))
    (assembled_in_end 1 None policy (demo_source n)) (λ container. proved_in_end policy container))
    (λ container. end_then (λ shown. gives (summary_of policy n shown)) (shown_in policy container) (shown_in_end policy container) (λ shown. gave _ refl)))
    (λ told. gave _ refl)

-- no read is its first
no_reads : {A : Type 0} (s : Stage A) → EndsAs s → is_read s ≡ false
no_reads s (gave x is) = ap is_read is
no_reads s (refused_by line less is) = ap is_read is
no_reads s (had_no_memory is) = ap is_read is

pub assembled_in-ends : (version : ℕ) (bound : Option ℕ) (policy : PolicyView) (text : List ℕ)
    → is_read (assembled_in version bound policy text) ≡ false
assembled_in-ends version bound policy text =
    no_reads (assembled_in version bound policy text) (assembled_in_end version bound policy text)

pub upgraded_in-ends : (bytes : List ℕ) → is_read (upgraded_in bytes) ≡ false
upgraded_in-ends bytes = no_reads (upgraded_in bytes) (upgraded_in_end bytes)

pub proved_in-ends : (policy : PolicyView) (bytes : List ℕ) → is_read (proved_in policy bytes)
    ≡ false
proved_in-ends policy bytes = no_reads (proved_in policy bytes) (proved_in_end policy bytes)

pub compiled_in-ends : (bytes : List ℕ) → is_read (compiled_in bytes) ≡ false
compiled_in-ends bytes = no_reads (compiled_in bytes) (compiled_in_end bytes)

-- ---- `host`

-- what may be told of an agent: a refusal, or want of memory
abbrev IsTellable : Exit → Type 0
IsTellable exit = (exit.status ≡ 1) ⊎ (exit ≡ no_memory_exit)

-- a stage whose refusals may be told of an agent
abbrev Tells : {A : Type 0} → Stage A → Type 0
Tells (stops exit) = IsTellable exit
Tells (gives x) = Unit {0}
Tells (reads name max more on) = (more.status ≡ 1) × ((b : List ℕ) → Tells (on b))

tells-bind : {A B : Type 0} (next : A → Stage B) (s : Stage A) → Tells s → ((x : A) → Tells (next x)) → Tells (s >>= next)
tells-bind next (stops exit) h k = h
tells-bind next (gives x) h k = k x
tells-bind next (reads name max more on) h k = (h.0, λ b. tells-bind next (on b) (h.1 b) k)

-- a stage that reads no file
ends-tells : {A : Type 0} (s : Stage A) → EndsAs s → Tells s
ends-tells {A = A} s (gave x is) = subst (λ (y : Stage A). Tells y) (sym is) tt
ends-tells {A = A} s (refused_by line less is) = subst (λ (y : Stage A). Tells y) (sym is) (inl refl)
ends-tells {A = A} s (had_no_memory is) = subst (λ (y : Stage A). Tells y) (sym is) (inr refl)

agent_line-first : (a : ℕ) (line : List ℕ) → get_or (agent_line a line) 0 0 ≡ 97
agent_line-first a line = refl

-- what is told of an agent goes with a command
told_stop : (a : ℕ) (exit : Exit) → exit.status ≡ 1 → IsStop texts command (told_of a exit)
told_stop a exit one =
    let first : get_or (agent_line a exit.text) 0 0 ≡ 97 = agent_line-first a exit.text in
    let test : (exit.status == 1) ≡ true = ap (λ k. k == 1) one in
    rw test (stop_line texts refl (agent_line a exit.text) (omega (arith, first)))

told_end : (a : ℕ) (exit : Exit) → IsTellable exit → IsStop texts command (told_of a exit) ⊎ (told_of a exit ≡ no_memory_exit)
told_end a exit (inl one) = inl (told_stop a exit one)
told_end a exit (inr none) = inr (ap (told_of a) none)

for_agent-fits : {A : Type 0} (a : ℕ) (s : Stage A) → Tells s → IsSuited texts command None (for_agent a s)
for_agent-fits a (stops exit) h = told_end a exit h
for_agent-fits a (gives x) h = refl
for_agent-fits a (reads name max more on) h = (refl, tt, told_stop a more h.0, λ b. for_agent-fits a (on b) (h.1 b))

policy_found-tells : (p : Option PolicyView) → Tells (policy_found p)
policy_found-tells None = inl refl
policy_found-tells (Some under) = tt

accepted_code_of-tells : (policy : PolicyView) (name : List ℕ) → Tells
    (accepted_code_of policy name)
unfolding accepted_code_of
accepted_code_of-tells policy name = (refl, λ b. ends-tells (accepted_code_in policy b) (accepted_code_in_end policy b))

unless_short-tells : (packet : List ℕ) (o : Option StartView) → Tells (unless_short packet o)
unless_short-tells packet None = inl refl
unless_short-tells packet (Some setup) = tt

first_packet-tells : (a : ℕ) (policy : PolicyView) (packets : List (List ℕ)) → Tells
    (first_packet a policy packets)
first_packet-tells a policy [] = inl refl
first_packet-tells a policy (packet ∷ packets) = unless_short-tells packet
    (start_from (base_of a) policy.kind packet)

packet_of-tells : (a : ℕ) (policy : PolicyView) (name : List ℕ) → Tells (packet_of a policy name)
unfolding packet_of packets_of
packet_of-tells a policy name = (
  refl,
  λ b. tells-bind (first_packet a policy) (packets_found (decoded_packets b)) (ends-tells (packets_found (decoded_packets b)) (packets_in_end b))
      (λ packets. first_packet-tells a policy packets),
)

load_of-tells : (a : ℕ) (one : LoadView) → Tells (load_of a one)
unfolding load_of
load_of-tells a one =
    tells-bind (λ policy. accepted_code_of policy one.file >>= λ code. packet_of a policy one.packets >>= λ packet. gives (member policy code packet)) (policy_found (policy_of one.policy)) (policy_found-tells (policy_of one.policy)) (λ policy.
    tells-bind (λ code. packet_of a policy one.packets >>= λ packet. gives (member policy code packet)) (accepted_code_of policy one.file) (accepted_code_of-tells policy one.file) (λ code.
    tells-bind (λ packet. gives (member policy code packet)) (packet_of a policy one.packets) (packet_of-tells a policy one.packets) (λ packet. tt)))
  where
    member : PolicyView → List Insn → List ℕ → Member
    member policy code packet = record { policy = policy; code = code; packet = packet }

agents_from-fits : (a : ℕ) (loads : List LoadView) → IsSuited texts command None (agents_from a loads)
agents_from-fits a [] = refl
agents_from-fits a (one ∷ loads) =
    behind None (λ agent. agents_from (suc a) loads >>= λ agents. gives (agent ∷ agents)) (for_agent a (load_of a one)) (for_agent-fits a (load_of a one) (load_of-tells a one)) (λ agent.
    behind None (λ agents. gives (agent ∷ agents)) (agents_from (suc a) loads) (agents_from-fits (suc a) loads) (λ agents. refl))

script_fault-first : (number : ℕ) (kind : List ℕ) → get_or (script_fault_line number kind) 0 0 ≡ 115
unfolding script_fault_line
script_fault-first number kind = refl

script_found-fits : (r : Result ScriptView (ℕ × ScriptFlaw)) → IsSuited texts command None (script_found r)
script_found-fits (Ok script) = refl
script_found-fits (Err fault) =
    inl (let first : get_or (script_fault_line fault.0 (script_flaw_name fault.1)) 0 0 ≡ 115 = script_fault-first fault.0 (script_flaw_name fault.1) in
    stop_line texts refl (script_fault_line fault.0 (script_flaw_name fault.1)) (omega arith))

-- ---- commands

-- a command that begins with a policy
begins : (names : Option (List (List ℕ))) (next : PolicyView → Stage Effect) (p : Option PolicyView)
    → ((under : PolicyView) → IsSuited texts command names (next under))
    → IsSuited texts (standing_of_policy p) names (policy_found p >>= next)
begins names next None each = inl (stop_unknown texts refl)
begins names next (Some under) each = each under

pub suited : (o : Option Invocation) → let task = task_of_command o in IsSuited texts task.standing task.names task.stage
unfolding asm_command prove_command check_command run_command ref_command demo_command upgrade_command host_command bpf_command script_of script_in policy_from assembled_of proved_of upgraded_of accepted_of accepted_code_of code_of compiled_of
suited None = inl (record { suits = refl; some = omega arith; in_range = omega arith })
suited (Some (asm policy input output version bound)) =
    begins (Some (input ∷ []))
    (λ under. assembled_of version bound under input >>= λ container. writing output container)
    (policy_of policy) (λ under.
    read (Some (input ∷ [])) input MAX_SOURCE source_too_long_line
    (λ b. assembled_in version bound under b >>= λ container. writing output container) (only input)
    (omega arith) (λ b.
    ends (Some (input ∷ [])) (λ container. writing output container)
    (assembled_in version bound under b)
    (assembled_in_end version bound under b) (λ container. refl)))
suited (Some (prove policy input output)) =
    begins (Some (input ∷ []))
    (λ under. proved_of under input >>= λ container. writing output container)
    (policy_of policy) (λ under.
    read (Some (input ∷ [])) input MAX_FILE container_too_long_line
    (λ b. proved_in under b >>= λ container. writing output container) (only input)
    (omega arith) (λ b.
    ends (Some (input ∷ [])) (λ container. writing output container) (proved_in under b)
    (proved_in_end under b) (λ container. refl)))
suited (Some (check (from_file name) file)) =
    let names = Some (name ∷ file ∷ []) in
    read names name MAX_POLICY_FILE policy_too_long_line
    (λ b. policy_in b >>= λ under. accepted_of under file >>= λ accepted. printing accepted_line)
    (first_of_two name file) (omega arith) (λ b.
    ends names (λ under. accepted_of under file >>= λ accepted. printing accepted_line)
    (policy_in b) (policy_in_end b) (λ under.
    read names file MAX_FILE container_too_long_line
    (λ b. accepted_in under b >>= λ accepted. printing accepted_line) (second_of_two name file)
    (omega arith) (λ b.
    ends names (λ accepted. printing accepted_line) (accepted_in under b)
    (accepted_in_end under b) (λ accepted. refl))))
suited (Some (check (named policy) file)) =
    begins (Some (file ∷ [])) (λ under. accepted_of under file >>= λ accepted. printing accepted_line)
    (policy_of policy) (λ under.
    read (Some (file ∷ [])) file MAX_FILE container_too_long_line
    (λ b. accepted_in under b >>= λ accepted. printing accepted_line) (only file) (omega arith)
    (λ b.
    ends (Some (file ∷ [])) (λ accepted. printing accepted_line) (accepted_in under b)
    (accepted_in_end under b) (λ accepted. refl)))
suited (Some (run policy file packets steps)) =
    let names = Some (file ∷ packets ∷ []) in
    begins names
    (λ under. accepted_code_of under file >>= λ code. packets_of packets >>= λ all. printing
    (result_lines under.kind (packet_result under code steps) 0 all)) (policy_of policy)
    (λ under.
    read names file MAX_FILE container_too_long_line
    (λ b. accepted_code_in under b >>= λ code. packets_of packets >>= λ all. printing
    (result_lines under.kind (packet_result under code steps) 0 all)) (first_of_two file packets)
    (omega arith) (λ b.
    ends names
    (λ code. packets_of packets >>= λ all. printing
    (result_lines under.kind (packet_result under code steps) 0 all)) (accepted_code_in under b)
    (accepted_code_in_end under b) (λ code.
    packets_of-fits names packets
    (λ all. printing (result_lines under.kind (packet_result under code steps) 0 all))
    (second_of_two file packets) (λ all. refl))))
suited (Some (ref policy file packets steps)) =
    let names = Some (file ∷ packets ∷ []) in
    begins names
    (λ under. code_of under file >>= λ code. packets_of packets >>= λ all. printing
    (result_lines under.kind (packet_result under code steps) 0 all)) (policy_of policy)
    (λ under.
    read names file MAX_FILE container_too_long_line
    (λ b. code_in under b >>= λ code. packets_of packets >>= λ all. printing
    (result_lines under.kind (packet_result under code steps) 0 all)) (first_of_two file packets)
    (omega arith) (λ b.
    ends names
    (λ code. packets_of packets >>= λ all. printing
    (result_lines under.kind (packet_result under code steps) 0 all)) (code_in under b)
    (code_end under b) (λ code.
    packets_of-fits names packets
    (λ all. printing (result_lines under.kind (packet_result under code steps) 0 all))
    (second_of_two file packets) (λ all. refl))))
suited (Some (demo n)) =
    begins (Some []) (λ under. demo_effect under n) (policy_of demo_policy)
    (λ under. ends-fits texts (Some []) refl (demo_effect under n) (demo_effect_end under n))
suited (Some (upgrade input output)) =
    read (Some (input ∷ [])) input MAX_FILE container_too_long_line
    (λ b. upgraded_in b >>= λ container. writing output container) (only input) (omega arith) (λ b.
    ends (Some (input ∷ [])) (λ container. writing output container) (upgraded_in b)
    (upgraded_in_end b) (λ container. refl))
suited (Some (host script)) =
    read None script MAX_SCRIPT script_too_long_line (λ b. script_in b >>= λ said. agents_from 0 said.loads >>= λ agents. printing (turn_lines agents 0 [] said.turns)) tt (omega arith) (λ b.
    behind None (λ said. agents_from 0 said.loads >>= λ agents. printing (turn_lines agents 0 [] said.turns)) (script_in b) (script_found-fits (parsed_script b)) (λ said.
    behind None (λ agents. printing (turn_lines agents 0 [] said.turns)) (agents_from 0 said.loads) (agents_from-fits 0 said.loads) (λ agents. refl)))
suited (Some (bpf input output)) =
    read (Some (input ∷ [])) input MAX_PROGRAM_FILE bpf_too_long_line (λ b. compiled_in b >>= λ container. writing output container) (only input) (omega arith) (λ b.
    ends (Some (input ∷ [])) (λ container. writing output container) (compiled_in b) (compiled_in_end b) (λ container. refl))
