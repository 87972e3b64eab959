-- Stages that read a script and what it loads.
use Rattle.std.specs.Prelude.{ℕ, suc, ◌==◌, if◌then◌else◌, List, [], ◌∷◌, Option, Some, None, Result, Ok, Err}
use Rattle.alpha_words.specs.declared.insn.Insn.{Insn}
use Rattle.policy_set.specs.Views.{PolicyView}
use Rattle.reference_machine.specs.Starts.{StartView}
use Rattle.packet_store.specs.PolicyStarts.{start_from}
use Rattle.agent_script.specs.declared.fault.ScriptFlaw.{ScriptFlaw}
use Rattle.agent_script.specs.declared.script.TheConstants.{MAX_SCRIPT}
use Rattle.agent_script.specs.Names.{script_flaw_name}
use Rattle.agent_script.specs.Statements.{LoadView}
use Rattle.agent_script.specs.Scripts.{ScriptView, parsed_script}
use Rattle.agent_host.specs.Agents.{base_of}
use Rattle.pcc_lines.specs.Agents.{agent_line, no_packet_line, short_line}
use Rattle.pcc_lines.specs.Fixed.{script_too_long_line}
use Rattle.pcc_lines.specs.Scripts.{script_fault_line}
use Rattle.pcc_stages.specs.Exits.{Exit}
use Rattle.pcc_stages.specs.Stage.{Stage, stops, gives, reads, ◌>>=◌}
use Rattle.pcc_stages.specs.Stages.Common.{refused, policy_named}
use Rattle.pcc_stages.specs.Stages.Packets.{packets_of}
use Rattle.pcc_commands.specs.Stages.Judging.{accepted_code_of}

-- ---- the script

-- what was read as a script
abbrev pub script_found : Result ScriptView (ℕ × ScriptFlaw) → Stage ScriptView
script_found (Ok script) = gives script
script_found (Err fault) = stops (refused (script_fault_line fault.0 (script_flaw_name fault.1)))

-- what the text says as a script
unfoldable pub script_in : List ℕ → Stage ScriptView
script_in text = script_found (parsed_script text)

-- the text of the script's file of the name
abbrev pub script_text_of : List ℕ → Stage (List ℕ)
script_text_of name = reads name MAX_SCRIPT (refused script_too_long_line) gives

-- what the file of the name says as a script
unfoldable pub script_of : List ℕ → Stage ScriptView
script_of name = do
  text ← script_text_of name
  script_in text

-- ---- its agents

-- an agent that is to be loaded: its policy, its code and its packet
pub record Member : Type 0 where
  pub policy : PolicyView
  pub code : List Insn
  pub packet : List ℕ

-- a packet that has a start, or is short
abbrev pub unless_short : List ℕ → Option StartView → Stage (List ℕ)
unless_short packet None = stops (refused short_line)
unless_short packet (Some setup) = gives packet

-- the first of these packets, where it has a start in the part of agent a
abbrev pub first_packet : ℕ → PolicyView → List (List ℕ) → Stage (List ℕ)
first_packet a policy [] = stops (refused no_packet_line)
first_packet a policy (packet ∷ packets) =
    unless_short packet (start_from (base_of a) policy.kind packet)

-- the first packet of the file of the name
unfoldable pub packet_of : ℕ → PolicyView → List ℕ → Stage (List ℕ)
packet_of a policy name = do
  packets ← packets_of name
  first_packet a policy packets

-- what a load comes to as that of agent a: the policy, the container with all that may be wrong with it, and the packet file with
-- all that may be wrong with it
unfoldable pub load_of : ℕ → LoadView → Stage Member
load_of a one = do
  policy ← policy_named one.policy
  code ← accepted_code_of policy one.file
  packet ← packet_of a policy one.packets
  gives (record { policy = policy; code = code; packet = packet })

-- a refusal as it is told of agent a; any other exit stays
abbrev pub told_of : ℕ → Exit → Exit
told_of a exit = if exit.status == 1 then refused (agent_line a exit.text) else exit

-- the stage, with what it refuses told of agent a
abbrev pub for_agent : {A : Type 0} → ℕ → Stage A → Stage A
for_agent a (stops exit) = stops (told_of a exit)
for_agent a (gives x) = gives x
for_agent a (reads name max more on) = reads name max (told_of a more) (λ b. for_agent a (on b))

-- the agents of loads in order, numbered from a on
abbrev pub agents_from : ℕ → List LoadView → Stage (List Member)
agents_from a [] = gives []
agents_from a (one ∷ loads) = for_agent a (load_of a one) >>= λ agent. agents_from (suc a) loads >>= λ agents. gives (agent ∷ agents)
