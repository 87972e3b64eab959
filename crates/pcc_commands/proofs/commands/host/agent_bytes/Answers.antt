use Rattle.std.proofs.Common.{ℕ, List, Ok, Err, Vec, Global, refl, subst, string_bytes, slice_index, ◌<◌}
use Rattle.file_port.specs.Events.{whole, missing, too_long, failed, no_memory}
use Rattle.pcc_lines.specs.Agents.{agent_line}
use Rattle.pcc_stages.specs.Stage.{gives}
use Rattle.pcc_stages.specs.declared.files.TheConstants.{MAX_FILE}
use Rattle.pcc_stages.specs.declared.refused_line.RefusedLine.TheVariants.{OfAgent}
use Rattle.pcc_stages.specs.declared.stops.Stop.TheVariants.{Refused, MissingOfScript, ReadFaultOfScript, Memory}
use Rattle.pcc_stages.specs.Stages.Common.{refused}
use Rattle.pcc_stages.specs.Stops.{agent_text}
use Rattle.pcc_commands.proofs.AgentLemmas.{read_named}
use Rattle.pcc_commands.proofs.commands.host.agent_bytes.Goals as goal

pub returns-in-Bytes : goal.returns-in-Bytes
returns-in-Bytes g c =
    let bytes = c.in-Bytes.bytes in
    read_named (λ (v : Vec ℕ Global). v.items) c.as_str.result.now (string_bytes c.args.name) MAX_FILE (refused (agent_line c.args.agent (agent_text c.args.too_long))) gives (whole bytes.items) _ _ _ _ (Ok bytes)
    c.as_str.ensures.value c.in-Bytes.ensures.logged c.in-Bytes.ensures.meaning (subst (λ (b : List ℕ). (i : ℕ) → slice_index b i < 256) c.deref.ensures.value c.octets.ensures) refl tt

pub returns-in-Missing : goal.returns-in-Missing
returns-in-Missing g c =
    read_named (λ (v : Vec ℕ Global). v.items) c.as_str.result.now (string_bytes c.args.name) MAX_FILE (refused (agent_line c.args.agent (agent_text c.args.too_long))) gives missing _ _ _ _ (Err (MissingOfScript c.args.name))
    c.as_str.ensures.value c.in-Missing.ensures.logged c.in-Missing.ensures.meaning tt refl tt

pub returns-in-TooLong : goal.returns-in-TooLong
returns-in-TooLong g c =
    read_named (λ (v : Vec ℕ Global). v.items) c.as_str.result.now
    (string_bytes c.args.name) MAX_FILE (refused
    (agent_line c.args.agent (agent_text c.args.too_long))) gives too_long _ _ _ _
    (Err (Refused (OfAgent c.args.agent c.args.too_long)))
    c.as_str.ensures.value c.in-TooLong.ensures.logged c.in-TooLong.ensures.meaning tt refl tt

pub returns-in-Failed : goal.returns-in-Failed
returns-in-Failed g c =
    read_named (λ (v : Vec ℕ Global). v.items) c.as_str.result.now (string_bytes c.args.name) MAX_FILE (refused (agent_line c.args.agent (agent_text c.args.too_long))) gives failed _ _ _ _ (Err (ReadFaultOfScript c.args.name))
    c.as_str.ensures.value c.in-Failed.ensures.logged c.in-Failed.ensures.meaning tt refl tt

pub returns : goal.returns
returns g c =
    read_named (λ (v : Vec ℕ Global). v.items) c.as_str.result.now (string_bytes c.args.name) MAX_FILE (refused (agent_line c.args.agent (agent_text c.args.too_long))) gives no_memory _ _ _ _ (Err Memory)
    c.as_str.ensures.value c.in-Memory.ensures.logged c.in-Memory.ensures.meaning tt tt tt
