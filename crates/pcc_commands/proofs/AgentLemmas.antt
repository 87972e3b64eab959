-- Stages whose refusals are told of an agent.
use Rattle.std.proofs.Common.{◌≡◌, ℕ, ◌≤◌, List, [], ◌∷◌, ◌++◌, length, Option, Some, None, is_some, Result, refl, sym, ap, ◌∙◌, subst}
use Rattle.std.specs.Prelude.{option_map}
use mathlib.Core.Path.{fun_ext}
use Rattle.file_port.specs.Events.{Given, Event, was_read}
use Rattle.file_port.specs.Files.{FilesState, Reads}
use Rattle.policy_set.specs.Views.{PolicyView}
use Rattle.reference_machine.specs.Starts.{StartView}
use Rattle.packet_store.specs.declared.reader.TheConstants.{MAX_PACKET}
use Rattle.packet_store.specs.PolicyStarts.{start_from}
use Rattle.pcc_gate.specs.declared.refusal.Refusal.{Refusal}
use Rattle.agent_host.specs.Agents.{base_of}
use Rattle.pcc_lines.specs.Agents.{agent_line, short_line}
use Rattle.pcc_stages.specs.Exits.{Exit}
use Rattle.pcc_stages.specs.Stage.{Stage, stops, gives, reads, ◌>>=◌, went_on}
use Rattle.pcc_stages.specs.Runs.{AreOctets}
use Rattle.pcc_stages.specs.Texts.{texts}
use Rattle.pcc_stages.specs.Stages.Common.{refused}
use Rattle.pcc_stages.specs.Stops.{refused_text, end_of}
use Rattle.pcc_stages.specs.Answers.{StopsAs, GivesPure, IsCleanFor, Gives}
use Rattle.pcc_stages.specs.declared.refused_line.RefusedLine.{RefusedLine}
use Rattle.pcc_stages.specs.declared.refused_line.RefusedLine.TheVariants as refused_line
use Rattle.pcc_stages.specs.declared.stops.Stop.{Stop}
use Rattle.pcc_stages.specs.declared.stops.Stop.TheVariants as stop
use Rattle.pcc_stages.proofs.StageLemmas.{read_gives}
use Rattle.pcc_commands.specs.Stages.Hosting.{told_of, for_agent, unless_short}
use Rattle.pcc_commands.specs.Inside.Shows.{IsOfGate}
use Rattle.pcc_commands.specs.Inside.Standing.{HasStart}

-- a stage behind another
pub for-bind : {A B : Type 0} (a : ℕ) (s : Stage A) (next : A → Stage B) → for_agent a (s >>= next) ≡ (for_agent a s >>= λ x. for_agent a (next x))
for-bind a (stops exit) next = refl
for-bind a (gives x) next = refl
for-bind a (reads name max more on) next = ap (reads name max (told_of a more)) (fun_ext (λ b. for-bind a (on b) next))

-- a stage that gives a value
pub told-gives : {A : Type 0} (a : ℕ) (s : Stage A) (x : A) → s ≡ gives x → for_agent a s ≡ gives x
told-gives a s x is = ap (for_agent a) is

told-at : {A : Type 0} (a : ℕ) (s : Stage A) (end : Option Exit) → StopsAs s end → StopsAs (for_agent a s) (option_map (told_of a) end)
told-at a s (Some exit) is = ap (for_agent a) is
told-at a s None is = tt

-- a stage that stops
pub told-stops : {A : Type 0} (a : ℕ) (s : Stage A) (why told : Stop) → StopsAs s (end_of why) → end_of told ≡ option_map (told_of a) (end_of why) → StopsAs (for_agent a s) (end_of told)
told-stops a s why told is e = subst (StopsAs (for_agent a s)) (sym e) (told-at a s (end_of why) is)

-- a stop of the gate that is no refusal is want of memory
pub told-memory : (a : ℕ) (why : Stop) → IsOfGate why
    → ((line : RefusedLine) → why ≡ stop.Refused line → ⊥)
    → None ≡ option_map (told_of a) (end_of why)
told-memory a (stop.Refused line) gate other = absurd (other line refl)
told-memory a stop.Memory gate other = refl
told-memory a why gate other = absurd gate

-- the gate's only line is that of a refusal
pub told-line : (a : ℕ) (line : RefusedLine) → IsOfGate (stop.Refused line)
    → ((r : Refusal) → line ≡ refused_line.Container r → ⊥)
    → None ≡ Some (told_of a (refused (refused_text line)))
told-line a (refused_line.Container r) gate other = absurd (other r refl)
told-line a line gate other = absurd gate

-- one read of a name that the code has as a text of its own
pub read_named : {A C : Type 0} (view : C → A) (said name : List ℕ) (max : ℕ) (more : Exit) (on : List ℕ → Stage A) (given : Given) (e e' : List Event) (f g : FilesState) (r : Result C Stop) → said ≡ name
    → e' ≡ e ++ was_read said max given ∷ [] → Reads said max f g given → AreOctets given → GivesPure view (went_on texts name more on given) r → IsCleanFor (was_read name max given ∷ []) r
    → Gives view (reads name max more on) e e' f g r
read_named view said name max more on given e e' f g r is logged read octets goes clean =
    read_gives view name max more on given e e' f g r (subst (λ n. e' ≡ e ++ was_read n max given ∷ []) is logged) (subst (λ n. Reads n max f g given) is read) octets goes clean

-- ---- a packet

module _ (a base : ℕ) (policy : PolicyView) (packet : List ℕ) (is : base ≡ base_of a) where
  start_here : (o : Option StartView) → o ≡ start_from base policy.kind packet → start_from
      (base_of a) policy.kind packet ≡ o
  start_here o e = ap (λ b. start_from b policy.kind packet) (sym is) ∙ sym e

  pub packet-short : None ≡ start_from base policy.kind packet → for_agent a
      (unless_short packet (start_from (base_of a) policy.kind packet)) ≡ stops
      (refused (agent_line a short_line))
  packet-short e = ap (λ (o : Option StartView). for_agent a (unless_short packet o)) (start_here None e)

  pub packet-gives : (setup : StartView) (items : List ℕ) → Some setup
      ≡ start_from base policy.kind packet → items ≡ packet
      → for_agent a (unless_short packet (start_from (base_of a) policy.kind packet)) ≡ gives items
  packet-gives setup items e same = ap (λ (o : Option StartView). for_agent a (unless_short packet o)) (start_here (Some setup) e) ∙ ap gives (sym same)

  pub packet-starts : (setup : StartView) (items : List ℕ) → Some setup
      ≡ start_from base policy.kind packet → items ≡ packet → length packet ≤ MAX_PACKET
      → HasStart a policy items
  packet-starts setup items e same short = subst (HasStart a policy) (sym same) (record { short = short; starts = ap (λ (o : Option StartView). is_some o) (start_here (Some setup) e) })
