-- What a host holds of an agent, and which rights fit it. A host keeps no rights: it tests no
-- address.
use Rattle.std.specs.Prelude.{ℕ, ◌+◌, ◌*◌, ◌-◌, ◌/◌, List}
use Rattle.word_ops.specs.Rights.{Rights}
use Rattle.reference_machine.specs.declared.layout.TheConstants.{ARENA, QUADWORDS}
use Rattle.reference_machine.specs.Arena.{placed_words}
use Rattle.reference_machine.specs.Starts.{StartView, start_regs}
use Rattle.vcgen.specs.Conditions.{AnnotatedCode}
use Rattle.term_table.specs.Table.{id_trees}
use Rattle.vcgen.specs.Encoded.{annotated}
use Rattle.pcc_gate.specs.First.{formulas}
use Rattle.pcc_gate.specs.Views.{AcceptedView}
use Rattle.host_steps.specs.Parts.{PartView, PartFits}
use Rattle.agent_host.specs.declared.phase.Phase.{Phase}
use Rattle.agent_host.specs.declared.phase.Phase.TheVariants as phases

-- Accepted code, where its part of the arena begins, the index of its next instruction, the
-- registers, the quadwords of the part,
-- how many of them are the region, and whether it may run.
pub record HostedView : Type 0 where
  pub accepted : AcceptedView
  pub base : ℕ
  pub index : ℕ
  pub regs : List ℕ
  pub words : List ℕ
  pub region : ℕ
  pub phase : Phase

-- where the part of agent a begins: parts of 8,194 quadwords stand behind each other from 65,536 on
abbrev pub base_of : ℕ → ℕ
base_of a = ARENA + 8 * QUADWORDS * a

-- the agent's part of the arena
abbrev pub part_of : HostedView → PartView
part_of m = record { base = m.base; index = m.index; regs = m.regs; words = m.words }

-- accepted code under its policy and its bound, with the formulas of the invariants that it shows
abbrev pub annotated_code : AcceptedView → AnnotatedCode
annotated_code a = annotated a.policy a.bound a.code (formulas (id_trees a.table a.invs))

-- Rights fit an agent: their spans lie in its part, and what has to hold at its index is true under
-- them, its registers and its memory, so many steps being left, which are no more than its bound.
abbrev pub RightsFitAgent : HostedView → ℕ → Rights → Type 0
RightsFitAgent m left rights = PartFits (annotated_code m.accepted) left (part_of m) rights

-- some rights fit, with some number of steps left
abbrev pub SomeRightsFit : HostedView → Type 0
SomeRightsFit m = (left : ℕ) × (rights : Rights) × RightsFitAgent m left rights

-- an agent at a start
abbrev pub agent_at : HostedView → StartView → HostedView
agent_at m setup = record m {
  index = 0;
  regs = start_regs setup;
  words = placed_words ((setup.at - m.base) / 8) setup.bytes;
  region = setup.region;
  phase = phases.Ready;
}
