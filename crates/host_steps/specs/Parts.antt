-- An agent's part of an arena, which rights fit it, and its runs. A host keeps no rights: it tests
-- no access.
use Rattle.std.specs.Prelude.{◌≡◌, ℕ, ◌-◌, ◌/◌, ◌≤◌, List, Option, Some, IsSome}
use Rattle.word_ops.specs.Rights.{Rights}
use Rattle.alpha_cfg.specs.Machine.{State, run_of}
use Rattle.reference_machine.specs.Arena.{map_of, placed_words}
use Rattle.reference_machine.specs.Agents.{AreInArena}
use Rattle.reference_machine.specs.Starts.{StartView, start_regs}
use Rattle.vcgen.specs.Conditions.{AnnotatedCode}
use Rattle.vcgen.specs.Safety.{IsReturn, Holds, all_steps, steps_after}
use Rattle.host_steps.specs.declared.ended.Ended.{Ended}
use Rattle.host_steps.specs.declared.ended.Ended.TheVariants as ended
use Rattle.host_steps.specs.Stepping.{arena_state}
use Rattle.host_steps.specs.RunEnds.{outcome_of}

-- where its quadwords begin, the index of its next instruction, its registers and its quadwords
pub record PartView : Type 0 where
  pub base : ℕ
  pub index : ℕ
  pub regs : List ℕ
  pub words : List ℕ

-- its state under rights
abbrev pub part_state : PartView → Rights → State
part_state p rights =
    record { index = p.index; regs = p.regs; memory = map_of p.base p.words; rights = rights }

-- its state where all of the part is allowed
abbrev pub open_state : PartView → State
open_state p = arena_state p.base p.index p.regs p.words

-- a part at a start
abbrev pub part_at_start : ℕ → StartView → PartView
part_at_start base setup = record {
  base = base;
  index = 0;
  regs = start_regs setup;
  words = placed_words ((setup.at - base) / 8) setup.bytes;
}

-- the rights of a start
abbrev pub rights_of : StartView → Rights
rights_of setup = record { reads = setup.reads; writes = setup.writes }

-- Rights fit a part: their spans lie in it, and what has to hold at its index is true under them,
-- so many steps being left, which are no more than the bound.
pub record PartFits (c : AnnotatedCode) (left : ℕ) (p : PartView) (rights : Rights) : Type 0 where
  pub reads : AreInArena p.base rights.reads
  pub writes : AreInArena p.base rights.writes
  pub few : left ≤ all_steps c.bound
  pub holds : Holds c (part_state p rights) left

-- a run that tests no access
pub record IsPartRun (c : AnnotatedCode) (p : PartView) (n : ℕ) (result : Ended)
    (q : PartView) : Type 0 where
  pub base : q.base ≡ p.base
  pub run : (outcome_of result, open_state q) ≡ run_of c.code n (open_state p)

-- Under these rights, so many steps being left, it is the run of the machine that tests each
-- access; where it was out of steps, they fit again, its n steps fewer being left; where steps are
-- bounded and it might make all that were left, it has returned.
pub record IsPartRunUnder (c : AnnotatedCode) (p : PartView) (n left : ℕ) (result : Ended)
    (q : PartView) (rights : Rights) : Type 0 where
  pub same : run_of c.code n (part_state p rights) ≡ (outcome_of result, part_state q rights)
  pub fits : result ≡ ended.OutOfSteps → PartFits c (steps_after c.bound n left) q rights
  pub returns : IsSome c.bound → left ≤ n → IsReturn (outcome_of result)

-- where steps are bounded, a run with a budget of at least the bound has returned
abbrev pub ReturnedInBound : Option ℕ → ℕ → Ended → Type 0
ReturnedInBound bound budget result =
    (most : ℕ) → bound ≡ Some most → most ≤ budget → IsReturn (outcome_of result)
