-- What an instruction does, as a value of six kinds: a register gets a word that is computed, or one from memory, at an address or around it;
-- memory gets one; a branch; a return.
-- Machine, condition and hosts go by the kinds. Alpha Architecture Handbook, the instruction descriptions.
use Rattle.std.specs.Prelude.{ℕ, ◌+◌, ◌<◌, Option, Some, None, ℤ, pos, ◌*ℤ◌}
use Rattle.word_ops.specs.declared.Op.{Op}
use Rattle.alpha_words.specs.declared.insn.Rhs.{Rhs}
use Rattle.alpha_words.specs.declared.conditions.Cond.{Cond}
use Rattle.alpha_words.specs.declared.insn.Insn.{Insn}
use Rattle.alpha_words.specs.declared.insn.Format.{Format}
use Rattle.alpha_words.specs.declared.insn.Format.TheVariants as F
use Rattle.alpha_words.specs.declared.memory.MemoryOp.{MemoryOp}
use Rattle.alpha_words.specs.declared.memory.MemoryOp.TheVariants.{Lda, Ldah, Ldq, LdqU, Stq}
use Rattle.alpha_words.specs.Formats.{format_of}
use Rattle.alpha_words.specs.Encoding.{IsRhs, HasBits}

-- a word that is computed: the sum of a register and a displacement in bytes, or what an operator gives of a register and a second operand
pub data Computed : Type 0 where
  Sum : ℕ → ℤ → Computed
  Applied : Op → ℕ → Rhs → Computed

-- when a branch is taken: in any case, or where the condition holds of a register
pub data Test : Type 0 where
  Always : Test
  When : Cond → ℕ → Test

-- A register gets a computed word; a register gets the quadword at a register and a displacement, or the one that holds the byte there; the
-- quadword gets a register's word; to the target where the test passes, else to the next instruction; the run ends.
pub data Action : Type 0 where
  Compute : ℕ → Computed → Action
  Load : ℕ → ℕ → ℤ → Action
  LoadAround : ℕ → ℕ → ℤ → Action
  Store : ℕ → ℕ → ℤ → Action
  Branching : Test → Action
  Return : Action

-- what an instruction of the memory format does with these registers and this displacement
abbrev pub memory_action : MemoryOp → ℕ → ℕ → ℤ → Action
memory_action Lda ra rb disp = Compute ra (Sum rb disp)
memory_action Ldah ra rb disp = Compute ra (Sum rb (disp *ℤ pos 65536))
memory_action LdqU ra rb disp = LoadAround ra rb disp
memory_action Ldq ra rb disp = Load ra rb disp
memory_action Stq ra rb disp = Store ra rb disp

-- the same of each format
abbrev pub format_action : Format → Action
format_action (F.Memory op ra rb disp) = memory_action op ra rb disp
format_action (F.Operate op ra rhs rc) = Compute rc (Applied op ra rhs)
format_action (F.Branch cond ra disp) = Branching (When cond ra)
format_action (F.Br disp) = Branching Always
format_action F.Ret = Return

-- what the instruction does; where a branch leads is said in Flow (`jump_of`)
abbrev pub action_of : Insn → Action
action_of insn = format_action (format_of insn)

-- registers, literals of eight bits, and displacements of 32 bits
abbrev pub HasOperands : Action → Type 0
HasOperands (Compute to (Sum base disp)) = (base < 32) × HasBits 31 disp
HasOperands (Compute to (Applied op left right)) = (left < 32) × IsRhs right
HasOperands (Load to base disp) = (base < 32) × HasBits 31 disp
HasOperands (LoadAround to base disp) = (base < 32) × HasBits 31 disp
HasOperands (Store from base disp) = (base < 32) × HasBits 31 disp × (from < 32)
HasOperands (Branching Always) = Unit {0}
HasOperands (Branching (When cond reg)) = reg < 32
HasOperands Return = Unit {0}

-- the index after an action at i, where it may go on there
abbrev pub next_after : ℕ → Action → Option ℕ
next_after i (Branching Always) = None
next_after i Return = None
next_after i e = Some (i + 1)
