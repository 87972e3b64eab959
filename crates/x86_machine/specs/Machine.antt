-- States of the machine, what each instruction does, steps and runs.
-- Intel 64 and IA-32 Architectures Software Developer's Manual, volume 1: section 3.4.1.1, "General-Purpose Registers in 64-Bit Mode", for
-- results of 32 and of 8 bits; volume 2: "Operation" of each instruction's page.
use Rattle.std.specs.Prelude.{◌≡◌, ℕ, zero, suc, ◌+◌, ◌-◌, ◌*◌, ◌%◌, ◌^◌, ◌<◌, Bool, if◌then◌else◌, List, ◌++◌, length, drop, slice_index, slice_set, Option, Some, None, ℤ, pos, negsuc, ◌+ℤ◌}
use Rattle.std.specs.Int.{cast_unsigned, w64}
use Rattle.word_ops.specs.Memory.{Memory, read, write, IsMemory}
use Rattle.word_ops.specs.Rights.{Rights, IsRights, allowed}
use Rattle.x86_words.specs.declared.operators.AluOp.{AluOp}
use Rattle.x86_words.specs.declared.operators.AluOp.TheVariants.{And}
use Rattle.x86_words.specs.declared.operators.ShiftOp.{ShiftOp}
use Rattle.x86_words.specs.declared.insn.X86Insn.{X86Insn}
use Rattle.x86_words.specs.declared.insn.X86Insn.TheVariants.{Mov, MovImm, MovZero, MovAbs, Load, Store, Alu, AluImm, AluLoad, Lea, LeaScaled, ShiftImm, ShiftCl, Not, Test, TestImm, Set, MovByte, MovTwo, MovFour, JumpIf, Jump, Ret, Nop}
use Rattle.x86_words.specs.Codes.{scale_factor}
use Rattle.x86_words.specs.Encoding.{length_of}
use Rattle.x86_words.specs.Decoding.{BeginsWith, insn_at_front}
use Rattle.x86_machine.specs.declared.flags.Flags.{Flags}
use Rattle.x86_machine.specs.declared.outcome.X86Step.{X86Step}
use Rattle.x86_machine.specs.declared.outcome.X86Step.TheVariants as steps
use Rattle.x86_machine.specs.declared.outcome.X86Outcome.{X86Outcome}
use Rattle.x86_machine.specs.declared.outcome.X86Outcome.TheVariants as outcomes
use Rattle.x86_machine.specs.Flags.{alu_flags, alu_regs, shift_word, cond_holds}

-- An offset into the code's bytes; the words of registers 0 to 15; the flags, or None where they are undefined; a memory of quadwords at
-- multiples of 8, and what may be loaded and stored. The code isn't in the memory.
pub record X86 : Type 0 where
  pub at : ℕ
  pub regs : List ℕ
  pub flags : Option Flags
  pub memory : Memory
  pub rights : Rights

-- Sixteen words, a memory of words, aligned spans. The offset is said apart.
pub record IsX86 (x : X86) : Type 0 where
  pub count : length x.regs ≡ 16
  pub words : (r : ℕ) → slice_index x.regs r < 2 ^ 64
  pub memory : IsMemory x.memory
  pub rights : IsRights x.rights

-- a signed number of 32 bits as a word: sign-extended
abbrev pub extended : ℤ → ℕ
extended z = cast_unsigned w64 z

-- the word with another low byte, which is a flag
abbrev pub with_low_byte : ℕ → Bool → ℕ
with_low_byte word b = word - word % 2 ^ 8 + (if b then 1 else 0)

-- a number that is an offset: one before the code isn't
abbrev pub code_offset : ℤ → Option ℕ
code_offset (pos n) = Some n
code_offset (negsuc n) = None

-- where a jump leads, which counts from the next instruction
abbrev pub jump_offset : ℕ → ℤ → Option ℕ
jump_offset next disp = code_offset (pos next +ℤ disp)

-- What is done at the state x.
module _ (x : X86) where
  -- no step
  abbrev pub is_stuck : X86Step × X86
  is_stuck = (steps.Stuck, x)

  -- a register's word
  abbrev pub reg_word : ℕ → ℕ
  reg_word r = slice_index x.regs r

  -- base + disp, modulo 2^64
  abbrev pub disp_address : ℕ → ℤ → ℕ
  disp_address base disp = (reg_word base + extended disp) % 2 ^ 64

  -- the quadword at an address, if it may be loaded
  abbrev pub loads : ℕ → (ℕ → X86Step × X86) → X86Step × X86
  loads a go = if allowed x.rights.reads a then go (read x.memory a) else is_stuck

  -- by the flags, if they are defined
  abbrev pub asks : Option Flags → (Flags → X86Step × X86) → X86Step × X86
  asks None go = is_stuck
  asks (Some f) go = go f

  -- to an offset, if the target is one
  abbrev pub jumps : Option ℕ → X86Step × X86
  jumps None = is_stuck
  jumps (Some offset) = (steps.Moved, record x { at = offset })

  -- The rest goes on at `next`, the offset after the instruction.
  module _ (next : ℕ) where
    -- a register gets a word
    abbrev pub puts : ℕ → ℕ → X86Step × X86
    puts to word = (steps.Moved, record x { at = next; regs = slice_set x.regs to word })

    -- the quadword at an address gets a word, if it may be stored
    abbrev pub stores : ℕ → ℕ → X86Step × X86
    stores a word = if allowed x.rights.writes a then (steps.Moved, record x { at = next; memory = write x.memory a word }) else is_stuck

    -- an operator on a register and a word
    abbrev pub operates : AluOp → ℕ → ℕ → X86Step × X86
    operates op to b = (steps.Moved, record x { at = next; regs = alu_regs op x.regs to b; flags = Some (alu_flags op (reg_word to) b) })

    -- a shift by a count: the flags depend on it, and are left undefined
    abbrev pub shifts : ShiftOp → ℕ → ℕ → X86Step × X86
    shifts op to count = (steps.Moved, record x { at = next; regs = slice_set x.regs to (shift_word op (reg_word to) count); flags = None })

    -- the flags of the bitwise and
    abbrev pub tests : ℕ → ℕ → X86Step × X86
    tests a b = (steps.Moved, record x { at = next; flags = Some (alu_flags And a b) })

    -- What the instruction does.
    abbrev pub x86_outcome : X86Insn → X86Step × X86
    -- "MOV"
    x86_outcome (Mov to from) = puts to (reg_word from)
    x86_outcome (MovImm to imm) = puts to (extended imm)
    x86_outcome (MovZero to imm) = puts to imm
    x86_outcome (MovAbs to imm) = puts to imm
    x86_outcome (Load to base disp) = loads (disp_address base disp) (puts to)
    x86_outcome (Store base disp from) = stores (disp_address base disp) (reg_word from)
    -- "ADD", "OR", "AND", "SUB", "XOR", "CMP"
    x86_outcome (Alu op to from) = operates op to (reg_word from)
    x86_outcome (AluImm op to imm) = operates op to (extended imm)
    x86_outcome (AluLoad op to base disp) = loads (disp_address base disp) (operates op to)
    -- "LEA": flags stay
    x86_outcome (Lea to base disp) = puts to (disp_address base disp)
    x86_outcome (LeaScaled to base index scale) = puts to ((reg_word base + scale_factor scale * reg_word index) % 2 ^ 64)
    -- "SAL/SAR/SHL/SHR": the count is taken modulo 64
    x86_outcome (ShiftImm op to count) = shifts op to count
    x86_outcome (ShiftCl op to) = shifts op to (reg_word 1 % 64)
    -- "NOT": flags stay; "TEST"
    x86_outcome (Not to) = puts to (2 ^ 64 - 1 - reg_word to)
    x86_outcome (Test left right) = tests (reg_word left) (reg_word right)
    x86_outcome (TestImm left imm) = tests (reg_word left) (extended imm)
    -- "SETcc"; "MOVZX"; "MOV" of 32 bits, whose result is zero-extended
    x86_outcome (Set cond to) = asks x.flags (λ f. puts to (with_low_byte (reg_word to) (cond_holds cond f)))
    x86_outcome (MovByte to from) = puts to (reg_word from % 2 ^ 8)
    x86_outcome (MovTwo to from) = puts to (reg_word from % 2 ^ 16)
    x86_outcome (MovFour to from) = puts to (reg_word from % 2 ^ 32)
    -- "Jcc", "JMP"
    x86_outcome (JumpIf cond disp) = asks x.flags (λ f. jumps (if cond_holds cond f then jump_offset next disp else Some next))
    x86_outcome (Jump disp) = jumps (jump_offset next disp)
    -- "RET": what it does to rsp and where it goes is the caller's side; "NOP"
    x86_outcome Ret = (steps.Left, x)
    x86_outcome Nop = (steps.Moved, record x { at = next })

-- The instruction stands in the code at the offset.
pub record StandsAtOffset (code : List ℕ) (at : ℕ) (i : X86Insn) : Type 0 where
  pub before : List ℕ
  pub after : List ℕ
  pub place : length before ≡ at
  pub whole : code ≡ before ++ after
  pub begins : BeginsWith after i

-- the instruction at an offset, if any
abbrev pub fetched : List ℕ → ℕ → Option X86Insn
fetched code at = insn_at_front (drop at code)

-- one step, given the instruction
abbrev pub x86_step_at : Option X86Insn → X86 → X86Step × X86
x86_step_at None x = (steps.Stuck, x)
x86_step_at (Some i) x = x86_outcome x (x.at + length_of i) i

-- One step of the code.
abbrev pub x86_step : List ℕ → X86 → X86Step × X86
x86_step code x = x86_step_at (fetched code x.at) x

-- the run that begins with a step, and goes on where that moved
abbrev pub x86_ends_with : X86Step → X86 → X86Outcome × X86 → X86Outcome × X86
x86_ends_with steps.Moved y on = on
x86_ends_with steps.Left y on = (outcomes.Left, y)
x86_ends_with steps.Stuck y on = (outcomes.Stuck, y)

-- A run of at most so many steps, a return among them.
abbrev pub x86_run : List ℕ → ℕ → X86 → X86Outcome × X86
x86_run code zero x = (outcomes.OutOfSteps, x)
x86_run code (suc n) x = let step = x86_step code x in x86_ends_with step.0 step.1 (x86_run code n step.1)
