-- Instructions that are done one after the other, wherever they stand.
use Rattle.std.specs.Prelude.{◌≡◌, ℕ, ◌+◌, Bool, true, false, List, [], ◌∷◌, Option, Some, None}
use Rattle.x86_words.specs.declared.insn.X86Insn.{X86Insn}
use Rattle.x86_words.specs.declared.insn.X86Insn.TheVariants.{JumpIf, Jump, Ret}
use Rattle.x86_words.specs.Encoding.{length_of, IsX86Insn}
use Rattle.x86_machine.specs.declared.outcome.X86Step.{X86Step}
use Rattle.x86_machine.specs.declared.outcome.X86Step.TheVariants as steps
use Rattle.x86_machine.specs.Machine.{X86, x86_outcome}

-- what follows a step that moved
abbrev pub after_move : X86Step → X86 → (X86 → Option X86) → Option X86
after_move steps.Moved x go = go x
after_move _ x go = None

-- The state after all of the instructions, if each moves.
abbrev pub x86_straight : List X86Insn → X86 → Option X86
x86_straight [] x = Some x
x86_straight (i ∷ rest) x = let step = x86_outcome x (x.at + length_of i) i in after_move step.0 step.1 (x86_straight rest)

-- the bytes that they take
abbrev pub total_length : List X86Insn → ℕ
total_length [] = 0
total_length (i ∷ rest) = length_of i + total_length rest

-- whether an instruction that moves goes on at the next one: all but jumps and `ret`
abbrev pub falls_through : X86Insn → Bool
falls_through (JumpIf cond disp) = false
falls_through (Jump disp) = false
falls_through Ret = false
falls_through _ = true

-- The instruction has bytes, and goes on at the next one.
pub record IsStraight (i : X86Insn) : Type 0 where
  pub insn : IsX86Insn i
  pub on : falls_through i ≡ true
