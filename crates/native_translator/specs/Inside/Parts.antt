-- Parts of native code as they are made: places as registers are read, blocks, and where they begin.
use Rattle.std.specs.Prelude.{◌≡◌, ℕ, suc, ◌^◌, ◌<◌, ◌≤◌, Bool, List, [], ◌++◌, length, slice_index, Option, Some, None}
use Rattle.std.specs.List.{All}
use Rattle.alpha_words.specs.declared.insn.Insn.{Insn}
use Rattle.alpha_cfg.specs.Actions.{action_of}
use Rattle.alpha_cfg.specs.Flow.{jump_of}
use Rattle.x86_words.specs.declared.insn.X86Insn.{X86Insn}
use Rattle.native_steps.specs.Places.{Places, IsSomewhere, RAX, RCX}
use Rattle.x86_words.specs.declared.operators.X86Cond.{X86Cond}
use Rattle.native_code.specs.declared.insn.NativeInsn.{NativeInsn}
use Rattle.native_code.specs.Lives.{Lean, form_at}
use Rattle.native_code.specs.Blocks.{RDX, enter, plain, end_code, form_code, joined_code, form_end}
use Rattle.native_code.specs.Layout.{code_length, whole_code, offset_of, LeadsBelow}

-- Registers that are somewhere in the first places are somewhere in the second ones.
abbrev pub KeepsPlaces : Places → Places → Type 0
KeepsPlaces p q = (r : ℕ) → IsSomewhere p r → IsSomewhere q r

-- what brings the arguments into their places
abbrev pub arguments_code : Places → Lean → List X86Insn
arguments_code p lean = enter p lean 18 RDX ++ (enter p lean 16 RAX ++ enter p lean 17 RCX)

-- the jump of a branch that is joined, if there is an instruction
abbrev pub joined_at : X86Cond → ℕ → Option Insn → List NativeInsn
joined_at cond i None = []
joined_at cond i (Some insn) = joined_code cond (jump_of i insn)

module _ (p : Places) where
  -- what follows the whole sequence of an instruction, if there is one
  abbrev pub whole_end_at : ℕ → Option Insn → List NativeInsn
  whole_end_at i None = []
  whole_end_at i (Some insn) = end_code p (action_of insn) (jump_of i insn)

  module _ (lean : Lean) where
    -- its sequence, by its form
    abbrev pub sequence_at : ℕ → Option Insn → List NativeInsn
    sequence_at i None = []
    sequence_at i (Some insn) = plain (form_code p (form_at lean i) (action_of insn))

    -- what follows it in its block
    abbrev pub end_at : ℕ → Option Insn → List NativeInsn
    end_at i None = []
    end_at i (Some insn) = form_end p (form_at lean i) (action_of insn) (jump_of i insn)

-- All of native code, and where its blocks begin.
pub record AreBlocks (p : Places) (lean : Lean) (metered : Bool) (code : List Insn) (insns : List NativeInsn) (starts : List ℕ) : Type 0 where
  pub whole : insns ≡ whole_code p lean metered code
  pub count : length starts ≡ suc (length code)
  pub begins : (k : ℕ) → k ≤ length code → slice_index starts k ≡ offset_of p lean metered code k

-- Each jump leads to one of the blocks, and each displacement fits.
pub record FitsLayout (insns : List NativeInsn) (starts : List ℕ) : Type 0 where
  pub leads : All (LeadsBelow (length starts)) insns
  pub near : (k : ℕ) → slice_index starts k < 2 ^ 30
  pub short : code_length insns < 2 ^ 30
