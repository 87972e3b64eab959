-- What native code consists of: an entry, a block for each Alpha instruction, and an end for runs that are out of fuel.
-- System V Application Binary Interface, AMD64 Architecture Processor Supplement, section 3.2.1 and figure 3.4: which registers a function
-- leaves as they were; section 3.2.3: in which registers arguments and results are passed.
use Rattle.std.specs.Prelude.{ℕ, zero, suc, Bool, ◌&&◌, ◌||◌, ◌==◌, if◌then◌else◌, List, [], ◌∷◌, ◌++◌, map, length, Option, Some, None, pos}
use Rattle.alpha_words.specs.declared.insn.Insn.{Insn}
use Rattle.alpha_cfg.specs.Actions.{Applied, Test, Always, When, Action, action_of}
use Rattle.alpha_cfg.specs.Actions as actions
use Rattle.alpha_cfg.specs.Flow.{jump_of}
use Rattle.x86_words.specs.declared.operators.AluOp.TheVariants.{Sub}
use Rattle.x86_words.specs.declared.operators.X86Cond.{X86Cond}
use Rattle.x86_words.specs.declared.operators.X86Cond.TheVariants.{Below}
use Rattle.x86_words.specs.declared.insn.X86Insn.{X86Insn}
use Rattle.x86_words.specs.declared.insn.X86Insn.TheVariants.{Mov, MovZero, Load, Store, AluImm, Ret}
use Rattle.native_steps.specs.declared.places.Place.{Place}
use Rattle.native_steps.specs.declared.places.Place.TheVariants.{Register}
use Rattle.native_steps.specs.Places.{Places, place_at, slot, is_callee_saved, RAX, RCX, FUEL, AREA}
use Rattle.native_steps.specs.Sequences.{keep_place, fetch, action_code, branch_cond}
use Rattle.native_steps.specs.Compares.{ready_cmp_code}
use Rattle.native_code.specs.declared.insn.NativeInsn.{NativeInsn}
use Rattle.native_code.specs.declared.insn.NativeInsn.TheVariants.{Plain, Go, GoIf}
use Rattle.native_code.specs.declared.insn.Form.{Form}
use Rattle.native_code.specs.declared.insn.Form.TheVariants.{Whole, Compare, Joined}
use Rattle.native_code.specs.Heads.{is_loop_head}
use Rattle.native_code.specs.Lives.{Lean, form_at}

-- rdx: the third argument, and the second result
abbrev pub RDX : ℕ
RDX = 2

-- rsi: the second argument
abbrev pub RSI : ℕ
RSI = 6

-- rdi: the first argument
abbrev pub RDI : ℕ
RDI = 7

-- an Alpha register that has an argument when the code begins
abbrev pub is_argument : ℕ → Bool
is_argument r = r == 16 || r == 17 || r == 18

-- what is made for each of so many registers, in order
abbrev pub for_registers : (ℕ → List X86Insn) → ℕ → List X86Insn
for_registers f zero = []
for_registers f (suc n) = for_registers f n ++ f n

-- what a register of the processor has, into the area's quadword of the Alpha register that takes its place, if the caller wants it back
abbrev pub save_place : Place → ℕ → List X86Insn
save_place (Register q) r = if is_callee_saved q then Store AREA (slot r) q ∷ [] else []
save_place _ r = []

-- and back
abbrev pub restore_place : Place → ℕ → List X86Insn
restore_place (Register q) r = if is_callee_saved q then Load q AREA (slot r) ∷ [] else []
restore_place _ r = []

-- instructions as they are
abbrev pub plain : List X86Insn → List NativeInsn
plain insns = map Plain insns

-- a jump to an index, where the condition holds
abbrev pub joined_code : X86Cond → Option ℕ → List NativeInsn
joined_code cond None = []
joined_code cond (Some target) = GoIf cond target ∷ []

module _ (p : Places) where
  -- What the caller wants back into its registers, then the end: rdx says why.
  abbrev pub exit_code : ℕ → List X86Insn
  exit_code why = for_registers (λ r. restore_place (place_at p r) r) (length p) ++ (MovZero RDX why ∷ Ret ∷ [])

  -- a return: the word of Alpha register 0 into rax; rdx is 0
  abbrev pub return_code : List X86Insn
  return_code = fetch p 0 RAX ∷ exit_code 0

  -- out of fuel: rax is 0, rdx is 1
  abbrev pub spent_code : List X86Insn
  spent_code = MovZero RAX 0 ∷ exit_code 1

  -- what follows the test of a branch, which leads to an index
  abbrev pub branch_code : Test → Option ℕ → List NativeInsn
  branch_code test None = []
  branch_code Always (Some target) = Go target ∷ []
  branch_code (When cond r) (Some target) = GoIf (branch_cond cond) target ∷ []

  -- what follows the sequence of an action
  abbrev pub end_code : Action → Option ℕ → List NativeInsn
  end_code (actions.Branching test) jump = branch_code test jump
  end_code actions.Return jump = plain return_code
  end_code _ jump = []

  -- of a compare, only its flags
  abbrev pub compare_flags : Action → List X86Insn
  compare_flags (actions.Compute to (Applied op left right)) = ready_cmp_code p left right
  compare_flags _ = []

  -- the sequence of an action, by its form
  abbrev pub form_code : Form → Action → List X86Insn
  form_code Whole e = action_code p e
  form_code Compare e = compare_flags e
  form_code _ e = []

  -- what follows the sequence, by the form
  abbrev pub form_end : Form → Action → Option ℕ → List NativeInsn
  form_end Whole e jump = end_code e jump
  form_end (Joined cond) e jump = joined_code cond jump
  form_end _ e jump = []

-- Which registers are live, and the form of each index.
module _ (p : Places) (lean : Lean) where
  -- A register of the processor into the place of an Alpha register, whose old word is saved. If the Alpha register is dead at index 0, the place is left
  -- as it is.
  abbrev pub enter : ℕ → ℕ → List X86Insn
  enter r from = save_place (place_at p r) r ++ (if lean.live 0 r then keep_place (place_at p r) r from else [])

  -- rax into the place of a register that has no argument
  abbrev pub clear : ℕ → List X86Insn
  clear r = if is_argument r then [] else enter r RAX

  -- The entry: the area's address into r11; arguments, of which two wait in rax and rcx, into their places; 0 into the other places.
  abbrev pub entry_code : List X86Insn
  entry_code =
      Mov AREA RCX ∷ Mov RAX RDI ∷ Mov RCX RSI
      ∷ (enter 18 RDX ++ (enter 16 RAX ++ (enter 17 RCX ++ (MovZero RAX 0 ∷ for_registers clear (length p)))))

  -- Fuel is counted, or it isn't; then the code.
  module _ (metered : Bool) (code : List Insn) where
    -- at a loop head one unit of fuel is taken; where none is left, the block after the last ends the run
    abbrev pub fuel_code : ℕ → List NativeInsn
    fuel_code i = if metered && is_loop_head code i then Plain (AluImm Sub FUEL (pos 1)) ∷ GoIf Below (length code) ∷ [] else []

    -- The block of an instruction: fuel, its sequence, and where it goes if not to the next block.
    abbrev pub block_of : ℕ → Insn → List NativeInsn
    block_of i insn =
        let form = form_at lean i in
        let action = action_of insn in
        fuel_code i ++ (plain (form_code p form action) ++ form_end p form action (jump_of i insn))

    -- the block of an index; the one after the last is for runs that are out of fuel
    abbrev pub block_at : ℕ → Option Insn → List NativeInsn
    block_at i None = plain (spent_code p)
    block_at i (Some insn) = block_of i insn
