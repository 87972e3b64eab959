-- A compare and the branch behind it as one: the flags of the compare decide the branch, and no register gets the flag as a word.
-- Intel 64 and IA-32 Architectures Software Developer's Manual, volume 2A, chapter 3, "CMP" and "Jcc"; Alpha Architecture Handbook, the instruction
-- descriptions of compares and conditional branches.
use Rattle.std.specs.Prelude.{◌≡◌, ℕ, Bool, true, false, List, ◌++◌, Option, Some, None}
use Rattle.std.specs.List.{All}
use Rattle.word_ops.specs.declared.Op.{Op}
use Rattle.word_ops.specs.declared.Op.TheVariants as ops
use Rattle.word_ops.specs.Registers.{read_reg}
use Rattle.word_ops.specs.Words.{word_of}
use Rattle.alpha_words.specs.declared.insn.Rhs.{Rhs}
use Rattle.alpha_words.specs.declared.conditions.Cond.{Cond}
use Rattle.alpha_words.specs.declared.conditions.Cond.TheVariants.{LowClear, Zero, LowSet, NotZero}
use Rattle.alpha_words.specs.Encoding.{IsRhs}
use Rattle.alpha_cfg.specs.Machine.{State, IsState, rhs_word, takes}
use Rattle.x86_words.specs.declared.operators.X86Cond.{X86Cond}
use Rattle.x86_words.specs.declared.operators.X86Cond.TheVariants.{Below, AboveOrEqual, Equal, NotEqual, BelowOrEqual, Above, Less, GreaterOrEqual, LessOrEqual, Greater}
use Rattle.x86_words.specs.declared.insn.X86Insn.{X86Insn}
use Rattle.x86_machine.specs.declared.flags.Flags.{Flags}
use Rattle.x86_machine.specs.Flags.{cond_holds}
use Rattle.x86_machine.specs.Machine.{X86}
use Rattle.native_steps.specs.Places.{Places, ArePlaces, IsSomewhere, RAX}
use Rattle.native_steps.specs.Sequences.{RhsIsPlaced, ready, cmp_code}
use Rattle.native_steps.specs.Straight.{IsStraight}
use Rattle.native_steps.specs.Agreement.{Call, IsLent, Agrees, EndsInAgreement}

-- a branch that is taken where the flag that it tests is 1, or where it is 0; other branches aren't joined
abbrev pub taken_on : Cond → Option Bool
taken_on NotZero = Some true
taken_on LowSet = Some true
taken_on Zero = Some false
taken_on LowClear = Some false
taken_on _ = None

-- the condition that holds, after `cmp`, where the compare gives 1, or where it gives 0
abbrev pub compare_cond : Op → Bool → Option X86Cond
compare_cond ops.Cmpeq true = Some Equal
compare_cond ops.Cmpeq false = Some NotEqual
compare_cond ops.Cmplt true = Some Less
compare_cond ops.Cmplt false = Some GreaterOrEqual
compare_cond ops.Cmple true = Some LessOrEqual
compare_cond ops.Cmple false = Some Greater
compare_cond ops.Cmpult true = Some Below
compare_cond ops.Cmpult false = Some AboveOrEqual
compare_cond ops.Cmpule true = Some BelowOrEqual
compare_cond ops.Cmpule false = Some Above
compare_cond _ _ = None

-- what a compare and a branch are joined by
abbrev pub compare_on : Op → Option Bool → Option X86Cond
compare_on op None = None
compare_on op (Some b) = compare_cond op b

-- The condition of the jump that a compare and a branch on its register become, if they are joined.
abbrev pub joined_cond : Op → Cond → Option X86Cond
joined_cond op cond = compare_on op (taken_on cond)

-- the operands of a compare to where they are read, and `cmp`
abbrev pub ready_cmp_code : Places → ℕ → Rhs → List X86Insn
ready_cmp_code p left right = ready p left RAX ++ cmp_code p left right

-- The compare is done, the states still agree, and the flags say whether the branch will be taken.
pub record DecidesJoined (p : Places) (call : Call) (op : Op) (left : ℕ) (right : Rhs) (cond : Cond) (jump : X86Cond) (x : X86) (s : State) : Type 0 where
  pub comes : EndsInAgreement p call (ready_cmp_code p left right) x s
  pub flags : Flags
  pub set : comes.end.flags ≡ Some flags
  pub says : cond_holds jump flags ≡ takes cond (word_of op (read_reg s.regs left) (rhs_word s.regs right))

-- From states that agree, the flags of a compare decide the branch that is joined to it.
abbrev pub Joins : Type 0
Joins = (p : Places) (call : Call) (op : Op) (left : ℕ) (right : Rhs) (cond : Cond) (jump : X86Cond) (s : State) (x : X86) → ArePlaces p → IsSomewhere p left
    → RhsIsPlaced p right → IsRhs right → IsState s → IsLent call s.rights → Agrees p call s x → joined_cond op cond ≡ Some jump
    → DecidesJoined p call op left right cond jump x s
