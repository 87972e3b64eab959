-- What each Alpha instruction becomes, but for jumps. An operand is read in its place if that is a register of the processor, else in a temporary, rax or
-- rcx, to which it is brought. A result is computed in its place if that is a register, else in rax, from where it is stored.
-- Alpha Architecture Handbook, the instruction descriptions; Intel 64 and IA-32 Architectures Software Developer's Manual, volume 2.
use Rattle.std.specs.Prelude.{ℕ, ◌*◌, ◌%◌, Bool, true, false, ◌&&◌, ◌==◌, if◌then◌else◌, List, [], ◌∷◌, ◌++◌, ℤ, pos, negsuc}
use Rattle.word_ops.specs.declared.Op.{Op}
use Rattle.word_ops.specs.declared.Op.TheVariants as ops
use Rattle.alpha_words.specs.declared.insn.Rhs.{Rhs}
use Rattle.alpha_words.specs.declared.insn.Rhs.TheVariants.{Reg, Lit}
use Rattle.alpha_words.specs.declared.conditions.Cond.{Cond}
use Rattle.alpha_words.specs.declared.conditions.Tested.{Tested}
use Rattle.alpha_words.specs.declared.conditions.Tested.TheVariants.{Word, LowBit}
use Rattle.alpha_words.specs.declared.conditions.ToZero.{ToZero}
use Rattle.alpha_words.specs.declared.conditions.ToZero.TheVariants as zero
use Rattle.alpha_words.specs.Conditions.{cond_tested, cond_to_zero, cond_taken}
use Rattle.alpha_words.specs.declared.insn.Insn.{Insn}
use Rattle.alpha_cfg.specs.Actions.{Computed, Sum, Applied, Test, Always, When, Action, action_of}
use Rattle.alpha_cfg.specs.Actions as actions
use Rattle.x86_words.specs.declared.operators.AluOp.TheVariants as alu
use Rattle.x86_words.specs.declared.operators.AluOp.{AluOp}
use Rattle.x86_words.specs.declared.operators.ShiftOp.{ShiftOp}
use Rattle.x86_words.specs.declared.operators.Scale.{Scale}
use Rattle.x86_words.specs.declared.operators.ShiftOp.TheVariants.{Shl, Shr, Sar}
use Rattle.x86_words.specs.declared.operators.X86Cond.{X86Cond}
use Rattle.x86_words.specs.declared.operators.X86Cond.TheVariants.{Below, Equal, NotEqual, BelowOrEqual, Sign, NoSign, Less, LessOrEqual, Greater}
use Rattle.x86_words.specs.declared.operators.Scale.TheVariants.{Four, Eight}
use Rattle.x86_words.specs.declared.insn.X86Insn.{X86Insn}
use Rattle.x86_words.specs.declared.insn.X86Insn.TheVariants.{Mov, MovImm, MovZero, Load, Store, Alu, AluImm, Lea, LeaScaled, ShiftImm, ShiftCl, TestImm, Set}
use Rattle.x86_words.specs.declared.insn.X86Insn.TheVariants.{MovByte, MovTwo, MovFour}
use Rattle.x86_words.specs.declared.insn.X86Insn.TheVariants as x86
use Rattle.native_steps.specs.declared.places.Place.{Place}
use Rattle.native_steps.specs.declared.places.Place.TheVariants.{Register, Slot, Nowhere}
use Rattle.native_steps.specs.Places.{Places, IsSomewhere, place_at, operand_place, is_in, slot, RAX, RCX, AREA}

-- the word of the Alpha register r, which is in this place, into a register; what is nowhere isn't read
abbrev pub fetch_place : Place → ℕ → ℕ → X86Insn
fetch_place (Register q) r to = Mov to q
fetch_place Slot r to = Load to AREA (slot r)
fetch_place Nowhere r to = MovZero to 0

-- a register's word into that place
abbrev pub keep_place : Place → ℕ → ℕ → List X86Insn
keep_place (Register q) r from = Mov q from ∷ []
keep_place Slot r from = Store AREA (slot r) from ∷ []
keep_place Nowhere r from = []

-- the register in which a place's word is read: the place, or a temporary to which the word is brought
abbrev pub source_at : Place → ℕ → ℕ
source_at (Register q) temp = q
source_at _ temp = temp

-- the operator is a difference: its operands can't change places
abbrev pub is_difference : Op → Bool
is_difference ops.Sub = true
is_difference _ = false

-- the condition that holds, after the test of a word, where the word compares with 0 so, or where it doesn't
abbrev pub zero_cond : ToZero → Bool → X86Cond
zero_cond zero.Equal true = Equal
zero_cond zero.Less true = Sign
zero_cond zero.AtMost true = LessOrEqual
zero_cond zero.Equal false = NotEqual
zero_cond zero.Less false = NoSign
zero_cond zero.AtMost false = Greater

-- the condition that holds, after the test of a register, where the branch is taken
abbrev pub branch_cond : Cond → X86Cond
branch_cond c = zero_cond (cond_to_zero c) (cond_taken c)

-- the test of a register, or of its lowest bit
abbrev pub part_test : Tested → ℕ → X86Insn
part_test Word q = x86.Test q q
part_test LowBit q = TestImm q (pos 1)

-- the test of a register for a condition
abbrev pub cond_test : Cond → ℕ → X86Insn
cond_test c q = part_test (cond_tested c) q

module _ (p : Places) where
  -- the word of an Alpha register into a register; register 31 reads 0
  abbrev pub fetch : ℕ → ℕ → X86Insn
  fetch r to = if r == 31 then MovZero to 0 else fetch_place (place_at p r) r to

  -- rax into an Alpha register's place, if it has one
  abbrev pub keep : ℕ → List X86Insn
  keep r = if r == 31 then [] else keep_place (place_at p r) r RAX

  -- the second operand into a register
  abbrev pub fetch_rhs : Rhs → ℕ → X86Insn
  fetch_rhs (Reg r) to = fetch r to
  fetch_rhs (Lit n) to = MovZero to n

  -- ---- operands where they are

  -- where the word of an Alpha register is read: in its place, if that is a register of the processor, else in a temporary
  abbrev pub source : ℕ → ℕ → ℕ
  source r temp = source_at (operand_place p r) temp

  -- its word into a register, if that isn't its place
  abbrev pub brought : ℕ → ℕ → List X86Insn
  brought r to = if is_in (operand_place p r) to then [] else fetch r to ∷ []

  -- its word to where it is read
  abbrev pub ready : ℕ → ℕ → List X86Insn
  ready r temp = brought r (source r temp)

  -- the register for a result: the place of its Alpha register, or rax
  abbrev pub target : ℕ → ℕ
  target r = source r RAX

  -- a result in that register, or in rax, into its place
  abbrev pub settle : ℕ → ℕ → List X86Insn
  settle r work = if is_in (operand_place p r) work then [] else keep r

  -- ---- operators: work := left op right

  -- the second operand is in that register
  abbrev pub has_second : Rhs → ℕ → Bool
  has_second (Reg r) q = is_in (operand_place p r) q
  has_second (Lit n) q = false

  -- the register that an operator works in: the target, but rax for a difference whose second operand is there
  abbrev pub work_reg : Op → ℕ → Rhs → ℕ
  work_reg op to right = if is_difference op && has_second right (target to) then RAX else target to

  -- `work := left; op work,right`; if the second operand is in `work`, the operands change places
  abbrev pub alu_code : AluOp → ℕ → ℕ → Rhs → List X86Insn
  alu_code op work left (Lit n) = brought left work ++ AluImm op work (pos n) ∷ []
  alu_code op work left (Reg r) =
      if is_in (operand_place p r) work then ready left RCX ++ Alu op work (source left RCX) ∷ []
      else ready r RCX ++ (brought left work ++ Alu op work (source r RCX) ∷ [])

  -- an operator for which 0 op right is right
  abbrev pub move_code : AluOp → ℕ → ℕ → Rhs → List X86Insn
  move_code op work left right = if left == 31 then fetch_rhs right work ∷ [] else alu_code op work left right

  -- the flags of `cmp left,right`; operands are where they are read
  abbrev pub cmp_code : ℕ → Rhs → List X86Insn
  cmp_code left (Lit n) = AluImm alu.Cmp (source left RAX) (pos n) ∷ []
  cmp_code left (Reg r) = ready r RCX ++ Alu alu.Cmp (source left RAX) (source r RCX) ∷ []

  -- 1 if the condition holds of the operands, else 0
  abbrev pub compare_code : X86Cond → ℕ → ℕ → Rhs → List X86Insn
  compare_code cond work left right = ready left RAX ++ (cmp_code left right ++ Set cond RAX ∷ MovByte work RAX ∷ [])

  -- a shift; one by a register takes its count from rcx
  abbrev pub shift_code : ShiftOp → ℕ → ℕ → Rhs → List X86Insn
  shift_code op work left (Lit n) = brought left work ++ ShiftImm op work (n % 64) ∷ []
  shift_code op work left (Reg r) = fetch r RCX ∷ (brought left work ++ ShiftCl op work ∷ [])

  -- the bits of the first that the second hasn't
  abbrev pub bic_code : ℕ → ℕ → Rhs → List X86Insn
  bic_code work left right = fetch_rhs right RCX ∷ AluImm alu.Xor RCX (negsuc 0) ∷ (brought left work ++ Alu alu.And work RCX ∷ [])

  -- a multiple of the first, and the second
  abbrev pub scaled_code : Scale → ℕ → ℕ → Rhs → List X86Insn
  scaled_code scale work left (Lit n) = ready left RAX ++ MovZero RCX n ∷ LeaScaled work RCX (source left RAX) scale ∷ []
  scaled_code scale work left (Reg r) = ready left RAX ++ (ready r RCX ++ LeaScaled work (source r RCX) (source left RAX) scale ∷ [])

  -- the first from a byte on, eight bits a byte; `last` takes as many as are wanted
  abbrev pub extract_code : X86Insn → ℕ → ℕ → Rhs → List X86Insn
  extract_code last work left (Lit n) = brought left work ++ ShiftImm Shr work (8 * (n % 8)) ∷ last ∷ []
  extract_code last work left (Reg r) = fetch r RCX ∷ ShiftImm Shl RCX 3 ∷ (brought left work ++ ShiftCl Shr work ∷ last ∷ [])

  -- An operator's code.
  abbrev pub op_code : Op → ℕ → ℕ → Rhs → List X86Insn
  op_code ops.Add work left right = move_code alu.Add work left right
  op_code ops.Sub work left right = alu_code alu.Sub work left right
  op_code ops.Band work left right = alu_code alu.And work left right
  op_code ops.Bis work left right = move_code alu.Or work left right
  op_code ops.Sll work left right = shift_code Shl work left right
  op_code ops.Srl work left right = shift_code Shr work left right
  op_code ops.Cmpeq work left right = compare_code Equal work left right
  op_code ops.Cmplt work left right = compare_code Less work left right
  op_code ops.Cmple work left right = compare_code LessOrEqual work left right
  op_code ops.Cmpult work left right = compare_code Below work left right
  op_code ops.Cmpule work left right = compare_code BelowOrEqual work left right
  op_code ops.Xor work left right = alu_code alu.Xor work left right
  op_code ops.Bic work left right = bic_code work left right
  op_code ops.S4add work left right = scaled_code Four work left right
  op_code ops.S8add work left right = scaled_code Eight work left right
  op_code ops.Sra work left right = shift_code Sar work left right
  op_code ops.Extb work left right = extract_code (MovByte work work) work left right
  op_code ops.Extw work left right = extract_code (MovTwo work work) work left right
  op_code ops.Extl work left right = extract_code (MovFour work work) work left right

  -- the sum of a register and a displacement
  abbrev pub sum_code : ℕ → ℕ → ℤ → List X86Insn
  sum_code work base disp = if base == 31 then MovImm work disp ∷ [] else ready base RAX ++ Lea work (source base RAX) disp ∷ []

  -- ---- actions

  -- a computed word into its place
  abbrev pub computed_code : ℕ → Computed → List X86Insn
  computed_code to (Sum base disp) = sum_code (target to) base disp ++ settle to (target to)
  computed_code to (Applied op left right) = let work = work_reg op to right in op_code op work left right ++ settle to work

  -- the flags that decide a branch
  abbrev pub test_code : Test → List X86Insn
  test_code Always = []
  test_code (When cond r) = ready r RAX ++ cond_test cond (source r RAX) ∷ []

  -- the quadword at a register and a displacement
  abbrev pub load_code : ℕ → ℕ → ℤ → List X86Insn
  load_code work base disp = ready base RCX ++ Load work (source base RCX) disp ∷ []

  -- the quadword that holds the byte there
  abbrev pub load_around_code : ℕ → ℕ → ℤ → List X86Insn
  load_around_code work base disp = ready base RCX ++ Lea RCX (source base RCX) disp ∷ AluImm alu.And RCX (negsuc 7) ∷ Load work RCX (pos 0) ∷ []

  -- a register's word into the quadword
  abbrev pub store_code : ℕ → ℕ → ℤ → List X86Insn
  store_code from base disp = ready base RCX ++ (ready from RAX ++ Store (source base RCX) disp (source from RAX) ∷ [])

  -- the second operand may be read
  abbrev pub RhsIsPlaced : Rhs → Type 0
  RhsIsPlaced (Reg r) = IsSomewhere p r
  RhsIsPlaced (Lit n) = Unit {0}

  -- The registers that an action reads are placed.
  abbrev pub ReadsPlaced : Action → Type 0
  ReadsPlaced (actions.Compute to (Sum base disp)) = IsSomewhere p base
  ReadsPlaced (actions.Compute to (Applied op left right)) = IsSomewhere p left × RhsIsPlaced right
  ReadsPlaced (actions.Load to base disp) = IsSomewhere p base
  ReadsPlaced (actions.LoadAround to base disp) = IsSomewhere p base
  ReadsPlaced (actions.Store from base disp) = IsSomewhere p from × IsSomewhere p base
  ReadsPlaced (actions.Branching Always) = Unit {0}
  ReadsPlaced (actions.Branching (When cond r)) = IsSomewhere p r
  ReadsPlaced actions.Return = IsSomewhere p 0

  -- What an action becomes. Branches and returns go on with jumps, which aren't part of it.
  abbrev pub action_code : Action → List X86Insn
  action_code (actions.Compute to word) = computed_code to word
  action_code (actions.Load to base disp) = load_code (target to) base disp ++ settle to (target to)
  action_code (actions.LoadAround to base disp) = load_around_code (target to) base disp ++ settle to (target to)
  action_code (actions.Store from base disp) = store_code from base disp
  action_code (actions.Branching test) = test_code test
  action_code actions.Return = []

  -- The sequence of an Alpha instruction.
  abbrev pub insn_code : Insn → List X86Insn
  insn_code insn = action_code (action_of insn)
