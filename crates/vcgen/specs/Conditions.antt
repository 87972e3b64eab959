-- The verification condition of annotated code.
-- Necula, POPL 1997, section 3, and Necula and Lee, OSDI 1996, section 2 (the verification-condition generator).
use Rattle.std.specs.Prelude.{ℕ, zero, suc, ◌+◌, ◌==◌, if◌then◌else◌, List, [], ◌∷◌, length, slice_get, Option, Some, None, ℤ, ◌-◌, ◌^◌}
use Rattle.std.specs.Int.{cast_unsigned, w64}
use Rattle.word_ops.specs.declared.Op.TheVariants.{Add, Sub, Band}
use Rattle.word_ops.specs.declared.Rel.TheVariants.{Ult}
use Rattle.alpha_words.specs.declared.insn.Rhs.{Rhs}
use Rattle.alpha_words.specs.declared.insn.Rhs.TheVariants.{Reg, Lit}
use Rattle.alpha_words.specs.declared.conditions.Cond.{Cond}
use Rattle.alpha_words.specs.declared.conditions.Tested.{Tested}
use Rattle.alpha_words.specs.declared.conditions.Tested.TheVariants.{Word, LowBit}
use Rattle.alpha_words.specs.Conditions.{cond_tested, cond_relation, cond_taken}
use Rattle.alpha_words.specs.declared.insn.Insn.{Insn}
use Rattle.alpha_cfg.specs.Actions.{Computed, Sum, Applied, Always, When, Action, action_of}
use Rattle.alpha_cfg.specs.Actions as actions
use Rattle.alpha_cfg.specs.Flow.{jump_of}
use Rattle.formula_tree.specs.Formulas.{Exp, EReg, ELeft, ELit, EOp, ESel, MMem, MUpd, Form, FTrue, FFalse, FRel, FRd, FWr, FAnd, FImp, FAll, FAllm}
use Rattle.formula_tree.specs.Substitution.{subst_form}
use Rattle.lf_encode.specs.Contexts.{machine_names}
use Rattle.vcgen.specs.Assignments.{for_reg, for_memory, for_left}

-- code, its invariants by their indices, what holds before it starts and after it returned, and the most steps that it may make, where these are bounded
pub record AnnotatedCode : Type 0 where
  pub code : List Insn
  pub invs : List (ℕ × Form)
  pub pre : Form
  pub post : Form
  pub bound : Option ℕ

-- ---- operands

-- a register as an expression; register 31 is the literal 0
abbrev pub reg_exp : ℕ → Exp
reg_exp r = if r == 31 then ELit 0 else EReg r

-- the second operand
abbrev pub rhs_exp : Rhs → Exp
rhs_exp (Reg rb) = reg_exp rb
rhs_exp (Lit n) = ELit n

-- the address of a load or store, and what `lda` computes
abbrev pub address_exp : ℕ → ℤ → Exp
address_exp rb disp = EOp Add (reg_exp rb) (ELit (cast_unsigned w64 disp))

-- the address of the quadword that holds the byte: the low three bits cleared
abbrev pub aligned_exp : Exp → Exp
aligned_exp a = EOp Band a (ELit (2 ^ 64 - 8))

-- that a formula doesn't hold
abbrev pub negated : Form → Form
negated A = FImp A FFalse

-- what a branch compares with 0
abbrev pub tested_exp : Tested → Exp → Exp
tested_exp Word x = x
tested_exp LowBit x = EOp Band x (ELit 1)

-- what a conditional branch tests of its register
abbrev pub tested_if : Cond → Exp → Form
tested_if c x = FRel (cond_relation c) (tested_exp (cond_tested c) x) (ELit 0)

-- what holds of it where the branch is taken
abbrev pub taken_if : Cond → Exp → Form
taken_if c x = if cond_taken c then tested_if c x else negated (tested_if c x)

-- and where it isn't
abbrev pub passed_if : Cond → Exp → Form
passed_if c x = if cond_taken c then negated (tested_if c x) else tested_if c x

-- ---- one instruction

-- what has to hold at an index, where there is one
abbrev pub at_target : (ℕ → Form) → Option ℕ → Form
at_target next None = FFalse
at_target next (Some j) = next j

-- a word that is computed, as an expression
abbrev pub computed_exp : Computed → Exp
computed_exp (Sum base disp) = address_exp base disp
computed_exp (Applied op left right) = EOp op (reg_exp left) (rhs_exp right)

-- What has to hold before an action at i, which branches to `jump`, `next` being what has to hold at an index.
abbrev pub action_condition : (ℕ → Form) → Form → ℕ → Option ℕ → Action → Form
action_condition next post i jump (actions.Compute to word) = subst_form (next (i + 1)) (for_reg to (computed_exp word))
action_condition next post i jump (actions.Load to base disp) = FAnd (FRd (address_exp base disp)) (subst_form (next (i + 1)) (for_reg to (ESel MMem (address_exp base disp))))
action_condition next post i jump (actions.LoadAround to base disp) =
    let a = aligned_exp (address_exp base disp) in
    FAnd (FRd a) (subst_form (next (i + 1)) (for_reg to (ESel MMem a)))
action_condition next post i jump (actions.Store from base disp) =
    FAnd (FWr (address_exp base disp)) (subst_form (next (i + 1)) (for_memory (MUpd MMem (address_exp base disp) (reg_exp from))))
action_condition next post i jump (actions.Branching Always) = at_target next jump
action_condition next post i jump (actions.Branching (When cond reg)) = FAnd (FImp (taken_if cond (reg_exp reg)) (at_target next jump)) (FImp (passed_if cond (reg_exp reg)) (next (i + 1)))
action_condition next post i jump actions.Return = post

-- the same before the instruction at i
abbrev pub insn_condition : (ℕ → Form) → Form → ℕ → Insn → Form
insn_condition next post i insn = action_condition next post i (jump_of i insn) (action_of insn)

-- with one step less
abbrev pub one_step_less : Form → Form
one_step_less F = subst_form F (for_left (EOp Sub ELeft (ELit 1)))

-- The same where steps are counted: one has to be left, and after it there is one less.
abbrev pub counted_condition : Option ℕ → (ℕ → Form) → Form → ℕ → Insn → Form
counted_condition None next post i insn = insn_condition next post i insn
counted_condition (Some bound) next post i insn = FAnd (FRel Ult (ELit 0) ELeft) (insn_condition (λ j. one_step_less (next j)) post i insn)

-- outside the code nothing may go on
abbrev pub condition_at : Option ℕ → (ℕ → Form) → Form → ℕ → Option Insn → Form
condition_at bound next post i None = FFalse
condition_at bound next post i (Some insn) = counted_condition bound next post i insn

-- ---- all of the code

-- the invariant of an index, if it is annotated
abbrev pub invariant_at : List (ℕ × Form) → ℕ → Option Form
invariant_at [] i = None
invariant_at (p ∷ ps) i = if p.0 == i then Some p.1 else invariant_at ps i

-- an invariant, if there is one, else the formula
abbrev pub or_else : Option Form → Form → Form
or_else None F = F
or_else (Some I) F = I

-- The invariant of an annotated index, else what has to hold before its instruction, so many indices being followed. Where the
-- annotated indices cut the code, as many as it has instructions are enough (`condition_laws`, clause `wp`).
abbrev pub wp_within : AnnotatedCode → ℕ → ℕ → Form
wp_within c zero i = or_else (invariant_at c.invs i) FFalse
wp_within c (suc n) i = or_else (invariant_at c.invs i) (condition_at c.bound (wp_within c n) c.post i (slice_get c.code i))

-- what has to hold at an index: its invariant where it is annotated, else what has to hold before its instruction
abbrev pub wp : AnnotatedCode → ℕ → Form
wp c i = wp_within c (length c.code) i

-- what has to hold before the instruction at an index, whether annotated or not
abbrev pub body : AnnotatedCode → ℕ → Form
body c i = condition_at c.bound (wp c) c.post i (slice_get c.code i)

-- ---- the condition

-- n quantifiers over words
abbrev pub alls : ℕ → Form → Form
alls zero F = F
alls (suc n) F = FAll (alls n F)

-- for all memories m and all words of r0 to r30, in this order; where steps are counted, for all numbers of them first
abbrev pub close : Option ℕ → Form → Form
close None F = FAllm (alls 31 (subst_form F machine_names))
close (Some bound) F = FAll (FAllm (alls 31 (subst_form F machine_names)))

-- at the start all steps are left
abbrev pub entered : Option ℕ → Form → Form
entered None F = F
entered (Some bound) F = subst_form F (for_left (ELit bound))

-- the part of the start
abbrev pub entry_part : AnnotatedCode → Form
entry_part c = close c.bound (FImp c.pre (entered c.bound (wp c 0)))

-- the part of an annotated index
abbrev pub inv_part : AnnotatedCode → ℕ × Form → Form
inv_part c p = close c.bound (FImp p.1 (body c p.0))

-- the parts of annotated indices, and'ed to the right
abbrev pub inv_parts : AnnotatedCode → List (ℕ × Form) → Form
inv_parts c [] = FTrue
inv_parts c (p ∷ ps) = FAnd (inv_part c p) (inv_parts c ps)

-- the verification condition
abbrev pub condition : AnnotatedCode → Form
condition c = FAnd (entry_part c) (inv_parts c c.invs)
