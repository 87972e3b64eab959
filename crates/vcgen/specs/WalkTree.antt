-- The term of the verification condition by a walk forward on terms: what stands for r0 to r30, m
-- and the steps that are left are terms in the context left, m, r0 to r30.
use Rattle.std.specs.Prelude.{ℕ, zero, suc, ◌+◌, ◌==◌, if◌then◌else◌, List, [], ◌∷◌, length, slice_get, slice_index_or, slice_set, Option, Some, None, ℤ, ◌-◌, ◌^◌}
use Rattle.std.specs.Int.{cast_unsigned, w64}
use Rattle.word_ops.specs.declared.Op.TheVariants.{Add, Sub, Band}
use Rattle.word_ops.specs.declared.Rel.TheVariants.{Ult}
use Rattle.alpha_words.specs.declared.insn.Rhs.{Rhs}
use Rattle.alpha_words.specs.declared.insn.Rhs.TheVariants.{Reg, Lit}
use Rattle.alpha_words.specs.declared.conditions.Cond.{Cond}
use Rattle.alpha_words.specs.declared.conditions.Tested.{Tested}
use Rattle.alpha_words.specs.declared.conditions.Tested.TheVariants.{Word, LowBit}
use Rattle.alpha_words.specs.Conditions.{cond_tested, cond_relation, cond_taken}
use Rattle.alpha_words.specs.declared.insn.Insn.{Insn}
use Rattle.alpha_cfg.specs.Actions.{Sum, Applied, Always, When, Action, action_of}
use Rattle.alpha_cfg.specs.Actions as actions
use Rattle.alpha_cfg.specs.Flow.{jump_of}
use Rattle.term_table.specs.Tree.{Tree, Var}
use Rattle.lf_signature.specs.Terms.{lit, op_term, sel, upd, truth, falsity, rel_term, rd, wr, and_term, imp_term, not_term, all_term, allm_term}
use Rattle.lf_encode.specs.PutTree.{MachineTerms, put_tree}

-- ---- operands

-- a register's term; register 31 is 0
abbrev pub reg_term : MachineTerms → ℕ → Tree
reg_term s r = if r == 31 then lit 0 else slice_index_or s.regs r (lit 0)

-- the second operand
abbrev pub rhs_term : MachineTerms → Rhs → Tree
rhs_term s (Reg rb) = reg_term s rb
rhs_term s (Lit n) = lit n

-- an address
abbrev pub address_term : MachineTerms → ℕ → ℤ → Tree
address_term s rb disp = op_term Add (reg_term s rb) (lit (cast_unsigned w64 disp))

-- the address of the quadword that holds the byte
abbrev pub aligned_term : Tree → Tree
aligned_term a = op_term Band a (lit (2 ^ 64 - 8))

-- what a branch compares with 0
abbrev pub tested_part : Tested → Tree → Tree
tested_part Word x = x
tested_part LowBit x = op_term Band x (lit 1)

-- what a conditional branch tests, which holds or doesn't where it is taken
abbrev pub tested_term : Cond → Tree → Tree
tested_term c x = rel_term (cond_relation c) (tested_part (cond_tested c) x) (lit 0)

-- what holds where it is taken
abbrev pub taken_term : Cond → Tree → Tree
taken_term c t = if cond_taken c then t else not_term t

-- and where it isn't
abbrev pub passed_term : Cond → Tree → Tree
passed_term c t = if cond_taken c then not_term t else t

-- ---- the walk

-- a term for a register; nothing is kept for register 31
abbrev pub with_reg : MachineTerms → ℕ → Tree → MachineTerms
with_reg s r t = record s { regs = slice_set s.regs r t }

-- a term for m
abbrev pub with_memory : MachineTerms → Tree → MachineTerms
with_memory s t = record s { memory = t }

-- What an instruction does to the terms: it goes on with others, it does so after an access for which the first has to hold, it
-- goes on to its target or to the next index as the first or the second holds, it goes on to its target, or it returns.
pub data InsnEffect : Type 0 where
  Computed : MachineTerms → InsnEffect
  Access : Tree → MachineTerms → InsnEffect
  Split : Tree → Tree → Option ℕ → InsnEffect
  Jump : Option ℕ → InsnEffect
  Return : InsnEffect

-- the term of a word that is computed
abbrev pub computed_term : MachineTerms → actions.Computed → Tree
computed_term s (Sum base disp) = address_term s base disp
computed_term s (Applied op left right) = op_term op (reg_term s left) (rhs_term s right)

-- what an action that branches to `jump` does to the terms
abbrev pub terms_effect : Option ℕ → Action → MachineTerms → InsnEffect
terms_effect jump (actions.Compute to word) s = Computed (with_reg s to (computed_term s word))
terms_effect jump (actions.Load to base disp) s = Access (rd (address_term s base disp)) (with_reg s to (sel s.memory (address_term s base disp)))
terms_effect jump (actions.LoadAround to base disp) s =
    let a = aligned_term (address_term s base disp) in
    Access (rd a) (with_reg s to (sel s.memory a))
terms_effect jump (actions.Store from base disp) s = Access (wr (address_term s base disp)) (with_memory s (upd s.memory (address_term s base disp) (reg_term s from)))
terms_effect jump (actions.Branching Always) s = Jump jump
terms_effect jump (actions.Branching (When c reg)) s = Split (taken_term c (tested_term c (reg_term s reg))) (passed_term c (tested_term c (reg_term s reg))) jump
terms_effect jump actions.Return s = Return

-- the same of the instruction at i
abbrev pub insn_effect : ℕ → Insn → MachineTerms → InsnEffect
insn_effect i insn s = terms_effect (jump_of i insn) (action_of insn) s

-- the walk on from a target
abbrev pub walked_to : (ℕ → MachineTerms → Tree) → Option ℕ → MachineTerms → Tree
walked_to next None s = falsity
walked_to next (Some j) s = next j s

-- what the walk makes of an effect at i, `next` being the walk on from an index
abbrev pub walked_on : (ℕ → MachineTerms → Tree) → Tree → ℕ → MachineTerms → InsnEffect → Tree
walked_on next post i s (Computed u) = next (i + 1) u
walked_on next post i s (Access a u) = and_term a (next (i + 1) u)
walked_on next post i s (Split a b to) = and_term (imp_term a (walked_to next to s)) (imp_term b (next (i + 1) s))
walked_on next post i s (Jump to) = walked_to next to s
walked_on next post i s Return = put_tree s 0 post

-- the same of the instruction at i
abbrev pub walked_insn : (ℕ → MachineTerms → Tree) → Tree → ℕ → Insn → MachineTerms → Tree
walked_insn next post i insn s = walked_on next post i s (insn_effect i insn s)

-- a term for the steps that are left
abbrev pub with_left : MachineTerms → Tree → MachineTerms
with_left s t = record s { left = t }

-- one step less is left
abbrev pub one_less : MachineTerms → MachineTerms
one_less s = with_left s (op_term Sub s.left (lit 1))

-- The same where steps are counted: one has to be left, and after it there is one less.
abbrev pub walked_counted : Option ℕ → (ℕ → MachineTerms → Tree) → Tree → ℕ → Insn → MachineTerms → Tree
walked_counted None next post i insn s = walked_insn next post i insn s
walked_counted (Some bound) next post i insn s = and_term (rel_term Ult (lit 0) s.left) (walked_insn next post i insn (one_less s))

-- the same of the instruction at i, if there is one
abbrev pub walked_at : Option ℕ → (ℕ → MachineTerms → Tree) → Tree → ℕ → Option Insn → MachineTerms → Tree
walked_at bound next post i None s = falsity
walked_at bound next post i (Some insn) s = walked_counted bound next post i insn s

-- the term of an index's invariant, if it is annotated
abbrev pub inv_term : List (ℕ × Tree) → ℕ → Option Tree
inv_term [] i = None
inv_term (p ∷ ps) i = if p.0 == i then Some p.1 else inv_term ps i

-- an invariant ends the walk: the terms are put into it
abbrev pub ended : Option Tree → Tree → MachineTerms → Tree
ended None t s = t
ended (Some inv) t s = put_tree s 0 inv

-- the walk over at most so many instructions
abbrev pub walked : Option ℕ → List Insn → List (ℕ × Tree) → Tree → ℕ → ℕ → MachineTerms → Tree
walked bound code invs post zero i s = ended (inv_term invs i) falsity s
walked bound code invs post (suc n) i s = ended (inv_term invs i) (walked_at bound (walked bound code invs post n) post i (slice_get code i) s) s

-- the same from an index whose own invariant doesn't end it
abbrev pub walked_from : Option ℕ → List Insn → List (ℕ × Tree) → Tree → ℕ → MachineTerms → Tree
walked_from bound code invs post i s = walked_at bound (walked bound code invs post (length code)) post i (slice_get code i) s

-- ---- the condition

-- n variables, the furthest first
abbrev pub var_terms : ℕ → List Tree
var_terms zero = []
var_terms (suc n) = Var n ∷ var_terms n

-- each of r0 to r30, m and the steps that are left for itself
unfoldable pub start_terms : MachineTerms
start_terms = record { regs = var_terms 31; memory = Var 31; left = Var 32 }

-- the same at index 0, where all steps are left
abbrev pub entry_terms : Option ℕ → MachineTerms
entry_terms None = start_terms
entry_terms (Some bound) = with_left start_terms (lit bound)

-- n quantifiers over words
abbrev pub all_terms : ℕ → Tree → Tree
all_terms zero t = t
all_terms (suc n) t = all_term (all_terms n t)

-- for all memories and registers
unfoldable pub machine_term : Tree → Tree
machine_term t = allm_term (all_terms 31 t)

-- the same, and where steps are counted for all numbers of them first
abbrev pub closed_term : Option ℕ → Tree → Tree
closed_term None t = machine_term t
closed_term (Some bound) t = all_term (machine_term t)

-- the parts of invariants, and'ed to the right
abbrev pub part_terms : Option ℕ → List Insn → List (ℕ × Tree) → Tree → List (ℕ × Tree) → Tree
part_terms bound code invs post [] = truth
part_terms bound code invs post (p ∷ ps) = and_term (closed_term bound (imp_term p.1 (walked_from bound code invs post p.0 start_terms))) (part_terms bound code invs post ps)

-- the condition, from the terms of what holds at the start and at the end, and of the invariants
abbrev pub condition_term : Option ℕ → List Insn → List (ℕ × Tree) → Tree → Tree → Tree
condition_term bound code invs pre post = and_term (closed_term bound (imp_term pre (walked bound code invs post (length code) 0 (entry_terms bound)))) (part_terms bound code invs post invs)
