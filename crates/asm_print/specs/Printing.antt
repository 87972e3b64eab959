-- How an instruction is printed, so that a source has it: its mnemonic, a blank, and its operands
-- with commas between and no blanks, as in `ldq r1,8(r16)`, `lda r0,-1(r31)`, `subq r1,255,r3`,
-- `beq r1,L7`, `br L3` and `ret`. Numbers are decimal, a register is `r` and its number, and a
-- branch names the label of the index where it leads.
use Rattle.std.specs.Prelude.{ℕ, ◌^◌, List, [], ◌∷◌, ◌++◌, codes, decimal, Option, Some, None, ℤ}
use Rattle.std.specs.Fmt.{signed_decimal}
use Rattle.word_ops.specs.Operators.{op_mnemonic}
use Rattle.alpha_words.specs.declared.insn.Insn.{Insn}
use Rattle.alpha_words.specs.declared.insn.Insn.TheVariants as I
use Rattle.alpha_words.specs.declared.insn.Format.{Format}
use Rattle.alpha_words.specs.declared.insn.Format.TheVariants.{Memory, Operate, Branch, Br, Ret}
use Rattle.alpha_words.specs.declared.insn.Rhs.{Rhs}
use Rattle.alpha_words.specs.declared.insn.Rhs.TheVariants as R
use Rattle.alpha_words.specs.MemoryOps.{memory_mnemonic}
use Rattle.alpha_words.specs.Formats.{format_of}
use Rattle.alpha_words.specs.Encoding.{HasFields}
use Rattle.alpha_words.specs.Lawful.{target_of}
use Rattle.alpha_cfg.specs.Flow.{jump_of, InsideOf}
use Rattle.alpha_words.specs.Conditions.{cond_mnemonic}
use Rattle.asm_text.specs.Insns.{SourceInsn, Plain, BranchTo, BrTo}

-- ---- operands

-- the label of an index: `L` and the index
abbrev pub label_text : ℕ → List ℕ
label_text i = 76 ∷ decimal i

-- a register: `r` and its number
abbrev pub register_text : ℕ → List ℕ
register_text r = 114 ∷ decimal r

-- the second operand: a register, or a number
abbrev pub rhs_text : Rhs → List ℕ
rhs_text (R.Reg r) = register_text r
rhs_text (R.Lit n) = decimal n

-- the label of the index where a branch leads; nothing where that isn't an index
abbrev pub target_text : Option ℕ → List ℕ
target_text None = []
target_text (Some i) = label_text i

-- `ra,disp(rb)`
abbrev pub memory_text : ℕ → ℕ → ℤ → List ℕ
memory_text ra rb disp =
    register_text ra ++ (44 ∷ (signed_decimal disp ++ (40 ∷ (register_text rb ++ (41 ∷ [])))))

-- `ra,rb,rc`, or `ra,n,rc`
abbrev pub operate_text : ℕ → Rhs → ℕ → List ℕ
operate_text ra rhs rc =
    register_text ra ++ (44 ∷ (rhs_text rhs ++ (44 ∷ register_text rc)))

-- `ra,label`
abbrev pub branch_text : ℕ → Option ℕ → List ℕ
branch_text ra target = register_text ra ++ (44 ∷ target_text target)

-- ---- instructions

-- a mnemonic, a blank, and operands
abbrev pub with_operands : List ℕ → List ℕ → List ℕ
with_operands mnemonic operands = mnemonic ++ (32 ∷ operands)

-- what has a format, given the index where it branches to
abbrev pub format_text : Option ℕ → Format → List ℕ
format_text target (Memory op ra rb disp) = with_operands (memory_mnemonic op) (memory_text ra rb disp)
format_text target (Operate op ra rhs rc) = with_operands (op_mnemonic op) (operate_text ra rhs rc)
format_text target (Branch cond ra disp) = with_operands (cond_mnemonic cond) (branch_text ra target)
format_text target (Br disp) = with_operands (codes "br") (target_text target)
format_text target Ret = codes "ret"

-- the instruction at an index
abbrev pub insn_text : ℕ → Insn → List ℕ
insn_text i insn = format_text (jump_of i insn) (format_of insn)

-- ---- what is printed, as a source says it

-- the instruction at an index as one of a source: a branch goes to the label of the index where it
-- leads
abbrev pub source_insn : ℕ → Insn → SourceInsn
source_insn i (I.Branch cond ra disp) =
    BranchTo cond ra (target_text (jump_of i (I.Branch cond ra disp)))
source_insn i (I.Br disp) = BrTo (target_text (jump_of i (I.Br disp)))
source_insn i insn = Plain insn

-- The instruction at an index can be spelled: its registers, its literal and its displacement fit
-- the fields of some word, and a branch leads to an index of 32 bits.
pub record IsSpellable (i : ℕ) (insn : Insn) : Type 0 where
  pub word : ℕ
  pub fields : HasFields word insn
  pub target : InsideOf (2 ^ 32) (target_of i insn)
