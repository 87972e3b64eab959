-- Where an instruction leads, and what code is. Alpha Architecture Handbook, "Control Instructions".
use Rattle.std.specs.Prelude.{◌≡◌, ℕ, ◌-◌, ◌<◌, ◌≤◌, List, length, slice_get, Option, Some, None, ℤ, pos, negsuc, true}
use Rattle.alpha_words.specs.declared.insn.Insn.{Insn}
use Rattle.alpha_words.specs.Encoding.{EncodesAny, has_insn}
use Rattle.alpha_words.specs.Lawful.{target_of}
use Rattle.alpha_cfg.specs.Actions.{action_of, next_after}
use Rattle.alpha_cfg.specs.declared.code.TheConstants.{MAX_WORDS}
use Rattle.word_ops.specs.declared.Profile.{Profile}

-- a number that is an index
abbrev pub index_of : ℤ → Option ℕ
index_of (pos n) = Some n
index_of (negsuc n) = None

-- the index that a target is
abbrev pub landing : Option ℤ → Option ℕ
landing None = None
landing (Some z) = index_of z

-- the index after the instruction, where it may go on there
abbrev pub next_of : ℕ → Insn → Option ℕ
next_of i insn = next_after i (action_of insn)

-- the index that the instruction branches to
abbrev pub jump_of : ℕ → Insn → Option ℕ
jump_of i insn = landing (target_of i insn)

-- a branch leads to an index below n
abbrev pub InsideOf : ℕ → Option ℤ → Type 0
InsideOf n None = Unit {0}
InsideOf n (Some (pos k)) = k < n
InsideOf n (Some (negsuc k)) = ⊥

-- code may not go on after the instruction
abbrev pub IsFinal : Insn → Type 0
IsFinal insn = next_of 0 insn ≡ None

-- the instruction at i, if there is one, branches to an index of the code
abbrev pub IsInside : List Insn → ℕ → Type 0
IsInside code i = (insn : Insn) → slice_get code i ≡ Some insn → InsideOf (length code) (target_of i insn)

-- code may not go on after the instruction at i
abbrev pub IsFinalAt : List Insn → ℕ → Type 0
IsFinalAt code i = (insn : Insn) → slice_get code i ≡ Some insn → IsFinal insn

-- an instruction that some word encodes
abbrev pub IsInsn : Insn → Type 0
IsInsn insn = (word : ℕ) × EncodesAny word insn

-- the profile has each instruction
abbrev pub AreOfProfile : Profile → List Insn → Type 0
AreOfProfile p code = (i : ℕ) (insn : Insn) → slice_get code i ≡ Some insn → has_insn p insn ≡ true

-- each instruction is encoded by some word
abbrev pub AreInsns : List Insn → Type 0
AreInsns code = (i : ℕ) (insn : Insn) → slice_get code i ≡ Some insn → IsInsn insn

-- Code: 1 to 1,024 instructions, each of which some word encodes. Its branches stay inside, and it can't run off its end.
pub record IsCode (code : List Insn) : Type 0 where
  pub nonempty : 0 < length code
  pub short : length code ≤ MAX_WORDS
  pub encoded : AreInsns code
  pub inside : (i : ℕ) → IsInside code i
  pub ends : IsFinalAt code (length code - 1)
