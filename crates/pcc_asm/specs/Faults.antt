-- What a fault of a source means: the line that is wrong, and why, with no word of the order in which lines are tried.
use Rattle.std.specs.Prelude.{◌≡◌, ℕ, ◌-◌, ◌<◌, length, slice_get, List, Some, None}
use Rattle.alpha_words.specs.declared.insn.Insn.{Insn}
use Rattle.alpha_words.specs.declared.fault.BadWord.{BadWord}
use Rattle.alpha_words.specs.Lawful.{fault_of}
use Rattle.alpha_cfg.specs.Flow.{IsInside, IsFinalAt}
use Rattle.asm_text.specs.Insns.{SourceInsn}
use Rattle.asm_text.specs.Sources.{Source}
use Rattle.pcc_asm.specs.declared.fault.AsmFlaw.{AsmFlaw}
use Rattle.pcc_asm.specs.declared.fault.AsmFlaw.TheVariants as A
use Rattle.pcc_asm.specs.Assembling.{IsResolved, AreResolved}
use Rattle.word_ops.specs.declared.Profile.{Profile}

-- what holds at each index below i doesn't hold at i
abbrev pub FailsFirst : (ℕ → Type 0) → ℕ → Type 0
FailsFirst P i = ((j : ℕ) → j < i → P j) × (P i → ⊥)

-- the source's instruction at index i stands in this line
abbrev pub StandsIn : Source → ℕ → ℕ → Type 0
StandsIn s i line = (said : SourceInsn) × (slice_get s.insns i ≡ Some (line, said))

-- the source's instruction at index i, if there is one, can be resolved: its label, if it has one, stands somewhere
abbrev pub IsResolvable : Source → ℕ → Type 0
IsResolvable s i = (line : ℕ) (said : SourceInsn) → slice_get s.insns i ≡ Some (line, said) → (insn : Insn) × IsResolved s.labels i said insn

-- the profile has the instruction at index i, if there is one
abbrev pub IsLawfulAt : Profile → List Insn → ℕ → Type 0
IsLawfulAt p code i = (insn : Insn) → slice_get code i ≡ Some insn → fault_of p insn ≡ None

-- the profile refuses the instruction at index i, and why
abbrev pub IsRefusedAt : Profile → List Insn → ℕ → BadWord → Type 0
IsRefusedAt p code i bad =
    (insn : Insn) × (slice_get code i ≡ Some insn) × (fault_of p insn ≡ Some bad)

-- The instructions of the source can't be code, and why, with the line: one can't be resolved; else, of those that they are
-- resolved to, the profile refuses one; else one branches outside; else the code may go on after the last.
abbrev pub IsAsmFault : Profile → Source → AsmFlaw → Type 0
IsAsmFault p s (A.NoLabel line) = (i : ℕ) × StandsIn s i line × FailsFirst (IsResolvable s) i
IsAsmFault p s (A.Word line bad) =
    (code : List Insn) × (i : ℕ) × AreResolved s.labels 0 s.insns code × StandsIn s i line
    × FailsFirst (IsLawfulAt p code) i × IsRefusedAt p code i bad
IsAsmFault p s (A.Target line) =
    (code : List Insn) × (i : ℕ) × AreResolved s.labels 0 s.insns code × StandsIn s i line
    × ((j : ℕ) → IsLawfulAt p code j) × FailsFirst (IsInside code) i
IsAsmFault p s (A.FallsOff line) =
    (code : List Insn) × AreResolved s.labels 0 s.insns code × StandsIn s (length code - 1) line
    × ((j : ℕ) → IsLawfulAt p code j) × ((j : ℕ) → IsInside code j)
    × (IsFinalAt code (length code - 1) → ⊥)
