-- What answers of calls say.
use Rattle.std.specs.Prelude.{◌≡◌, ℕ, List, Bool, Option, Result, Ok, Err}
use Rattle.policy_set.specs.Views.{PolicyView}
use Rattle.proof_container.specs.Contents.{Contents}
use Rattle.asm_text.specs.Sources.{Source, SpellsSource}
use Rattle.pcc_asm.specs.declared.fault.AsmFault.{AsmFault}
use Rattle.pcc_asm.specs.declared.fault.AsmFault.TheVariants as F
use Rattle.pcc_asm.specs.Assembling.{Assembles, assembled_contents}
use Rattle.word_ops.specs.declared.Profile.{Profile}

-- some text spells the source in the profile; its invariants may name the steps that are left where
-- the second argument is true
abbrev pub IsSpelled : Profile → Bool → Source → Type 0
IsSpelled p left s = (text : List ℕ) × SpellsSource p left text s

-- the contents that are assembled, or the first line that is wrong; want of memory says nothing of the source
abbrev pub IsAsmAnswer : ℕ → Option ℕ → PolicyView → Source → Result Contents AsmFault → Type 0
IsAsmAnswer v bound policy s (Ok c) = assembled_contents v bound policy s ≡ Ok c
IsAsmAnswer v bound policy s (Err (F.At flaw)) = assembled_contents v bound policy s ≡ Err flaw
IsAsmAnswer v bound policy s (Err F.Memory) = Unit {0}

-- no contents are those of the source
abbrev pub AssemblesNone : ℕ → Option ℕ → PolicyView → Source → AsmFault → Type 0
AssemblesNone v bound policy s (F.At flaw) = (c : Contents) → Assembles v bound policy s c → ⊥
AssemblesNone v bound policy s F.Memory = Unit {0}
