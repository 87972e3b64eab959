-- A source as it stands in memory, without addresses, and what answers of calls say.
use Rattle.std.specs.Prelude.{◌≡◌, ℕ, Bool, List, map, Result, Ok, Err}
use Rattle.word_ops.specs.declared.Profile.{Profile}
use Rattle.formula_tree.specs.Views.{form_view}
use Rattle.asm_text.specs.declared.fault.LineFlaw.{LineFlaw}
use Rattle.asm_text.specs.declared.fault.LineFault.{LineFault}
use Rattle.asm_text.specs.declared.fault.LineFault.TheVariants as F
use Rattle.asm_text.specs.declared.insns.SrcInsn as insn
use Rattle.asm_text.specs.declared.insns.SrcInsn.TheVariants as E
use Rattle.asm_text.specs.declared.sources.Source as source
use Rattle.asm_text.specs.Insns.{SourceInsn, Plain, BranchTo, BrTo}
use Rattle.asm_text.specs.Sources.{Source, SpellsSource}

-- an instruction of a source without addresses
abbrev pub source_insn_view : insn.SrcInsn → SourceInsn
source_insn_view (E.Plain i) = Plain i
source_insn_view (E.Branch j ra l) = BranchTo j ra l.text.items
source_insn_view (E.Br l) = BrTo l.text.items

-- a source without addresses
unfoldable pub source_view : source.Source → Source
source_view s = record {
  insns = map (λ p. (p.0, source_insn_view p.1)) s.insns.items;
  labels = map (λ p. (p.0.text.items, p.1)) s.labels.items;
  invs = map (λ p. (p.0, form_view p.1)) s.invs.items;
}

-- an answer, seen by view, is what parsing gives, unless memory ran out
abbrev pub ParsesSource : {X Y : Type 0} → (X → Y) → Result Y (ℕ × LineFlaw) → Result X LineFault → Type 0
ParsesSource view parsed (Ok x) = parsed ≡ Ok (view x)
ParsesSource view parsed (Err (F.At n flaw)) = parsed ≡ Err (n, flaw)
ParsesSource view parsed (Err F.Memory) = Unit {0}

-- the text spells no source
abbrev pub SpellsNoSource : Profile → Bool → List ℕ → LineFault → Type 0
SpellsNoSource profile left text (F.At n flaw) = (s : Source) → SpellsSource profile left text s → ⊥
SpellsNoSource profile left text F.Memory = Unit {0}
