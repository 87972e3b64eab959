-- What a walk over code goes by, on ids: terms for the machine's variables, the invariants of a program, and effects.
use Rattle.std.specs.Prelude.{◌≡◌, ℕ, ◌+◌, ◌<◌, ◌^◌, ◌==◌, List, [], ◌∷◌, Option, Some, find, option_map}
use Rattle.alpha_words.specs.declared.insn.Insn.{Insn}
use Rattle.alpha_cfg.specs.Flow.{IsCode}
use Rattle.term_table.specs.Measures.{height_of}
use Rattle.term_table.specs.Table.{TableView, IsKnown, tree_at}
use Rattle.lf_signature.specs.Nodes.{IsIdOf}
use Rattle.lf_encode.specs.declared.puts.MachineIds.{MachineIds}
use Rattle.lf_encode.specs.PutTree.{MachineTerms, machine_terms_at}
use Rattle.lf_encode.specs.Kept.{AreMachineTerms}
use Rattle.vcgen.specs.declared.symbols.Symbols.{Symbols}
use Rattle.vcgen.specs.declared.effects.Effect as rust
use Rattle.vcgen.specs.declared.effects.Effect.TheVariants as E
use Rattle.vcgen.specs.WalkTree.{InsnEffect, Computed, Access, Split, Jump, Return}

-- the terms of a walk, as they are put
abbrev pub ids_of : Symbols → MachineIds
ids_of s = record { regs = s.regs; memory = s.memory; left = s.left }

-- the id of an index's invariant, if it is annotated
abbrev pub inv_id : List (ℕ × ℕ) → ℕ → Option ℕ
inv_id ps i = option_map (λ p. p.1) (find (λ p. p.0 == i) ps)

-- ids of invariants are the table's, and their terms aren't high
abbrev pub AreInvs : TableView → List (ℕ × ℕ) → Type 0
AreInvs t [] = Unit {0}
AreInvs t (p ∷ ps) = IsKnown t p.1 × (height_of (tree_at t p.1) < 2 ^ 31) × AreInvs t ps

-- code, with ids for its invariants and for what holds at its end
pub record IsKnownProgram (t : TableView) (insns : List Insn) (ids : List (ℕ × ℕ)) (at_end : ℕ) : Type 0 where
  pub code : IsCode insns
  pub invs : AreInvs t ids
  pub post : IsKnown t at_end
  pub low : height_of (tree_at t at_end) < 2 ^ 31

-- the symbols stand for the terms
pub record StandFor (t : TableView) (s : Symbols) (terms : MachineTerms) : Type 0 where
  pub ready : AreMachineTerms t (ids_of s)
  pub are : machine_terms_at t (ids_of s) ≡ terms

-- An effect by ids is the one on terms, and what it goes on to is an index below the count.
abbrev pub IsEffect : TableView → ℕ → ℕ → rust.Effect → InsnEffect → Type 0
IsEffect t count i (E.Computed s) (Computed terms) = (i + 1 < count) × StandFor t s terms
IsEffect t count i (E.Access a s) (Access tree terms) = (i + 1 < count) × IsIdOf t tree a × StandFor t s terms
IsEffect t count i (E.Split a b j) (Split first second to) = (i + 1 < count) × (j < count) × IsIdOf t first a × IsIdOf t second b × (to ≡ Some j)
IsEffect t count i (E.Jump j) (Jump to) = (j < count) × (to ≡ Some j)
IsEffect t count i E.Return Return = Unit {0}
IsEffect t count i _ _ = ⊥
