-- What the walk that compares has in memory.
use Rattle.std.specs.Prelude.{ℕ, List}
use Rattle.alpha_words.specs.declared.insn.Insn.{Insn}
use Rattle.term_table.specs.Table.{TableView}
use Rattle.hereditary_subst.specs.declared.kept.Memo.{Memo}
use Rattle.hereditary_subst.specs.Kept.{IsMemo}
use Rattle.lf_encode.specs.declared.puts.MachineIds.{MachineIds}
use Rattle.lf_encode.specs.Kept.{IsPutMemo, AreMachineTerms}
use Rattle.vcgen.specs.declared.symbols.Symbols.{Symbols}
use Rattle.vcgen.specs.declared.walk.Program.{Program}
use Rattle.gate_match.specs.declared.comparisons.Comparisons.{Comparisons}
use Rattle.gate_match.specs.Inside.Uses.{AreUses}
use Rattle.vcgen.specs.Symbols.{ids_of, IsKnownProgram}

-- results of the terms that ids stand for, and of earlier ones, are right
pub record AreComparisons (t : TableView) (machine : MachineIds) (c : Comparisons) : Type 0 where
  pub puts : IsPutMemo t machine c.puts
  pub ready : AreMachineTerms t (ids_of c.earlier)
  pub before : IsPutMemo t (ids_of c.earlier) c.before
  pub uses : AreUses t c.uses

-- a program, ids for the machine's variables, and what comparisons with their terms kept, are right of the table
pub record IsComparing (t : TableView) (insns : List Insn) (ids : List (ℕ × ℕ)) (at_end : ℕ) (machine : MachineIds) (memo : Memo) (c : Comparisons) : Type 0 where
  pub program : IsKnownProgram t insns ids at_end
  pub ready : AreMachineTerms t machine
  pub shifts : IsMemo t memo
  pub kept : AreComparisons t machine c

-- the same of what a walk that compares has in memory
abbrev pub Compares : TableView → Program → Symbols → Memo → Comparisons → Type 0
Compares t p s memo c = IsComparing t p.code.now p.invs.now p.post (ids_of s) memo c
