-- What the walk that makes the condition has in memory.
use Rattle.std.specs.Prelude.{◌≡◌, ℕ, true, List}
use Rattle.alpha_words.specs.declared.insn.Insn.{Insn}
use Rattle.term_table.specs.Tree.{Tree, shift, fits}
use Rattle.term_table.specs.Table.{TableView}
use Rattle.hereditary_subst.specs.declared.kept.Memo.{Memo}
use Rattle.hereditary_subst.specs.Kept.{IsMemo}
use Rattle.lf_signature.specs.Nodes.{IsIdOf}
use Rattle.lf_encode.specs.declared.puts.MachineIds.{MachineIds}
use Rattle.lf_encode.specs.declared.puts.PutMemo.{PutMemo}
use Rattle.lf_encode.specs.Kept.{IsPutMemo, AreMachineTerms}
use Rattle.vcgen.specs.declared.symbols.Symbols.{Symbols}
use Rattle.vcgen.specs.declared.walk.Program.{Program}
use Rattle.vcgen.specs.Symbols.{ids_of, IsKnownProgram}

-- the id stands for the term, which can be shifted over so many binders as a formula may have
pub record IsTermFor (t : TableView) (tree : Tree) (id : ℕ) : Type 0 where
  pub stands : IsIdOf t tree id
  pub room : fits (shift 2147483648 0 tree) ≡ true

-- a program, ids for the machine's variables, and what is kept of their terms, are right of the table
pub record IsWalking (t : TableView) (insns : List Insn) (ids : List (ℕ × ℕ)) (at_end : ℕ) (machine : MachineIds) (memo : Memo) (puts : PutMemo) : Type 0 where
  pub program : IsKnownProgram t insns ids at_end
  pub ready : AreMachineTerms t machine
  pub shifts : IsMemo t memo
  pub kept : IsPutMemo t machine puts

-- the same of what a walk has in memory
abbrev pub Walks : TableView → Program → Symbols → Memo → PutMemo → Type 0
Walks t p s memo puts = IsWalking t p.code.now p.invs.now p.post (ids_of s) memo puts
