-- Invariants as ids of a table.
use Rattle.std.specs.Prelude.{◌≡◌, ℕ, ◌++◌, List, drop, map}
use Rattle.std.specs.List.{AllByRecursion}
use Rattle.formula_tree.specs.Formulas.{Form}
use Rattle.term_table.specs.Tree.{Tree}
use Rattle.term_table.specs.Table.{TableView, IsKnown, id_trees}
use Rattle.lf_encode.specs.Contexts.{machine_context, encoding_in}
use Rattle.bpf_words.specs.declared.insn.Bpf.{Bpf}
use Rattle.bpf_condition.specs.Invariants.{invariants_from}
use Rattle.bpf_compile.specs.Contents.{invariant_terms}

-- the terms of invariants
abbrev pub inv_terms : List (ℕ × Form) → List (ℕ × Tree)
inv_terms invs = map (λ p. (p.0, encoding_in machine_context p.1)) invs

-- the ids are those of the invariants of the first i blocks
pub record AreFirstIds (t : TableView) (program : List Bpf) (i : ℕ) (ids : List (ℕ × ℕ)) : Type 0 where
  pub known : AllByRecursion (λ (inv : ℕ × ℕ). IsKnown t inv.1) ids
  pub trees : id_trees t ids ++ inv_terms (invariants_from i (drop i program)) ≡ invariant_terms program

-- the ids are those of the program's invariants
pub record AreInvIds (t : TableView) (program : List Bpf) (ids : List (ℕ × ℕ)) : Type 0 where
  pub known : AllByRecursion (λ (inv : ℕ × ℕ). IsKnown t inv.1) ids
  pub trees : id_trees t ids ≡ invariant_terms program
