-- What is left of a sum, and where variable 0 stands, as ids say it.
use Rattle.std.specs.Prelude.{◌≡◌, ℕ, Bool, Option, Some, None}
use Rattle.term_table.specs.Table.{TableView, tree_at}
use Rattle.lf_signature.specs.Nodes.{IsIdOf}
use Rattle.formula_tree.specs.Formulas.{Exp, MemExp}
use Rattle.lf_terms.specs.Encoding.{exp_encoding, mem_encoding}
use Rattle.prover_class.specs.Access.{has_var, has_var_mem}

-- an id, or none, stands for an expression, or none
abbrev pub IsExpOption : TableView → Option Exp → Option ℕ → Type 0
IsExpOption t o None = o ≡ None
IsExpOption t None (Some id) = ⊥
IsExpOption t (Some x) (Some id) = IsIdOf t (exp_encoding x) id

-- whether variable 0 stands in the expression of the id, whatever that is
abbrev pub OccursInExp : TableView → ℕ → Bool → Type 0
OccursInExp t id b = (e : Exp) → tree_at t id ≡ exp_encoding e → b ≡ has_var 0 e

-- the same of a memory
abbrev pub OccursInMem : TableView → ℕ → Bool → Type 0
OccursInMem t id b = (m : MemExp) → tree_at t id ≡ mem_encoding m → b ≡ has_var_mem 0 m
