-- Which node a constant at arguments is, by the constant alone.
use Rattle.std.specs.Prelude.{◌≡◌, ◌<◌, ℕ, ◌==◌, if◌then◌else◌, Option, Some, None}
use Rattle.word_ops.specs.declared.Op.{Op}
use Rattle.word_ops.specs.declared.Rel.{Rel}
use Rattle.term_table.specs.Tree.{Tree, Lam}
use Rattle.term_table.specs.Table.{TableView, tree_at}
use Rattle.word_ops.specs.Operators.{op_of_constant}
use Rattle.lf_signature.specs.Numbers.{rel_of_constant}
use Rattle.lf_signature.specs.declared.numbers.TheConstants.{RD, WR, AND, OR, ALL}
use Rattle.prover_ids.specs.declared.nodes.ExpNode.{ExpNode}
use Rattle.prover_ids.specs.declared.nodes.ExpNode.TheVariants as E
use Rattle.prover_ids.specs.declared.forms.Access.TheVariants.{Load, Store}
use Rattle.prover_ids.specs.declared.forms.FormNode.{FormNode}
use Rattle.prover_ids.specs.declared.forms.FormNode.TheVariants as F

-- an operator, or the word of a memory
abbrev pub word_node : Option Op → ℕ → ℕ → ExpNode
word_node (Some o) a b = E.Apply o a b
word_node None a b = E.Sel a b

-- what the constant c at two parts is
abbrev pub applied_node : ℕ → ℕ → ℕ → ExpNode
applied_node c a b = word_node (op_of_constant c) a b

-- a quantifier over what stands under a binder
abbrev pub quantified_node : ℕ → Option ℕ → FormNode
quantified_node c None = F.True
quantified_node c (Some b) = if c == ALL then F.All b else F.AllMem b

-- the formula of the constant c at one part, which has that body where it is an abstraction
abbrev pub unary_node : ℕ → ℕ → Option ℕ → FormNode
unary_node c a body = if c == RD then F.Right Load a else if c == WR then F.Right Store a else quantified_node c body

-- a relation, or else a connective
abbrev pub joined_node : Option Rel → ℕ → ℕ → ℕ → FormNode
joined_node (Some r) c a b = F.Relation r a b
joined_node None c a b = if c == AND then F.And a b else if c == OR then F.Or a b else F.Imp a b

-- the formula of the constant c at two parts
abbrev pub binary_node : ℕ → ℕ → ℕ → FormNode
binary_node c a b = joined_node (rel_of_constant c) c a b

-- the id, if there is one, stands for what is under the binder
abbrev pub IsBody : TableView → ℕ → Option ℕ → Type 0
IsBody t id None = (b : Tree) → tree_at t id ≡ Lam b → ⊥
IsBody t id (Some b) = (b < id) × (tree_at t id ≡ Lam (tree_at t b))
