-- What is put for the variable of a quantified hypothesis, by whether the variable is scaled.
use Rattle.std.specs.Prelude.{ℕ, Bool, true, false, if◌then◌else◌, Option, None}
use Rattle.term_table.specs.Subst.{bind}
use Rattle.word_ops.specs.declared.Op.TheVariants.{Sll}
use Rattle.formula_tree.specs.Formulas.{Exp, EVar, ELit, EOp}
use Rattle.formula_tree.specs.Variables.{PExp, subst_var_exp}
use Rattle.prover_class.specs.NormalForms.{normal_form}
use Rattle.prover_class.specs.Access.{has_var, rest_of, eighth}

-- variable 0, or 8 times it where scaled
abbrev pub variable_index : Bool → Exp
variable_index true = EOp Sll (EVar 0) (ELit 3)
variable_index false = EVar 0

-- what is left of a without b, where 0 is put for variable 0 of b
abbrev pub rest_at : ℕ → Exp → Exp → Option Exp
rest_at out a b = rest_of (normal_form out a).now (normal_form out (subst_var_exp b 0 (PExp (ELit 0)))).now

-- an eighth of it where scaled
abbrev pub scaled_rest : Bool → Option Exp → Option Exp
scaled_rest true o = bind o eighth
scaled_rest false o = o

-- what is put for the variable of (add b x), or of (add b (sll x 3)) where scaled, b being without it
abbrev pub index_at : ℕ → Exp → Exp → Bool → Option Exp
index_at out a b scaled = if has_var 0 b then None else scaled_rest scaled (rest_at out a b)
