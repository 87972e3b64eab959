-- What an id becomes where an expression is put for a variable.
use Rattle.std.specs.Prelude.{◌≡◌, ℕ}
use Rattle.term_table.specs.Table.{TableView, IsKnown, tree_at}
use Rattle.formula_tree.specs.Formulas.{Exp, MemExp, Form}
use Rattle.formula_tree.specs.Variables.{PExp, subst_var_exp, subst_var_mem, subst_var}
use Rattle.lf_terms.specs.Encoding.{exp_encoding, mem_encoding, form_encoding}

-- in the later table r stands for the expression of id with that of arg for the variable x, whatever they are in the earlier one
pub record IsExpPut (t u : TableView) (id x arg r : ℕ) : Type 0 where
  pub known : IsKnown u r
  pub is : (e o : Exp) → tree_at t id ≡ exp_encoding e → tree_at t arg ≡ exp_encoding o → tree_at u r ≡ exp_encoding (subst_var_exp e x (PExp o))

-- the same of a memory
pub record IsMemPut (t u : TableView) (id x arg r : ℕ) : Type 0 where
  pub known : IsKnown u r
  pub is : (m : MemExp) (o : Exp) → tree_at t id ≡ mem_encoding m → tree_at t arg ≡ exp_encoding o → tree_at u r ≡ mem_encoding (subst_var_mem m x (PExp o))

-- the same of a formula
pub record IsFormPut (t u : TableView) (id x arg r : ℕ) : Type 0 where
  pub known : IsKnown u r
  pub is : (A : Form) (o : Exp) → tree_at t id ≡ form_encoding A → tree_at t arg ≡ exp_encoding o → tree_at u r ≡ form_encoding (subst_var A x (PExp o))
