-- What kept results of substitutions say of a table's trees.
use Rattle.std.specs.Prelude.{◌≡◌, ℕ, suc}
use Rattle.term_table.specs.Tree.{Lam}
use Rattle.term_table.specs.Table.{TableView, IsKnown, tree_at}
use Rattle.lf_signature.specs.Terms.{app1, app2}
use Rattle.formula_tree.specs.Formulas.{Exp, Form}
use Rattle.formula_tree.specs.Variables.{PExp, subst_var, shift_part}
use Rattle.lf_terms.specs.Encoding.{exp_encoding, form_encoding}
use Rattle.prover_ids.specs.Puts.{IsExpPut, IsMemPut, IsFormPut}
use Rattle.prover_ids.specs.declared.puts.Put.{Put}
use Rattle.prover_ids.specs.declared.puts.Put.TheVariants as Q
use Rattle.prover_ids.specs.declared.kept.Kept.{Kept}
use Rattle.prover_ids.specs.Kept.{AreRight}
use Rattle.prover_ids.specs.contracts.puts.PutOrd.TheImpl as block

-- the answer is right of the question
abbrev pub IsPutAt : TableView → Put → ℕ → Type 0
IsPutAt t (Q.Exp id x arg) r = IsKnown t id × IsKnown t arg × IsExpPut t t id x arg r
IsPutAt t (Q.Mem id x arg) r = IsKnown t id × IsKnown t arg × IsMemPut t t id x arg r
IsPutAt t (Q.Form id x arg) r = IsKnown t id × IsKnown t arg × IsFormPut t t id x arg r

-- each kept result is right
abbrev pub ArePuts : TableView → Kept Put ℕ → Type 0
ArePuts t kept = AreRight block.ghosts.cmp IsPutAt t kept

-- the connective of both formulas with what is put
pub record IsJoinPut (t u : TableView) (connective a b x arg r : ℕ) : Type 0 where
  pub known : IsKnown u r
  pub is : (A B : Form) (o : Exp) → tree_at t a ≡ form_encoding A → tree_at t b ≡ form_encoding B → tree_at t arg ≡ exp_encoding o →
      tree_at u r ≡ app2 connective (form_encoding (subst_var A x (PExp o))) (form_encoding (subst_var B x (PExp o)))

-- the quantifier over the formula with what is put
pub record IsUnderPut (t u : TableView) (quantifier body x arg r : ℕ) : Type 0 where
  pub known : IsKnown u r
  pub is : (A : Form) (o : Exp) → tree_at t body ≡ form_encoding A → tree_at t arg ≡ exp_encoding o →
      tree_at u r ≡ app1 quantifier (Lam (form_encoding (subst_var A (suc x) (shift_part 1 (PExp o)))))
