-- Rewritings as ids.
use Rattle.std.specs.Prelude.{◌≡◌, ℕ, Bool, true, false, List, [], ◌∷◌}
use Rattle.term_table.specs.Tree.{Tree}
use Rattle.term_table.specs.Table.{TableView, IsKnown, tree_at}
use Rattle.word_ops.specs.declared.Op.{Op}
use Rattle.word_ops.specs.declared.Op.TheVariants.{Add}
use Rattle.formula_tree.specs.Formulas.{Exp, EVar, ELit, EOp}
use Rattle.formula_tree.specs.Variables.{PExp, subst_var_exp}
use Rattle.lf_terms.specs.Encoding.{exp_encoding}
use Rattle.lf_terms.specs.ProofTerms.{word_rule, swap, up}
use Rattle.prover_class.specs.NormalForms.{Rewriting, rewriting}
use Rattle.lf_signature.specs.declared.numbers.TheConstants.{ADD_ASSOC, ADD_COMM, BIC_DEF, SUB_NEG, XOR_SELF}
use Rattle.prover_forms.specs.Rules.{negated_sum, regrouped_sum, swapped_sum, scaled_sum, cleared_bits}
use Rattle.prover_sums.specs.declared.rewriting.Rewrite.{Rewrite}
use Rattle.prover_sums.specs.declared.rewriting.Rewrites.{Rewrites}
use Rattle.prover_sums.specs.declared.rewriting.Rewrites.TheVariants as R

-- the ids of a rewriting are the table's
pub record IsKnownRewrite (t : TableView) (s : Rewrite) : Type 0 where
  pub into : IsKnown t s.into
  pub from : IsKnown t s.from
  pub to : IsKnown t s.to
  pub proof : IsKnown t s.proof
  pub after : IsKnown t s.after

-- the ids stand for the rewriting, and for the whole expression after it
pub record IsRewrite (t : TableView) (s : Rewrite) (r : Rewriting) : Type 0 where
  pub into : tree_at t s.into ≡ exp_encoding r.into
  pub from : tree_at t s.from ≡ exp_encoding r.from
  pub to : tree_at t s.to ≡ exp_encoding r.to
  pub proof : tree_at t s.proof ≡ r.proof
  pub after : tree_at t s.after ≡ exp_encoding (subst_var_exp r.into 0 (PExp r.to))

-- the same of none, one or three
abbrev pub AreKnownRewrites : TableView → Rewrites → Type 0
AreKnownRewrites t R.Nothing = Unit {0}
AreKnownRewrites t (R.One s) = IsKnownRewrite t s
AreKnownRewrites t (R.Three s u v) = IsKnownRewrite t s × IsKnownRewrite t u × IsKnownRewrite t v

-- the ids stand for the rewritings, one after another
abbrev pub AreRewrites : TableView → Rewrites → List Rewriting → Type 0
AreRewrites t R.Nothing [] = Unit {0}
AreRewrites t (R.One s) (r ∷ []) = IsRewrite t s r
AreRewrites t (R.Three s u v) (r ∷ p ∷ q ∷ []) = IsRewrite t s r × IsRewrite t u p × IsRewrite t v q
AreRewrites t _ _ = ⊥

-- a whole expression, by a proof
abbrev pub whole_of : Exp → Exp → Tree → Rewriting
whole_of f t p = rewriting (EVar 0) f t p

-- a difference to a sum
abbrev pub negated_of : Exp → Exp → Exp → Rewriting
negated_of f x y = whole_of f (negated_sum x y) (word_rule SUB_NEG (x ∷ y ∷ []) [])

-- an operator to the sum of its first operand, shifted to the left by c, and its second
abbrev pub scaled_of : ℕ → ℕ → Exp → Exp → Exp → Rewriting
scaled_of n c f x y = whole_of f (scaled_sum c x y) (word_rule n (x ∷ y ∷ []) [])

-- bits cleared to a bitwise and with the complement
abbrev pub complemented_of : Exp → Exp → Exp → Rewriting
complemented_of f x y = whole_of f (cleared_bits x y) (word_rule BIC_DEF (x ∷ y ∷ []) [])

-- an exclusive or of an expression with itself to 0
abbrev pub cancelled_of : Exp → Exp → Rewriting
cancelled_of f x = whole_of f (ELit 0) (word_rule XOR_SELF (x ∷ []) [])

-- an operator to one of its operands
abbrev pub operand_of : ℕ → Exp → Exp → Rewriting
operand_of n f x = whole_of f x (word_rule n (x ∷ []) [])

-- a sum of a sum and another, grouped to the right
abbrev pub regrouped_of : Exp → Exp → Exp → Exp → Rewriting
regrouped_of f x y z = whole_of f (regrouped_sum x y z) (word_rule ADD_ASSOC (x ∷ y ∷ z ∷ []) [])

-- a sum with its sides exchanged
abbrev pub commuted_of : Exp → Exp → Exp → Rewriting
commuted_of f x y = whole_of f (swapped_sum x y) (word_rule ADD_COMM (x ∷ y ∷ []) [])

-- a sum of an expression and a sum, grouped to the left
abbrev pub ungrouped_of : Exp → Exp → Exp → Rewriting
ungrouped_of x y z =
    whole_of (EOp Add x (EOp Add y z)) (EOp Add (EOp Add x y) z) (swap (EOp Add (EOp Add x y) z) (EOp Add x (EOp Add y z)) (word_rule ADD_ASSOC (x ∷ y ∷ z ∷ []) []))

-- a rewriting in the left part
abbrev pub left_rewriting : Op → Exp → Rewriting → Rewriting
left_rewriting o y s = rewriting (EOp o s.into (up y)) s.from s.to s.proof

-- a rewriting in the right part
abbrev pub right_rewriting : Op → Exp → Rewriting → Rewriting
right_rewriting o y s = rewriting (EOp o (up y) s.into) s.from s.to s.proof

-- whether there is something to rewrite
abbrev pub has_rewrites : Rewrites → Bool
has_rewrites R.Nothing = false
has_rewrites (R.One s) = true
has_rewrites (R.Three s u v) = true
