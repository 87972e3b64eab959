-- Which formula a proof proves: the one of the type of proofs that it synthesises.
use Rattle.std.proofs.Common.{◌≡◌, ℕ, Option, Some, None, IfSome, Result, Ok, Err, IfOk, [], sym, subst}
use Rattle.term_table.specs.Tree.{Tree, Const}
use Rattle.term_table.specs.Table.{TableView, tree_at}
use Rattle.hereditary_subst.specs.Simples.{IsResult}
use Rattle.lf_signature.specs.Terms.{pf}
use Rattle.lf_signature.specs.Typing.{Checks, atom_checks, Synth}
use Rattle.lf_signature.specs.Laws.Decided.{synth_unique}
use Rattle.formula_tree.specs.Formulas.{Form}
use Rattle.formula_tree.specs.Truth.{IsValid}
use Rattle.lf_truth.specs.Validity.{EncodesClosed, IsSoundSignature}

pf-same : (g h : Tree) → pf g ≡ pf h → g ≡ h
pf-same g h e = cc

-- over any signature
module _ (sig : Const → Option Tree) where
  -- a proof synthesises the type of the proofs of its formula
  synthesised : {p g : Tree} → Checks sig [] p (pf g) → Synth sig [] p (pf g)
  synthesised (atom_checks d h) = d

  -- a proof proves one formula at most
  pub one-formula : (p g h : Tree) → Checks sig [] p (pf g) → Checks sig [] p (pf h) → g ≡ h
  one-formula p g h d e = pf-same g h (synth_unique sig (synthesised d) (synthesised e))

  -- without a type there is no formula
  pub formula-none : (p : Tree) → ((a : Tree) → Synth sig [] p a → ⊥) → (g : Tree) → Checks sig [] p (pf g) → ⊥
  formula-none p none g h = none (pf g) (synthesised h)

  -- the formula is the one of the type, if that has one
  pub formula-is : (u : TableView) (p : Tree) (a : ℕ) (o : Option ℕ) → Synth sig [] p (tree_at u a) → IsResult u (λ g. tree_at u a ≡ pf g) o → IsResult u
      (λ g. Checks sig [] p (pf g)) o
  formula-is u p a None d none = λ g h. none g (synth_unique sig d (synthesised h))
  formula-is u p a (Some id) d h = (h.0, atom_checks (subst (λ z. Synth sig [] p z) h.1 d) tt)

  -- it is true where it encodes a closed one
  pub formulas-valid : IsSoundSignature sig → (u : TableView) (p : Tree) (o : Option ℕ) → IsResult u (λ g. Checks sig [] p (pf g)) o → IfSome o
      (λ id. (F : Form) → EncodesClosed F (tree_at u id) → IsValid F)
  formulas-valid sound u p None h = tt
  formulas-valid sound u p (Some id) h = λ F e. sound F p e.over (subst (λ z. Checks sig [] p (pf z)) (sym e.is) h.1)

  -- so of an answer
  pub formulas-ok : {E : Type 0} → IsSoundSignature sig → (u : TableView) (p : Tree)
      (r : Result (Option ℕ) E) → IfOk r (IsResult u (λ g. Checks sig [] p (pf g)))
      → IfOk r
      (λ o. IfSome o (λ id. (F : Form) → EncodesClosed F (tree_at u id) → IsValid F))
  formulas-ok sound u p (Ok o) h = formulas-valid sound u p o h
  formulas-ok sound u p (Err e) h = tt
