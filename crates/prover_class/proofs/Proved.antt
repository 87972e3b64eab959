-- What the proofs of easy formulas are: proof terms of a type, with room below 2 ^ 32.
use Rattle.std.specs.Prelude.{ℕ, zero, suc, ◌≤◌, List, [], ◌∷◌}
use Rattle.term_table.specs.Tree.{Tree, shift}
use Rattle.lf_signature.specs.Typing.{Checks}
use Rattle.lf_signature.specs.Constants.{declared}
use Rattle.lf_signature.specs.Terms.{pf}
use Rattle.lf_signature.specs.Rules.{Premise}
use Rattle.lf_terms.specs.Plain.{var_bound}
use Rattle.lf_terms.specs.Instance.{premise_with}
use Rattle.formula_tree.specs.Formulas.{Form}
use Rattle.lf_terms.specs.Encoding.{form_encoding}
use Rattle.prover_class.proofs.Scope.{Over, nesting}
use Rattle.prover_class.specs.Hypotheses.{Hyps}
use Rattle.lf_signature.specs.declared.editions.WordSignature.{WordSignature}

module _ (sig : WordSignature) where
  -- the term is of the type, and no variable of it passes the bound
  pub record Proves (bound : ℕ) (ctx : List Tree) (type p : Tree) : Type 0 where
    pub checks : Checks (declared sig) ctx p type
    pub room : var_bound p ≤ bound

  -- one proof for each premise
  abbrev pub AllProve : ℕ → List Tree → (ℕ → Tree) → List Premise → List Tree → Type 0
  AllProve bound ctx args [] [] = Unit {0}
  AllProve bound ctx args (q ∷ qs) (p ∷ ps) = Proves bound ctx (premise_with q args) p × AllProve bound ctx args qs ps
  AllProve bound ctx args _ _ = ⊥

  -- the term proves the formula, and does so under up to k more binders
  abbrev pub Stays : ℕ → ℕ → List Tree → Tree → Tree → Type 0
  Stays bound zero ctx a p = Proves bound ctx (pf a) p
  Stays bound (suc k) ctx a p = Proves bound ctx (pf a) p × ((t : Tree) → Stays bound k (t ∷ ctx) (shift 1 0 a) (shift 1 0 p))

  -- a hypothesis with its proof: over the context, of at most d binders in one another
  pub record IsHyp (bound d k : ℕ) (ctx : List Tree) (h : Form × Tree) : Type 0 where
    pub over : Over sig h.0 ctx
    pub nesting : nesting h.0 ≤ d
    pub stays : Stays bound k ctx (form_encoding h.0) h.1

  -- each of them
  abbrev pub AreHyps : ℕ → ℕ → ℕ → List Tree → Hyps → Type 0
  AreHyps bound d k ctx [] = Unit {0}
  AreHyps bound d k ctx (h ∷ l) = IsHyp bound d k ctx h × AreHyps bound d k ctx l
