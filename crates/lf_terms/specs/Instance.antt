-- A rule at arguments: its premises and its conclusion with terms for the parameters.
-- Rules as constants of a signature: Harper, Honsell and Plotkin, A Framework for Defining Logics, JACM 1993.
use Rattle.std.specs.Prelude.{ℕ, zero, suc, ◌+◌, ◌≤◌, ◌^◌, Option, List, [], ◌∷◌}
use Rattle.term_table.specs.Tree.{Tree, Const, Var, Con, Pi, Num, shift, apps}
use Rattle.term_table.specs.Table.{TableView, tree_at}
use Rattle.lf_signature.specs.Terms.{exp, mem, pf, lit, op_term, sel, upd, truth, falsity, rel_term, and_term, or_term, imp_term, app1}
use Rattle.lf_signature.specs.declared.numbers.TheConstants.{ALL, ALLM}
use Rattle.lf_signature.specs.Rules.{Sort, sort_type, SExp, SPar, SOwn, SLit, SOp, SSel, SMem, MPar, MOwn, SUpd, SForm, STrue, SFalse, FPar, FOf, FOfMem, SRel, SAnd, SOr, SImp, SAll, SAllm, Premise, Plain, Under, ForExp, ForMem}
use Rattle.lf_signature.specs.Typing.{Checks}
use Rattle.lf_terms.specs.Plain.{beta, var_bound, binder_depth}

-- the trees that ids stand for
abbrev pub trees_of : TableView → List ℕ → List Tree
trees_of t [] = []
trees_of t (id ∷ ids) = tree_at t id ∷ trees_of t ids

-- the argument of a parameter; past the last one a closed tree
abbrev pub nth_arg : List Tree → ℕ → Tree
nth_arg [] i = truth
nth_arg (a ∷ l) zero = a
nth_arg (a ∷ l) (suc i) = nth_arg l i

abbrev mutual
  -- the schema of an expression with args for the parameters; a premise's own variable is variable 0
  pub exp_with : SExp → (ℕ → Tree) → Tree
  exp_with (SPar i) args = args i
  exp_with SOwn args = Var 0
  exp_with (SLit w) args = lit w
  exp_with (SOp o a b) args = op_term o (exp_with a args) (exp_with b args)
  exp_with (SSel m a) args = sel (mem_with m args) (exp_with a args)

  -- the same of a memory
  pub mem_with : SMem → (ℕ → Tree) → Tree
  mem_with (MPar i) args = args i
  mem_with MOwn args = Var 0
  mem_with (SUpd m a v) args = upd (mem_with m args) (exp_with a args) (exp_with v args)

-- the same of a formula: F at a word is F's body with the word put in, and (all F) has F itself
abbrev pub form_with : SForm → (ℕ → Tree) → Tree
form_with STrue args = truth
form_with SFalse args = falsity
form_with (FPar i) args = args i
form_with (FOf i a) args = beta (args i) (exp_with a args)
form_with (FOfMem i m) args = beta (args i) (mem_with m args)
form_with (SRel r a b) args = rel_term r (exp_with a args) (exp_with b args)
form_with (SAnd p q) args = and_term (form_with p args) (form_with q args)
form_with (SOr p q) args = or_term (form_with p args) (form_with q args)
form_with (SImp p q) args = imp_term (form_with p args) (form_with q args)
form_with (SAll i) args = app1 ALL (args i)
form_with (SAllm i) args = app1 ALLM (args i)

-- the arguments under one more binder
abbrev pub under_binder : (ℕ → Tree) → ℕ → Tree
under_binder args i = shift 1 0 (args i)

-- the type of a premise's proofs
abbrev pub premise_with : Premise → (ℕ → Tree) → Tree
premise_with (Plain p) args = pf (form_with p args)
premise_with (Under p q) args = Pi (pf (form_with p args)) (pf (form_with q (under_binder args)))
premise_with (ForExp p) args = Pi exp (pf (form_with p (under_binder args)))
premise_with (ForMem p) args = Pi mem (pf (form_with p (under_binder args)))

-- a rule's constant at its arguments and at proofs of its premises
abbrev pub by_rule : ℕ → List Tree → List Tree → Tree
by_rule n args proofs = apps (apps (Con (Num n)) args) proofs

-- An argument: a term of the parameter's type with at most d binders in one another, whose variables leave room below 2 ^ 32 for twice as many and for the rule's own.
pub record IsArgument (sig : Const → Option Tree) (ctx : List Tree) (d : ℕ) (s : Sort) (a : Tree) : Type 0 where
  pub checks : Checks sig ctx a (sort_type s)
  pub depth : binder_depth a ≤ d
  pub room : var_bound a + (d + d) + 16 ≤ 2 ^ 32

-- one for each parameter
abbrev pub AreArguments : (Const → Option Tree) → List Tree → ℕ → List Sort → List Tree → Type 0
AreArguments sig ctx d [] [] = Unit {0}
AreArguments sig ctx d (s ∷ ss) (a ∷ l) = IsArgument sig ctx d s a × AreArguments sig ctx d ss l
AreArguments sig ctx d _ _ = ⊥

-- a premise's proof, with the same room
pub record IsProof (sig : Const → Option Tree) (ctx : List Tree) (d : ℕ) (type p : Tree) : Type 0 where
  pub checks : Checks sig ctx p type
  pub room : var_bound p + (d + d) + 16 ≤ 2 ^ 32

-- one for each premise
abbrev pub AreProofs : (Const → Option Tree) → List Tree → ℕ → (ℕ → Tree) → List Premise → List Tree → Type 0
AreProofs sig ctx d args [] [] = Unit {0}
AreProofs sig ctx d args (q ∷ qs) (p ∷ ps) = IsProof sig ctx d (premise_with q args) p × AreProofs sig ctx d args qs ps
AreProofs sig ctx d args _ _ = ⊥
