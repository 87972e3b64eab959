-- The answer of a rule: which parameters and premises have its form, and the sequent of its conclusion.
use Rattle.std.specs.Prelude.{◌≡◌, ℕ, List, [], ◌∷◌, ◌++◌, Option, Some, None, is_some, if◌then◌else◌}
use Rattle.term_table.specs.Tree.{Tree, Const, Num, Lam}
use Rattle.term_table.specs.Table.{TableView, IsKnown, tree_at, ctx_of}
use Rattle.lf_signature.specs.Terms.{exp, mem, pf}
use Rattle.lf_signature.specs.Rules.{Sort, sort_type, Premise, Plain, Under, ForExp, ForMem, Rule}
use Rattle.lf_signature.specs.Typing.{Checks}
use Rattle.lf_signature.specs.Constants.{rule_at}
use Rattle.lf_terms.specs.Instance.{nth_arg, form_with, under_binder, by_rule}
use Rattle.lf_sequents.specs.declared.sequent.Sequent.{Sequent}
use Rattle.lf_terms.specs.Instance.{trees_of}
use Rattle.lf_sequents.specs.Sequents.{IsSequent}

-- each term checks at its parameter's type
abbrev pub AreTyped : (Const → Option Tree) → List Tree → List Sort → List Tree → Type 0
AreTyped sig ctx [] [] = Unit {0}
AreTyped sig ctx (s ∷ ss) (a ∷ l) = Checks sig ctx a (sort_type s) × AreTyped sig ctx ss l
AreTyped sig ctx _ _ = ⊥

-- the ids are those of the hypotheses and one more, which stands for the type
pub record Binds (t : TableView) (hyps : List ℕ) (type : Tree) (ids : List ℕ) : Type 0 where
  pub last : ℕ
  pub known : IsKnown t last
  pub is : tree_at t last ≡ type
  pub all : ids ≡ hyps ++ last ∷ []

-- the sequent has the hypotheses and the goal of a premise
abbrev pub FitsPremise : TableView → List ℕ → (ℕ → Tree) → Premise → Sequent → Type 0
FitsPremise t hyps args (Plain p) s = (s.hyps.items ≡ hyps) × (tree_at t s.goal ≡ form_with p args)
FitsPremise t hyps args (Under p q) s = Binds t hyps (pf (form_with p args)) s.hyps.items × (tree_at t s.goal ≡ form_with q (under_binder args))
FitsPremise t hyps args (ForExp p) s = Binds t hyps exp s.hyps.items × (tree_at t s.goal ≡ form_with p (under_binder args))
FitsPremise t hyps args (ForMem p) s = Binds t hyps mem s.hyps.items × (tree_at t s.goal ≡ form_with p (under_binder args))

-- one sequent for each premise
abbrev pub FitPremises : TableView → List ℕ → (ℕ → Tree) → List Premise → List Sequent → Type 0
FitPremises t hyps args [] [] = Unit {0}
FitPremises t hyps args (q ∷ qs) (s ∷ l) = FitsPremise t hyps args q s × FitPremises t hyps args qs l
FitPremises t hyps args _ _ = ⊥

-- a premise's proof as the rule's constant takes it: under Lam where the premise binds
abbrev pub proof_taken : Premise → Tree → Tree
proof_taken (Plain p) a = a
proof_taken (Under p q) a = Lam a
proof_taken (ForExp p) a = Lam a
proof_taken (ForMem p) a = Lam a

-- the premises' proofs
abbrev pub proofs_taken : TableView → List Premise → List Sequent → List Tree
proofs_taken t (q ∷ qs) (s ∷ l) = proof_taken q (tree_at t s.term) ∷ proofs_taken t qs l
proofs_taken t _ _ = []

-- parameters and premises have the rule's form
pub record HasForm (sig : Const → Option Tree) (t : TableView) (hyps params : List ℕ) (r : Rule) (premises : List Sequent) : Type 0 where
  pub typed : AreTyped sig (ctx_of t hyps) r.parameters (trees_of t params)
  pub fit : FitPremises t hyps (nth_arg (trees_of t params)) r.premises premises

-- the sequent of the rule's conclusion: its term is the rule's constant at the parameters and the premises' proofs
pub record Concludes (sig : Const → Option Tree) (before after : TableView) (ids params : List ℕ) (n : ℕ) (r : Rule) (premises : List Sequent) (s : Sequent) : Type 0 where
  pub hyps : s.hyps.items ≡ ids
  pub goal : tree_at after s.goal ≡ form_with r.conclusion (nth_arg (trees_of before params))
  pub term : tree_at after s.term ≡ by_rule n (trees_of before params) (proofs_taken before r.premises premises)
  pub sequent : IsSequent sig after s

-- the term of the rule's conclusion checks at it; where a shift or a substitution in the rule's instance has no result, it
-- doesn't
abbrev pub Derives : (Const → Option Tree) → TableView → List ℕ → List ℕ → ℕ → Rule → List Sequent → Type 0
Derives sig t hyps params n r premises =
    Checks sig (ctx_of t hyps) (by_rule n (trees_of t params) (proofs_taken t r.premises premises))
    (pf (form_with r.conclusion (nth_arg (trees_of t params))))

-- the answer by a row of the table of rules; where there is none, none
abbrev pub IsRowAnswer : (Const → Option Tree) → TableView → TableView → List ℕ → List ℕ → ℕ → Option Rule → List Sequent → Option Sequent → Type 0
IsRowAnswer sig before after hyps params n None premises o = o ≡ None
IsRowAnswer sig before after hyps params n (Some r) premises None =
    HasForm sig before hyps params r premises → Derives sig before hyps params n r premises → ⊥
IsRowAnswer sig before after hyps params n (Some r) premises (Some s) = HasForm sig before hyps params r premises × Concludes sig before after hyps params n r premises s

-- the rule of a number that the signature has
abbrev pub rule_in_signature : (Const → Option Tree) → ℕ → Option Rule
rule_in_signature sig n = if is_some (sig (Num n)) then rule_at n else None

-- the answer of rule n: the conclusion's sequent exactly where the signature has the rule, parameters and premises have its
-- form, and the conclusion's term checks
abbrev pub IsRuleAnswer : ℕ → (Const → Option Tree) → TableView → TableView → List ℕ → List ℕ → List Sequent → Option Sequent → Type 0
IsRuleAnswer n sig before after hyps params premises o = IsRowAnswer sig before after hyps params n (rule_in_signature sig n) premises o
