-- Rules that introduce a quantifier, as `all_i`: words of the private functions.
use Rattle.std.specs.Prelude.{◌≡◌, ℕ, ◌<◌, Bool, true, false, ◌&&◌, if◌then◌else◌, Option, Some, None, List}
use Rattle.term_table.specs.Tree.{Tree, Const, Var, Con, App, Lam, Fam, TApp, Pi}
use Rattle.term_table.specs.Measures.{height_of}
use Rattle.term_table.specs.Table.{TableView, IsKnown, tree_at}
use Rattle.hereditary_subst.specs.Inside.Spare.{IsLowerable}
use Rattle.lf_signature.specs.Decide.{synth_of, checks_of}
use Rattle.lf_check.specs.declared.introductions.Rule.{Rule}
use Rattle.lf_check.specs.declared.introductions.Introduction.{Introduction}

-- whether the tree is a family
abbrev pub is_family : Tree → Bool
is_family (Fam a) = true
is_family _ = false

-- whether it is a constant
abbrev pub is_constant : Tree → Bool
is_constant (Con c) = true
is_constant _ = false

-- whether it is the type of functions on a family
abbrev pub is_on_family : Tree → Bool
is_on_family (Pi a b) = is_family a
is_on_family _ = false

-- the type of the proofs, of the family p, that the predicate holds of each value of the type v: [x] F x
abbrev pub premise_type : Tree → Tree → Tree
premise_type v p = Pi v (TApp p (App (Var 1) (Var 0)))

-- the type of the proofs, of the family p, of the quantifier q over the predicate, behind one proof: (q ([x] F x))
abbrev pub conclusion_type : Tree → Tree → Tree
conclusion_type p q = TApp p (App q (Lam (App (Var 2) (Var 0))))

-- the type is that of a rule that introduces a quantifier, and r has its parts
pub record IsIntroductionRule (t : TableView) (declared : Tree) (r : Rule) : Type 0 where
  pub domain : IsKnown t r.domain
  pub values : IsKnown t r.values
  pub taken : IsKnown t r.taken
  pub given : IsKnown t r.given
  pub quantifier : IsKnown t r.quantifier
  pub is : declared ≡ Pi (tree_at t r.domain) (Pi (premise_type (tree_at t r.values) (tree_at t r.taken)) (conclusion_type (tree_at t r.given) (tree_at t r.quantifier)))
  pub on_family : is_on_family (tree_at t r.domain) ≡ true
  pub are_families : (is_family (tree_at t r.values) && (is_family (tree_at t r.taken) && is_family (tree_at t r.given))) ≡ true
  pub is_constant : is_constant (tree_at t r.quantifier) ≡ true

-- the predicate is canonical, m and it can be raised as often as it is high, and its height is a number below 2 ^ 32
pub record IsRaisable (m predicate : Tree) : Type 0 where
  pub lowers : IsLowerable m predicate
  pub raises : IsLowerable predicate predicate
  pub low : height_of predicate < 4294967295

-- f is such a rule of the signature, applied to an abstraction of the body
pub record IsRuleApplied (sig : Const → Option Tree) (t : TableView) (f : ℕ) (r : Rule) (predicate body : ℕ) : Type 0 where
  pub constant : Const
  pub declared : Tree
  pub type : sig constant ≡ Some declared
  pub rule : IsIntroductionRule t declared r
  pub predicate_known : IsKnown t predicate
  pub body_known : IsKnown t body
  pub less : predicate < f
  pub is : tree_at t f ≡ App (Con constant) (tree_at t predicate)
  pub lam : tree_at t predicate ≡ Lam (tree_at t body)

-- what the rule asks and gives, with the predicate in it, as ids of the later table
pub record IsFitted (t u : TableView) (r : Rule) (predicate body : ℕ) (i : Introduction) : Type 0 where
  pub same_predicate : i.predicate ≡ predicate
  pub same_domain : i.domain ≡ r.domain
  pub premise : IsKnown u i.premise
  pub conclusion : IsKnown u i.conclusion
  pub premise_is : tree_at u i.premise ≡ Pi (tree_at t r.values) (TApp (tree_at t r.taken) (tree_at t body))
  pub conclusion_is : tree_at u i.conclusion ≡ TApp (tree_at t r.given) (App (tree_at t r.quantifier) (tree_at t predicate))

-- the type, where it holds that it has it
abbrev pub where_it_holds : Bool → Tree → Option Tree
where_it_holds b a = if b then Some a else None

-- what f applied to m synthesises in any context is what i says
pub record IsIntroduction (sig : Const → Option Tree) (t : TableView) (f m : ℕ) (i : Introduction) : Type 0 where
  pub predicate : IsKnown t i.predicate
  pub domain : IsKnown t i.domain
  pub premise : IsKnown t i.premise
  pub conclusion : IsKnown t i.conclusion
  pub less : i.predicate < f
  pub synthesises : (ctx : List Tree) →
      synth_of sig (App (tree_at t f) (tree_at t m)) ctx ≡ where_it_holds (checks_of sig (tree_at t i.predicate) ctx (tree_at t i.domain) && checks_of sig (tree_at t m) ctx (tree_at t i.premise)) (tree_at t i.conclusion)
