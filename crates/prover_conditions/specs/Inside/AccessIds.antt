-- What ids say of access by hypotheses.
use Rattle.std.specs.Prelude.{◌≡◌, ℕ, Bool, true, Option, Some, None, List, [], ◌∷◌}
use Rattle.std.specs.BTreeSet.{BTreeSet, contains}
use Rattle.word_ops.specs.declared.Op.TheVariants.{Add}
use Rattle.term_table.specs.Table.{TableView, IsKnown, tree_at, Stands}
use Rattle.formula_tree.specs.Formulas.{Exp, EOp, Form, FAnd, FAll}
use Rattle.lf_terms.specs.Encoding.{exp_encoding, form_encoding}
use Rattle.prover_ids.specs.Hypotheses.{AreHyps}
use Rattle.prover_ids.specs.declared.forms.Access.{Access}
use Rattle.prover_ids.specs.declared.forms.Access.TheVariants.{Load, Store}
use Rattle.prover_ids.specs.declared.hypotheses.Hypothesis.{Hypothesis}
use Rattle.prover_goals.specs.declared.search.Context.{Context}
use Rattle.prover_class.specs.Hypotheses.{Hyps}
use Rattle.prover_class.specs.Access.{Opened, opened_at, no_way, first_opened, by_grant}
use Rattle.prover_class.specs.Access as class
use Rattle.prover_conditions.specs.Inside.Instances.{variable_index}
use Rattle.prover_conditions.specs.declared.access_instances.Indexed.{Indexed}
use Rattle.prover_conditions.specs.declared.access_walks.Asked.{Asked}
use Rattle.prover_conditions.specs.declared.access_walks.Grant.{Grant}
use Rattle.prover_conditions.specs.declared.access_walks.Opening.{Opening}
use Rattle.prover_conditions.specs.declared.access_walks.Side.{Side}
use Rattle.prover_conditions.specs.declared.access_walks.Side.TheVariants.{Left, Right}
use Rattle.prover_conditions.specs.declared.access_walks.Found.{Found}
use Rattle.prover_conditions.specs.declared.access_walks.Part.{Part}
use Rattle.prover_conditions.specs.contracts.access_walks.PartOrd.TheImpl as block

-- which access
abbrev pub access_of : Access → class.Access
access_of Load = class.Load
access_of Store = class.Store

-- which side of a conjunction
abbrev pub side_of : Side → class.Side
side_of Left = class.Left
side_of Right = class.Right

-- the way whose last side stands first, and then another
abbrev pub way_back : List Side → List class.Side → List class.Side
way_back [] l = l
way_back (s ∷ ids) l = way_back ids (side_of s ∷ l)

-- ---- instances

-- the address is a base and variable 0, or 8 times that; the id stands for the base
pub record IsIndexed (t : TableView) (z : Exp) (i : Indexed) : Type 0 where
  pub base : Exp
  pub is : z ≡ EOp Add base (variable_index i.scaled)
  pub base_is : tree_at t i.base ≡ exp_encoding base

-- the same, or no address of these forms
abbrev pub IfIndexed : TableView → Exp → Option Indexed → Type 0
IfIndexed t z None = (b : Exp) (scaled : Bool) → z ≡ EOp Add b (variable_index scaled) → ⊥
IfIndexed t z (Some i) = IsIndexed t z i

-- ---- what an address gives

-- the ids are the table's
pub record IsKnownGrant (t : TableView) (g : Grant) : Type 0 where
  pub premise : IsKnown t g.premise
  pub conclusion : IsKnown t g.conclusion
  pub proof : IsKnown t g.proof

-- the same of what opened
pub record IsKnownOpening (t : TableView) (o : Opening) : Type 0 where
  pub address : IsKnown t o.address
  pub put : IsKnown t o.put
  pub proof : IsKnown t o.proof

-- the same with its way
abbrev pub IsKnownFound : TableView → Found → Type 0
IsKnownFound t f = IsKnownOpening t f.opening

-- the ids stand for what opened
pub record IsOpening (t : TableView) (x : Opened) (o : Opening) : Type 0 where
  pub address : tree_at t o.address ≡ exp_encoding x.address
  pub put : tree_at t o.put ≡ exp_encoding x.put
  pub proof : tree_at t o.proof ≡ x.proof

-- the same, or none
abbrev pub IfOpened : TableView → Option Opened → Option Opening → Type 0
IfOpened t o None = o ≡ None
IfOpened t None (Some id) = ⊥
IfOpened t (Some x) (Some id) = IsOpening t x id

-- the way, and what opened at its end
pub record IsFoundAt (t : TableView) (x : List class.Side × Opened) (f : Found) : Type 0 where
  pub way : way_back f.way.items [] ≡ x.0
  pub opening : IsOpening t x.1 f.opening

-- the same, or none
abbrev pub IfFound : TableView → Option (List class.Side × Opened) → Option Found → Type 0
IfFound t o None = o ≡ None
IfFound t None (Some f) = ⊥
IfFound t (Some x) (Some f) = IsFoundAt t x f

-- the ids stand for the hypotheses, the address that is asked for and the premise
pub record AreMeant (t : TableView) (ids : List Hypothesis) (asked : Asked) (grant : Grant) (Γ : Hyps) (a : Exp) (P : Form) : Type 0 where
  pub hyps : AreHyps t ids Γ
  pub address : tree_at t asked.address ≡ exp_encoding a
  pub premise : tree_at t grant.premise ≡ form_encoding P

-- what the address gives, whatever the ids stand for
abbrev pub IsOpeningAt : TableView → TableView → List Hypothesis → ℕ → Asked → Grant → ℕ → Option Opening → Type 0
IsOpeningAt t u hyps outside asked grant z o =
    (Γ : Hyps) (a : Exp) (P : Form) (x : Exp) → AreMeant t hyps asked grant Γ a P → tree_at t z ≡ exp_encoding x →
    IfOpened u (opened_at (class.without_access asked.counted) grant.quantified outside Γ a P x) o

-- the same, with the way from the address to itself
abbrev pub IsFoundHere : TableView → TableView → List Hypothesis → ℕ → Asked → Grant → ℕ → Option Found → Type 0
IsFoundHere t u hyps outside asked grant z o =
    (Γ : Hyps) (a : Exp) (P : Form) (x : Exp) → AreMeant t hyps asked grant Γ a P → tree_at t z ≡ exp_encoding x →
    IfFound u (no_way (opened_at (class.without_access asked.counted) grant.quantified outside Γ a P x)) o

-- the first address of the formula that gives something, whatever the ids stand for
abbrev pub IsWalk : TableView → TableView → List Hypothesis → ℕ → Asked → Grant → ℕ → Option Found → Type 0
IsWalk t u hyps outside asked grant form o =
    (Γ : Hyps) (a : Exp) (P A : Form) → AreMeant t hyps asked grant Γ a P → tree_at t form ≡ form_encoding A →
    IfFound u (first_opened (access_of asked.access) (opened_at (class.without_access asked.counted) grant.quantified outside Γ a P) A) o

-- the same of a conjunction
abbrev pub IsBothWalk : TableView → TableView → List Hypothesis → ℕ → Asked → Grant → ℕ → ℕ → Option Found → Type 0
IsBothWalk t u hyps outside asked grant left right o =
    (Γ : Hyps) (a : Exp) (P A B : Form) → AreMeant t hyps asked grant Γ a P → tree_at t left ≡ form_encoding A → tree_at t right ≡ form_encoding B →
    IfFound u (first_opened (access_of asked.access) (opened_at (class.without_access asked.counted) grant.quantified outside Γ a P) (FAnd A B)) o

-- nothing opens in the formulas that were gone through
abbrev pub AreMisses : TableView → List Hypothesis → ℕ → Asked → Grant → BTreeSet Part → Type 0
AreMisses t hyps outside asked grant misses =
    (k : Part) → contains block.ghosts.cmp misses k ≡ true → IsKnown t k.form × IsWalk t t hyps outside asked grant k.form None

-- the same in a context
abbrev pub Missed : TableView → Context → Asked → Grant → BTreeSet Part → Type 0
Missed t c asked grant misses = AreMisses t c.hyps c.outside asked grant misses

-- access by the hypothesis, whatever the ids stand for
abbrev pub IsGranted : TableView → TableView → List Hypothesis → ℕ → Asked → Grant → Option ℕ → Type 0
IsGranted t u hyps outside asked grant o =
    (Γ : Hyps) (a : Exp) (P Q : Form) → AreMeant t hyps asked grant Γ a P → tree_at t grant.conclusion ≡ form_encoding Q →
    Stands u (by_grant (class.without_access asked.counted) grant.quantified outside Γ (access_of asked.access) a P Q (tree_at t grant.proof)) o

-- ---- hypotheses

-- access by one hypothesis, whatever the ids stand for
abbrev pub IsHypProof : TableView → TableView → List Hypothesis → ℕ → Asked → ℕ → ℕ → Option ℕ → Type 0
IsHypProof t u hyps outside asked form proof o =
    (Γ : Hyps) (a : Exp) (A : Form) → AreHyps t hyps Γ → tree_at t asked.address ≡ exp_encoding a → tree_at t form ≡ form_encoding A →
    Stands u (class.by_hyp (class.without_access asked.counted) outside Γ (access_of asked.access) a A (tree_at t proof)) o

-- access by a quantified hypothesis over a body
abbrev pub IsBodyProof : TableView → TableView → List Hypothesis → ℕ → Asked → ℕ → ℕ → Option ℕ → Type 0
IsBodyProof t u hyps outside asked body proof o =
    (Γ : Hyps) (a : Exp) (B : Form) → AreHyps t hyps Γ → tree_at t asked.address ≡ exp_encoding a → tree_at t body ≡ form_encoding B →
    Stands u (class.by_hyp (class.without_access asked.counted) outside Γ (access_of asked.access) a (FAll B) (tree_at t proof)) o
