-- What a walk over a table's ids keeps: words of the private functions.
use Rattle.std.specs.Prelude.{◌≡◌, ℕ, ◌+◌, ◌*◌, ◌<◌, ◌≤◌, true, IfSome, List, [], ◌∷◌, ◌++◌, map, reverse, length, get_or, Option, Some, None}
use Rattle.term_table.specs.Tree.{Tree, Var, Con, App, Lam, Fam, TApp, Pi}
use Rattle.term_table.specs.Table.{TableView, IsKnown, tree_at}
use Rattle.term_table.specs.declared.Node.{Node}
use Rattle.term_table.specs.declared.Node.TheVariants as N
use Rattle.proof_container.specs.declared.container.View.{View}
use Rattle.proof_container.specs.declared.walk.Walk.{Walk}
use Rattle.proof_container.specs.declared.walk.Step.{Step}
use Rattle.proof_container.specs.declared.walk.Step.TheVariants.{Enter, Leave}
use Rattle.proof_container.specs.declared.limits.TheConstants.{MAX_ENTRIES, MAX_INVS}
use Rattle.lf_lemmas.specs.Tables.{lemmas_in, LemmasKnown}
use Rattle.proof_container.specs.Versions.{AreLemmasOf}
use Rattle.proof_container.specs.Contents.{lemma_roots}
use Rattle.proof_container.specs.Walks.{IsLeft}
use Rattle.proof_container.specs.Postorder.{is_emitted, unless_emitted, emitted_with, HasPartsFirst, AreEmitted}
use Rattle.proof_container.specs.Views.{AreKnown}

-- the walk left the id e as the e-th
abbrev pub IsPlaced : List ℕ → ℕ → Type 0
IsPlaced left e = (e < length left) × (get_or left e 0 ≡ e)

-- each of the trees has its parts among ts
abbrev pub HaveParts : List Tree → List Tree → Type 0
HaveParts ts [] = Unit {0}
HaveParts ts (u ∷ us) = HasPartsFirst ts u × HaveParts ts us

-- the trees that a walk has left, in order
abbrev pub left_trees : TableView → Walk → List Tree
left_trees t w = map (tree_at t) w.left.items

-- the walk has left what the view names, so that its entries can be written
pub record IsReady (v : View) (w : Walk) : Type 0 where
  pub left : IsLeft v.table.now (left_trees v.table.now w) w
  pub parts : HaveParts (left_trees v.table.now w) (left_trees v.table.now w)
  pub known : AreKnown v.table.now v.invs.now v.proof
  pub known_lemmas : LemmasKnown v.table.now v.lemmas.now
  pub invs : AreEmitted (left_trees v.table.now w) (map (λ inv. tree_at v.table.now inv.1) v.invs.now)
  pub lemmas : AreEmitted (left_trees v.table.now w)
      (lemma_roots (lemmas_in v.table.now v.lemmas.now))
  pub proof : IfSome v.proof (λ id. is_emitted (tree_at v.table.now id) (left_trees v.table.now w) ≡ true)
  pub few : length w.left.items ≤ MAX_ENTRIES
  pub few_invs : length v.invs.now ≤ MAX_INVS
  pub few_lemmas : AreLemmasOf v.version v.lemmas.now

-- ---- the steps that a walk has yet to take, the last of the list first

-- the steps of a node's parts
abbrev pub part_steps : Node → List Step
part_steps (N.Var n) = []
part_steps (N.Const n) = []
part_steps (N.Lit w) = []
part_steps (N.Calc o a b) = []
part_steps (N.Fact p a b) = []
part_steps (N.Deny p a b) = []
part_steps (N.Lemma n) = []
part_steps (N.App f a) = Enter a ∷ Enter f ∷ []
part_steps (N.Lam b) = Enter b ∷ []
part_steps (N.Fam a) = []
part_steps (N.TApp p a) = Enter a ∷ Enter p ∷ []
part_steps (N.Pi a b) = Enter b ∷ Enter a ∷ []

-- the step of a proof, if there is one
abbrev pub proof_steps : Option ℕ → List Step
proof_steps None = []
proof_steps (Some id) = Enter id ∷ []

-- the steps of lemmas, the last lemma's first and in each the proof's before the formula's
abbrev pub lemma_steps : List (ℕ × ℕ) → List Step
lemma_steps [] = []
lemma_steps (l ∷ lemmas) = lemma_steps lemmas ++ Enter l.1 ∷ Enter l.0 ∷ []

-- the steps of the roots
abbrev pub first_steps : List (ℕ × ℕ) → List (ℕ × ℕ) → Option ℕ → List Step
first_steps invs lemmas proof =
    proof_steps proof ++ (lemma_steps lemmas ++ map (λ inv. Enter inv.1) (reverse invs))

-- the trees that are left once the step is taken, where those of ts were left before
abbrev pub taken : TableView → Step → List Tree → List Tree
taken t (Enter id) ts = emitted_with (tree_at t id) ts
taken t (Leave id) ts = unless_emitted (tree_at t id) ts ts

-- the same of all of these steps
abbrev pub all_taken : TableView → List Step → List Tree → List Tree
all_taken t [] ts = ts
all_taken t (s ∷ steps) ts = taken t s (all_taken t steps ts)

-- the step is about a tree of the table
abbrev pub IsStep : TableView → Step → Type 0
IsStep t (Enter id) = IsKnown t id
IsStep t (Leave id) = IsKnown t id

-- each step is about a tree of the table
abbrev pub AreSteps : TableView → List Step → Type 0
AreSteps t [] = Unit {0}
AreSteps t (s ∷ steps) = IsStep t s × AreSteps t steps

-- the walk has yet to take these steps, and will have left the trees of goal then
pub record IsUnderWay (t : TableView) (goal : List Tree) (w : Walk) (steps : List Step) : Type 0 where
  pub left : IsLeft t (left_trees t w) w
  pub known : AreSteps t steps
  pub leads : all_taken t steps (left_trees t w) ≡ goal

-- how many trees a tree is made of, itself among them
abbrev pub nodes : Tree → ℕ
nodes (Var n) = 1
nodes (Con c) = 1
nodes (App f a) = 1 + (nodes f + nodes a)
nodes (Lam b) = 1 + nodes b
nodes (Fam a) = 1
nodes (TApp p a) = 1 + (nodes p + nodes a)
nodes (Pi a b) = 1 + (nodes a + nodes b)

-- at most so many steps are taken from here on
abbrev pub step_cost : TableView → Step → ℕ
step_cost t (Enter id) = 2 * nodes (tree_at t id)
step_cost t (Leave id) = 1

-- the same of all of these steps
abbrev pub steps_cost : TableView → List Step → ℕ
steps_cost t [] = 0
steps_cost t (s ∷ steps) = step_cost t s + steps_cost t steps
