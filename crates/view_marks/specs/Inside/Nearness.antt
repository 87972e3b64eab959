-- Whether rights to addresses with the same summands are reached, on ids.
use Rattle.std.specs.Prelude.{◌≡◌, ℕ, Bool, true, false}
use Rattle.term_table.specs.Table.{TableView, IsKnown, tree_at}
use Rattle.formula_tree.specs.Formulas.{Exp, Form, FAnd, FAll}
use Rattle.lf_terms.specs.Encoding.{exp_encoding, form_encoding}
use Rattle.prover_ids.specs.Kept.{AreRight}
use Rattle.prover_ids.specs.declared.kept.Kept.{Kept}
use Rattle.prover_class.specs.Access.{Access, Load, Store}
use Rattle.view_marks.specs.Hints.{has_summands, has_instance, any_right, is_near}
use Rattle.view_marks.specs.declared.reached.Asked.{Asked}
use Rattle.view_marks.specs.declared.reached.Reach.{Reach}
use Rattle.view_marks.specs.contracts.reached.ReachOrd.TheImpl as block

-- to store, or else to load
abbrev pub access_at : Bool → Access
access_at true = Store
access_at false = Load

-- whether the address has the summands of a, or an instance of it has some of them
abbrev pub is_like : Bool → Exp → Exp → Bool
is_like true = has_instance
is_like false = has_summands

-- whether a right that is asked for is reached in the formula, whatever the ids stand for
abbrev pub IsReached : TableView → Asked → Bool → ℕ → Bool → Type 0
IsReached t asked instance form b =
    (a : Exp) (A : Form) → tree_at t asked.address ≡ exp_encoding a
    → tree_at t form ≡ form_encoding A
    → b ≡ any_right (access_at asked.store) (is_like instance a) A

-- the same of a conjunction
abbrev pub IsReachedInBoth : TableView → Asked → Bool → ℕ → ℕ → Bool → Type 0
IsReachedInBoth t asked instance left right b =
    (a : Exp) (A B : Form) → tree_at t asked.address ≡ exp_encoding a
    → tree_at t left ≡ form_encoding A → tree_at t right ≡ form_encoding B
    → b ≡ any_right (access_at asked.store) (is_like instance a) (FAnd A B)

-- whether the hypothesis is near, whatever the ids stand for
abbrev pub IsNear : TableView → Asked → ℕ → Bool → Type 0
IsNear t asked form b =
    (a : Exp) (A : Form) → tree_at t asked.address ≡ exp_encoding a
    → tree_at t form ≡ form_encoding A → b ≡ is_near (access_at asked.store) a A

-- whether a quantified hypothesis over a body is near
abbrev pub IsBodyNear : TableView → Asked → ℕ → Bool → Type 0
IsBodyNear t asked body b =
    (a : Exp) (B : Form) → tree_at t asked.address ≡ exp_encoding a
    → tree_at t body ≡ form_encoding B → b ≡ is_near (access_at asked.store) a (FAll B)

-- what the question asks for
abbrev pub asked_of : Reach → Asked
asked_of q = record { store = q.store; address = q.address }

-- the answer is right of the question
pub record IsReach (t : TableView) (q : Reach) (b : Bool) : Type 0 where
  pub address_known : IsKnown t q.address
  pub form_known : IsKnown t q.form
  pub is : IsReached t (asked_of q) q.instance q.form b

-- each kept answer is right
abbrev pub AreReached : TableView → Kept Reach Bool → Type 0
AreReached t kept = AreRight block.ghosts.cmp IsReach t kept
