-- Entries that come to a table one after the other.
use Rattle.std.proofs.Common.{◌≡◌, ℕ, ◌≤◌, nat_lt, Bool, true, false, List, [], ◌∷◌, ◌++◌, length, refl, sym, ◌∙◌, ap, arith, inl, inr}
use Rattle.std.specs.List.{AllByRecursion}
use Rattle.std.proofs.lemmas.Bool.{cases_lt, lt-ltb, le-ltb}
use Rattle.term_table.specs.Tree.{Tree}
use Rattle.term_table.specs.Table.{TableView, IsKnown, tree_in, tree_at, AreDifferent, with_tree, Adds}
use Rattle.term_table.proofs.Trees.{tree_in-push}
use Rattle.proof_container.specs.Postorder.{is_emitted}
use Rattle.proof_container.specs.Encoding.{entry_number}
use Rattle.proof_container.proofs.Walks.{listed-at, number_is}

-- an id that the table had says that the tree was listed
pub old_is_listed : (t u : TableView) (tree : Tree) (id : ℕ) → Adds t u tree id → tree_at u id ≡ tree → AreDifferent u.trees → IsKnown u id → nat_lt id (length t.trees) ≡ is_emitted tree t.trees
old_is_listed t u tree id adds at different known = elim (cases_lt id (length t.trees)) [
  | inl lt ↦
      let same : tree_in t.trees id ≡ tree = ap (λ (z : TableView). tree_at z id) (sym (adds.old lt)) ∙ at in
      lt-ltb id (length t.trees) lt ∙ sym (ap (λ z. is_emitted z t.trees) (sym same) ∙ listed-at t.trees id lt)
  | inr ge ↦ le-ltb id (length t.trees) ge ∙ sym (go ge (is_emitted tree t.trees) refl)
]
  where
    go : length t.trees ≤ id → (b : Bool) → is_emitted tree t.trees ≡ b → is_emitted tree t.trees ≡ false
    go ge false e = e
    go ge true e =
        let n = number_is t.trees tree e in
        let k = entry_number t.trees tree in
        let now : u ≡ with_tree t tree = adds.fresh (λ h. absurd (omega (arith, h))) in
        let there : tree_at u k ≡ tree_at u id = ap (λ (z : TableView). tree_at z k) now ∙ tree_in-push t.trees tree k n.0 ∙ n.1 ∙ sym at in
        let same : k ≡ id = different k id (omega (arith, n.0)) known there in
        absurd (omega (arith, n.0, same))

-- one more invariant, whose id is the table's
pub known_more : (t : TableView) (invs : List (ℕ × ℕ)) (inv : ℕ × ℕ) → AllByRecursion (λ inv. IsKnown t inv.1) invs → IsKnown t inv.1 → AllByRecursion (λ inv. IsKnown t inv.1) (invs ++ inv ∷ [])
known_more t [] inv known one = (one, tt)
known_more t (p ∷ invs) inv known one = (known.0, known_more t invs inv known.1 one)
