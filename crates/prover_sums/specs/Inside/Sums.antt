-- Lists of expressions as ids.
use Rattle.std.specs.Prelude.{◌≡◌, ◌<◌, ◌≤◌, ℕ, Bool, true, false, List, [], ◌∷◌, ◌++◌, Option, Some, None, length, get_or}
use Rattle.term_table.specs.Table.{TableView, tree_at}
use Rattle.formula_tree.specs.Formulas.{Exp}
use Rattle.lf_terms.specs.Encoding.{exp_encoding}
use Rattle.prover_class.specs.Access.{summands, literal}

-- the ids stand for the expressions, one after another
abbrev pub AreExps : TableView → List ℕ → List Exp → Type 0
AreExps t [] [] = Unit {0}
AreExps t (id ∷ ids) (x ∷ l) = (tree_at t id ≡ exp_encoding x) × AreExps t ids l
AreExps t _ _ = ⊥

-- the first place of a number in a list, not before another place
abbrev pub IsFirstPlace : List ℕ → ℕ → ℕ → Option ℕ → Type 0
IsFirstPlace l a from None = (i : ℕ) → from ≤ i → i < length l → get_or l i 0 ≡ a → ⊥
IsFirstPlace l a from (Some n) = (from ≤ n) × (n < length l) × (get_or l n 0 ≡ a) × ((i : ℕ) → from ≤ i → i < n → get_or l i 0 ≡ a → ⊥)

-- what is left after one was taken away, or that it wasn't there
abbrev pub IsWithout : TableView → Bool → List ℕ → Option (List Exp) → Type 0
IsWithout t false ids o = o ≡ None
IsWithout t true ids None = ⊥
IsWithout t true ids (Some l) = AreExps t ids l

-- the list has the summands after what it had, and the word is the literal
abbrev pub IsSumOf : TableView → List ℕ → List Exp → Exp → ℕ → Type 0
IsSumOf t ids before x w = AreExps t ids (before ++ summands x) × (w ≡ literal x)
