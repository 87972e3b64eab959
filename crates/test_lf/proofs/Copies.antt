-- A word's term in place of each of the machine's variables.
use Rattle.std.proofs.Common.{◌≡◌, ℕ, zero, suc, List, [], ◌∷◌, map, get_or, Bool, true, false, cond, nat_lt, eqb, ◌-◌, refl, sym, subst}
use Rattle.term_table.specs.Tree.{Tree, shift, fits}
use Rattle.term_table.specs.Table.{TableView, IsKnown, AllKnown, tree_at}
use Rattle.lf_signature.specs.Nodes.{IsIdOf}
use Rattle.lf_signature.specs.Terms.{lit}
use Rattle.lf_encode.specs.Kept.{AreMachineTerms}

-- so many of one
abbrev pub copies : ℕ → ℕ → List ℕ
copies zero w = []
copies (suc n) w = w ∷ copies n w

pub known-copies : (t : TableView) (w : ℕ) → IsKnown t w → (n : ℕ) → AllKnown t (copies n w)
known-copies t w h zero = tt
known-copies t w h (suc n) = (h, known-copies t w h n)

room-copies : (t : TableView) (w k : ℕ) → fits (shift k 0 (tree_at t w)) ≡ true → (n j : ℕ) → fits (shift k 0 (get_or (map (λ id. tree_at t id) (copies n w)) j (lit 0))) ≡ true
room-copies t w k h zero j = refl
room-copies t w k h (suc n) zero = h
room-copies t w k h (suc n) (suc j) = room-copies t w k h n j

-- the literal 5 for each of the machine's variables
pub copies-ready : (t : TableView) (w : ℕ) → IsIdOf t (lit 5) w → AreMachineTerms t (record { regs = copies 31 w; memory = w; left = w })
copies-ready t w h = record {
  regs = known-copies t w h.known 31;
  memory = h.known;
  left = h.known;
  many = refl;
  room = record { each = λ n. go n (nat_lt n 31) (eqb n 31) };
}
  where
    word : fits (shift 2147483648 0 (tree_at t w)) ≡ true
    word = subst (λ (z : Tree). fits (shift 2147483648 0 z) ≡ true) (sym h.is) refl

    go : (n : ℕ) (b d : Bool) → fits (shift 2147483648 0 (cond b (get_or (map (λ id. tree_at t id) (copies 31 w)) (30 - n) (lit 0)) (cond d (tree_at t w) (tree_at t w)))) ≡ true
    go n true d = room-copies t w 2147483648 word 31 (30 - n)
    go n false true = word
    go n false false = word
