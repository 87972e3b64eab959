-- Texts put together, and lists by index.
use Rattle.std.proofs.Common.{◌≡◌, ℕ, ◌+◌, List, [], ◌∷◌, ◌++◌, map, sym, ◌∙◌, append_assoc, arith}
use Rattle.std.specs.List.{range_with_len}
use Rattle.std.proofs.lemmas.List.FromFn.{map-range_with_len_more}

-- four texts one behind the other
pub four_texts : (a b c d : List ℕ) → ((a ++ b) ++ c) ++ d ≡ a ++ (b ++ (c ++ d))
four_texts a b c d = append_assoc (a ++ b) c d ∙ append_assoc a b (c ++ d)

-- with what is made of one index more
pub made-more : {X : Type 0} (f : ℕ → X) (n : ℕ) (old new : List X) (x : X)
    → new ≡ old ++ x ∷ [] → old ≡ map f (range_with_len 0 n) → x ≡ f n
    → new ≡ map f (range_with_len 0 (n + 1))
made-more f n old new x pushed before is =
    pushed ∙ (λ i. before i ++ is i ∷ [])
    ∙ sym (map-range_with_len_more f 0 n n (omega arith))
