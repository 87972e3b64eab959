-- What a writer holds after one write and then another.
use Rattle.std.proofs.Common.{ℕ, ◌+◌, List, ◌++◌, take, drop, Option, Some, None, sym, ap, ◌∙◌, append_assoc}
use Rattle.std.proofs.Math.Seq.{take-add}
use Rattle.std.specs.Io.KnownBytes.{Appends, Keeps}

-- the first n bytes, and then m of the rest
pub Appends-then : (a b c : Option (List ℕ)) (n m : ℕ) (bytes : List ℕ) → Appends a b (take n bytes) → Appends b c (take m (drop n bytes)) → Appends a c (take (n + m) bytes)
Appends-then None b c n m bytes p q = tt
Appends-then (Some xs) None c n m bytes p q = absurd p
Appends-then (Some xs) (Some ys) None n m bytes p q = absurd q
Appends-then (Some xs) (Some ys) (Some zs) n m bytes p q =
    q ∙ ap (λ y. y ++ take m (drop n bytes)) p ∙ append_assoc xs (take n bytes) (take m (drop n bytes)) ∙ ap (λ t. xs ++ t) (sym (take-add n m bytes))

-- what is kept afterwards
pub Appends-keep : (a b c : Option (List ℕ)) (bytes : List ℕ) → Appends a b bytes → Keeps b c → Appends a c bytes
Appends-keep None b c bytes p q = tt
Appends-keep (Some xs) None c bytes p q = absurd p
Appends-keep (Some xs) (Some ys) None bytes p q = absurd q
Appends-keep (Some xs) (Some ys) (Some zs) bytes p q = q ∙ p
