-- Lines one behind the other.
use Rattle.std.proofs.Common.{◌≡◌, ℕ, zero, suc, ◌+◌, List, [], ◌∷◌, ◌++◌, sym, ap, ◌∙◌, append_assoc, arith}
use Rattle.std.specs.List.{flat_map, range_with_len}
use Rattle.std.proofs.lemmas.List.{append-nil}
use Rattle.std.proofs.lemmas.Grind.{flat_map-append}
use Rattle.view_container.specs.Plain.{comment_line}

-- with what one more gives
pub flat_map-more : {X : Type 0} (f : X → List ℕ) (xs : List X) (x : X)
    → flat_map f (xs ++ x ∷ []) ≡ flat_map f xs ++ f x
flat_map-more f xs x =
    flat_map-append f xs (x ∷ []) ∙ ap (λ l. flat_map f xs ++ l) (append-nil (f x))

-- what one more gives, appended to a text
pub pushed-more : {X : Type 0} (f : X → List ℕ) (xs : List X) (x : X) (old mid new : List ℕ)
    → new ≡ mid ++ f x → mid ≡ old ++ flat_map f xs → new ≡ old ++ flat_map f (xs ++ x ∷ [])
pushed-more f xs x old mid new pushed before =
    pushed ∙ ap (λ l. l ++ f x) before ∙ append_assoc old (flat_map f xs) (f x)
    ∙ ap (λ l. old ++ l) (sym (flat_map-more f xs x))

-- lines behind others, appended to a text
pub pushed-lines : (xs ys : List (List ℕ)) (old mid new : List ℕ)
    → new ≡ mid ++ flat_map comment_line ys → mid ≡ old ++ flat_map comment_line xs
    → new ≡ old ++ flat_map comment_line (xs ++ ys)
pushed-lines xs ys old mid new pushed before =
    pushed ∙ ap (λ l. l ++ flat_map comment_line ys) before
    ∙ append_assoc old (flat_map comment_line xs) (flat_map comment_line ys)
    ∙ ap (λ l. old ++ l) (sym (flat_map-append comment_line xs ys))

-- one index more
range-more : (a n j : ℕ) → a + n ≡ j → range_with_len a (suc n) ≡ range_with_len a n ++ j ∷ []
range-more a zero j e = let z : a ≡ j = omega arith in ap (λ x. x ∷ []) z
range-more a (suc n) j e =
    let next : a + 1 + n ≡ j = omega arith in ap (λ l. a ∷ l) (range-more (a + 1) n j next)

-- the lines of one index more
pub lines-range : (f : ℕ → List (List ℕ)) (n : ℕ)
    → flat_map f (range_with_len 0 (n + 1)) ≡ flat_map f (range_with_len 0 n) ++ f n
lines-range f n =
    let one : n + 1 ≡ suc n = omega arith in
    let at : 0 + n ≡ n = omega arith in
    ap (λ k. flat_map f (range_with_len 0 k)) one ∙ ap (flat_map f) (range-more 0 n n at)
    ∙ flat_map-append f (range_with_len 0 n) (n ∷ [])
    ∙ ap (λ l. flat_map f (range_with_len 0 n) ++ l) (append-nil (f n))

-- four groups of lines, the last of which is one
pub four_groups : (xs ys zs : List (List ℕ)) (w one two three four : List ℕ)
    → one ≡ flat_map comment_line xs → two ≡ one ++ flat_map comment_line ys
    → three ≡ two ++ flat_map comment_line zs → four ≡ three ++ comment_line w
    → four ≡ flat_map comment_line (xs ++ (ys ++ (zs ++ w ∷ [])))
four_groups xs ys zs w one two three four a b c d =
    let second = pushed-lines xs ys [] one two b a in
    let third = pushed-lines (xs ++ ys) zs [] two three c second in
    let fourth = pushed-more comment_line ((xs ++ ys) ++ zs) w [] three four d third in
    fourth
    ∙ ap (flat_map comment_line)
    (append_assoc (xs ++ ys) zs (w ∷ []) ∙ append_assoc xs ys (zs ++ w ∷ []))
