-- Labels that are found fast.
use Rattle.std.proofs.Common.{◌≡◌, ℕ, Bool, true, false, List, [], ◌∷◌, ◌++◌, refl, sym, ap, ◌∙◌}
use Rattle.std.specs.Prelude.{◌||◌}
use Rattle.std.specs.List.{list_any}
use Rattle.std.specs.Str.{bytes_eq}
use Rattle.std.specs.declared.cmp.Ordering.{Ordering}
use Rattle.std.specs.declared.cmp.Ordering.TheVariants.{Less, Equal, Greater}
use Rattle.std.specs.Ordering.{is_eq, match_ordering, nat_cmp}
use Rattle.std.specs.Cmp.Lexicographic.{slice_cmp}
use Rattle.std.specs.BTreeSet.{insert_key}
use Rattle.std.proofs.lemmas.Map.Text.{is_eq-slice_cmp}
use Rattle.text_tokens.proofs.Known.{same_bytes, bytes_same}
use Rattle.asm_text.specs.SourceParsing.{is_known}

bytes_by : (xs ys : List ℕ) (s t : Bool) → bytes_eq xs ys ≡ s → bytes_eq ys xs ≡ t → s ≡ t
bytes_by xs ys true true e f = refl
bytes_by xs ys false false e f = refl
bytes_by xs ys true false e f = sym (bytes_same ys xs (sym (same_bytes xs ys e))) ∙ f
bytes_by xs ys false true e f = sym e ∙ bytes_same xs ys (sym (same_bytes ys xs f))

pub bytes_eq-sym : (xs ys : List ℕ) → bytes_eq xs ys ≡ bytes_eq ys xs
bytes_eq-sym xs ys = bytes_by xs ys (bytes_eq xs ys) (bytes_eq ys xs) refl refl

once : (a b : Bool) → (a || b) ≡ (a || (a || b))
once true b = refl
once false b = refl

swapped : (a b c : Bool) → (a || (b || c)) ≡ (b || (a || c))
swapped true true c = refl
swapped true false c = refl
swapped false true c = refl
swapped false false c = refl

-- whether one of the texts is this one
abbrev pub Has : {K : Type 0} → (K → List ℕ) → List ℕ → List K → Bool
Has f l ks = list_any (λ k. bytes_eq l (f k)) ks

by_order : {K : Type 0} (f : K → List ℕ) (l : List ℕ) (x : K) (xs more : List K) (k : K) (o : Ordering) → slice_cmp nat_cmp (f k) (f x) ≡ o → Has f l more ≡ (bytes_eq l (f k) || Has f l xs) →
    Has f l (match_ordering o (k ∷ x ∷ xs) (x ∷ xs) (x ∷ more)) ≡ (bytes_eq l (f k) || Has f l (x ∷ xs))
by_order f l x xs more k Less e h = refl
by_order f l x xs more k Equal e h =
    let s : bytes_eq (f k) (f x) ≡ true = sym (is_eq-slice_cmp (f k) (f x)) ∙ ap is_eq e in
    let t : bytes_eq l (f k) ≡ bytes_eq l (f x) = ap (bytes_eq l) (same_bytes (f k) (f x) s) in
    once (bytes_eq l (f x)) (Has f l xs) ∙ ap (λ b. b || (bytes_eq l (f x) || Has f l xs)) (sym t)
by_order f l x xs more k Greater e h = ap (λ b. bytes_eq l (f x) || b) h ∙ swapped (bytes_eq l (f x)) (bytes_eq l (f k)) (Has f l xs)

-- a text more
pub Has-insert_key : {K : Type 0} (f : K → List ℕ) (l : List ℕ) (ks : List K) (k : K) → Has f l (insert_key (λ a b. slice_cmp nat_cmp (f a) (f b)) ks k) ≡ (bytes_eq l (f k) || Has f l ks)
Has-insert_key f l [] k = refl
Has-insert_key f l (x ∷ xs) k = by_order f l x xs (insert_key (λ a b. slice_cmp nat_cmp (f a) (f b)) xs k) k (slice_cmp nat_cmp (f k) (f x)) refl (Has-insert_key f l xs k)

-- the set's own test
pub Has-is_eq : {K : Type 0} (f : K → List ℕ) (l : List ℕ) (ks : List K) → list_any (λ k. is_eq (slice_cmp nat_cmp l (f k))) ks ≡ Has f l ks
Has-is_eq f l [] = refl
Has-is_eq f l (k ∷ ks) = ap (λ b. b || list_any (λ x. is_eq (slice_cmp nat_cmp l (f x))) ks) (is_eq-slice_cmp l (f k)) ∙ ap (λ b. bytes_eq l (f k) || b) (Has-is_eq f l ks)

-- a label more
pub is_known-append : (xs : List (List ℕ × ℕ)) (w : List ℕ) (i : ℕ) (l : List ℕ) → is_known (xs ++ ((w, i) ∷ [])) l ≡ (bytes_eq l w || is_known xs l)
is_known-append [] w i l = ap (λ b. b || false) (bytes_eq-sym w l)
is_known-append (x ∷ xs) w i l = ap (λ b. bytes_eq x.0 l || b) (is_known-append xs w i l) ∙ swapped (bytes_eq x.0 l) (bytes_eq l w) (is_known xs l)

-- the labels that are known, after one more
pub known_after : {K : Type 0} (f : K → List ℕ) (ks ns : List K) (k : K) (xs ys : List (List ℕ × ℕ)) (i : ℕ) → ns ≡ insert_key (λ a b. slice_cmp nat_cmp (f a) (f b)) ks k → ys ≡ xs ++ ((f k, i) ∷ []) →
    ((l : List ℕ) → Has f l ks ≡ is_known xs l) → (l : List ℕ) → Has f l ns ≡ is_known ys l
known_after f ks ns k xs ys i e g h l =
    ap (Has f l) e ∙ Has-insert_key f l ks k ∙ ap (λ b. bytes_eq l (f k) || b) (h l) ∙ sym (is_known-append xs (f k) i l) ∙ ap (λ y. is_known y l) (sym g)
