-- The entries of the tables of constants and rules.
use Rattle.std.proofs.Common.{◌≡◌, ℕ, zero, suc, ◌-◌, ◌+◌, ◌≤◌, ◌<◌, true, nat_le, Option, Some, None, List, [], ◌∷◌, ◌++◌, map, length, take, drop, get_or, ◌==◌, eqb-true, refl, ◌∙◌, ap, arith, option_map}
use Rattle.std.proofs.lemmas.Bool.{leb-true}
use Rattle.term_table.specs.Tree.{at, Num}
use Rattle.term_table.proofs.Options.{some_injective}
use Rattle.lf_signature.specs.Rules.{Rule, rule_type}
use Rattle.lf_signature.specs.Constants.{the_rules, place_of, rule_in, type_in, size_of, places_of, rule_at, parameters_of, declared}
use Rattle.lf_signature.specs.declared.tables.Place.{Place}
use Rattle.lf_signature.specs.declared.tables.Place.TheVariants.{Made, ByRule}
use Rattle.lf_signature.specs.declared.editions.WordSignature.{WordSignature}
use Rattle.lf_signature.specs.Laws.Within.{declared-below}
use Rattle.lf_signature.specs.Laws.Signatures.{each_signature}
use Rattle.lf_signature.specs.Laws.Booleans.{every, every-at}

pub at-map : {A B : Type 0} (f : A → B) (l : List A) (n : ℕ) → at (map f l) n ≡ option_map f (at l n)
at-map f [] n = refl
at-map f (a ∷ l) zero = refl
at-map f (a ∷ l) (suc n) = at-map f l n

at-take : {A : Type 0} (l : List A) (k n : ℕ) → n < k → at (take k l) n ≡ at l n
at-take l zero n h = absurd (omega arith)
at-take [] (suc k) n h = refl
at-take (a ∷ l) (suc k) zero h = refl
at-take (a ∷ l) (suc k) (suc n) h = at-take l k n (omega arith)

pub at-drop : {A : Type 0} (l : List A) (k n : ℕ) → k ≤ n → at (drop k l) (n - k) ≡ at l n
at-drop l zero n h = ap (at l) (omega arith)
at-drop [] (suc k) n h = refl
at-drop (a ∷ l) (suc k) zero h = absurd (omega arith)
at-drop (a ∷ l) (suc k) (suc n) h = let e : suc n - suc k ≡ n - k = omega arith in ap (at (drop k l)) e ∙ at-drop l k n (omega arith)

-- the entry of a part of a list
pub at-part : {A : Type 0} (l : List A) (j k n : ℕ) → j ≤ n → n - j < k → at (take k (drop j l)) (n - j) ≡ at l n
at-part l j k n h w = at-take (drop j l) k (n - j) w ∙ at-drop l j n h

at-append_below : {A : Type 0} (l m : List A) (n : ℕ) → n < length l → at (l ++ m) n ≡ at l n
at-append_below [] m n h = absurd (omega arith)
at-append_below (a ∷ l) m zero h = refl
at-append_below (a ∷ l) m (suc n) h = at-append_below l m n (omega arith)

at-append_from : {A : Type 0} (l m : List A) (n : ℕ) → length l ≤ n → at (l ++ m) n ≡ at m (n - length l)
at-append_from [] m n h = ap (at m) (omega arith)
at-append_from (a ∷ l) m zero h = absurd (omega arith)
at-append_from (a ∷ l) m (suc n) h = let e : n - length l ≡ suc n - suc (length l) = omega arith in at-append_from l m n (omega arith) ∙ ap (at m) e

at_none : {A : Type 0} (l : List A) (n : ℕ) → at l n ≡ None → length l ≤ n
at_none [] n e = omega arith
at_none (a ∷ l) zero e = cc
at_none (a ∷ l) (suc n) e = let h = at_none l n e in omega arith

at_some : {A : Type 0} (l : List A) (n : ℕ) (a : A) → at l n ≡ Some a → n < length l
at_some [] n a e = cc
at_some (b ∷ l) zero a e = omega arith
at_some (b ∷ l) (suc n) a e = let h = at_some l n a e in omega arith

-- a rule of a number stands among the rules
pub rule_found : (n : ℕ) (r : Rule) → rule_at n ≡ Some r → (i : ℕ) × (at the_rules i ≡ Some r)
rule_found n r e = go (place_of n) e
  where
    go : (p : Place) → rule_in p ≡ Some r → (i : ℕ) × (at the_rules i ≡ Some r)
    go (Made i) e = cc
    go (ByRule i) e = (i, e)

pub declared-rule : (s : WordSignature) (n : ℕ) (r : Rule) → n < size_of s → rule_at n ≡ Some r → declared s (Num n) ≡ Some (rule_type r)
declared-rule s n r h e = declared-below s n h ∙ go (place_of n) e
  where
    go : (p : Place) → rule_in p ≡ Some r → type_in p ≡ Some (rule_type r)
    go (Made i) e = cc
    go (ByRule i) e = ap (option_map rule_type) e

all_short : every (λ n r. nat_le (length r.parameters + length r.premises) 7) the_rules ≡ true
unfolding the_rules
all_short = refl

pub rule_at-short : (n : ℕ) (r : Rule) → rule_at n ≡ Some r → length r.parameters + length r.premises ≤ 7
rule_at-short n r e =
    let f = rule_found n r e in
    leb-true _ _ (every-at (λ n r. nat_le (length r.parameters + length r.premises) 7) the_rules f.0 r all_short f.1)

pub rule_in-short : (i : ℕ) (r : Rule) → at the_rules i ≡ Some r → length r.parameters + length r.premises ≤ 7
rule_in-short i r e = leb-true _ _ (every-at (λ n r. nat_le (length r.parameters + length r.premises) 7) the_rules i r all_short e)

-- what the code finds in a part of the rules
pub found_rule : (part : List Rule) (o : Option Rule) (index from size : ℕ) → o ≡ at part (index - from) → part ≡ take size (drop from the_rules) →
    from ≤ index → index < from + size → o ≡ at the_rules index
found_rule part o index from size e p h w = e ∙ ap (λ l. at l (index - from)) p ∙ at-part the_rules from size index h (omega arith)

pub found_last : (part : List Rule) (o : Option Rule) (index from : ℕ) → o ≡ at part (index - from) → part ≡ drop from the_rules → from ≤ index → o ≡ at the_rules index
found_last part o index from e p h = e ∙ ap (λ l. at l (index - from)) p ∙ at-drop the_rules from index h

get_or_some : {A : Type 0} (l : List A) (n : ℕ) (d a : A) → at l n ≡ Some a → get_or l n d ≡ a
get_or_some [] n d a e = cc
get_or_some (b ∷ l) zero d a e = some_injective e
get_or_some (b ∷ l) (suc n) d a e = get_or_some l n d a e

get_or_none : {A : Type 0} (l : List A) (n : ℕ) (d : A) → at l n ≡ None → get_or l n d ≡ d
get_or_none [] n d e = refl
get_or_none (b ∷ l) zero d e = cc
get_or_none (b ∷ l) (suc n) d e = get_or_none l n d e

-- the counts of each signature, and that there are as many as it has constants
each_place : (s : WordSignature) → every (λ n k. k == parameters_of n) (places_of s) ≡ true
unfolding the_rules
each_place = each_signature (λ s. every (λ n k. k == parameters_of n) (places_of s)) refl

places_end : (s : WordSignature) → length (places_of s) ≡ size_of s
places_end s = eqb-true (length (places_of s)) (size_of s) (each_signature (λ z. length (places_of z) == size_of z) refl s)

-- the counts that weights go by are the numbers of parameters
pub places-parameters : (s : WordSignature) (n : ℕ) → n < size_of s → get_or (places_of s) n 0 ≡ parameters_of n
places-parameters s n h = go (at (places_of s) n) refl
  where
    go : (o : Option ℕ) → at (places_of s) n ≡ o → get_or (places_of s) n 0 ≡ parameters_of n
    go (Some k) e = get_or_some (places_of s) n 0 k e ∙ eqb-true k (parameters_of n) (every-at (λ n k. k == parameters_of n) (places_of s) n k (each_place s) e)
    go None e = absurd (omega (arith, h, places_end s, at_none (places_of s) n e))
