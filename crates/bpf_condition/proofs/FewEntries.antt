-- A walk from roots leaves at most as many trees as a list has that holds the roots and the parts of each of its trees.
use Rattle.std.proofs.Common.{◌≡◌, ℕ, suc, ◌<◌, ◌≤◌, Bool, true, false, cond, eqb, List, [], ◌∷◌, ◌++◌, length, map, refl, sym, ap, ◌∙◌, subst, arith}
use Rattle.std.specs.Prelude.{◌||◌}
use Rattle.std.specs.List.{AllByRecursion, list_any, IsDistinct}
use Rattle.std.proofs.lemmas.Bool.{eqb-true, false_from_ne_true}
use Rattle.std.proofs.lemmas.Map.Steps.{length-le_from_distinct_below}
use Rattle.term_table.specs.Tree.{Tree, Var, Con, App, Lam, Fam, TApp, Pi}
use Rattle.term_table.specs.Table.{tree_in, AreDifferent}
use Rattle.term_table.specs.Equality.{tree_eq}
use Rattle.term_table.proofs.Equality.{tree_eq-true}
use Rattle.proof_container.specs.Postorder.{is_emitted, emitted_with, emitted_with_all, entries, AreEmitted}
use Rattle.proof_container.specs.Encoding.{entry_number}
use Rattle.proof_container.proofs.Walks.{entries_grow, ArePostorder-different, number_is, listed-append, listed-left, listed-right, listed-last}
use Rattle.bpf_condition.specs.Parts.{HoldsParts}

-- each tree of the first list is in the second
abbrev pub AreAmong : List Tree → List Tree → Type 0
AreAmong ts held = (t : Tree) → is_emitted t ts ≡ true → is_emitted t held ≡ true

pub by_either : (a b : Bool) → (a || b) ≡ true → (P : Type 0) → (a ≡ true → P) → (b ≡ true → P) → P
by_either true b e P f g = f refl
by_either false b e P f g = g e

-- ---- the walk stays in the list

among-append : (ts us held : List Tree) → AreAmong ts held → AreAmong us held → AreAmong (ts ++ us) held
among-append ts us held h g t e =
    by_either (is_emitted t ts) (is_emitted t us) (sym (listed-append t ts us) ∙ e) (is_emitted t held ≡ true) (h t) (g t)

unless-among : (b : Bool) (t : Tree) (ts more held : List Tree) → AreAmong ts held → AreAmong more held → AreAmong (t ∷ []) held
    → AreAmong (cond b ts (more ++ t ∷ [])) held
unless-among true t ts more held h g k = h
unless-among false t ts more held h g k = among-append more (t ∷ []) held g k

module _ (held : List Tree) (parts : HoldsParts held) where
  one-among : (t : Tree) → is_emitted t held ≡ true → AreAmong (t ∷ []) held
  one-among t h u e = by_either (tree_eq u t) false e (is_emitted u held ≡ true)
      (λ same. subst (λ v. is_emitted v held ≡ true) (sym (tree_eq-true u t same)) h) (λ wrong. absurd cc)

  walk-among : (t : Tree) (ts : List Tree) → is_emitted t held ≡ true → AreAmong ts held → AreAmong (emitted_with t ts) held
  walk-among (Var n) ts h g = unless-among (is_emitted (Var n) ts) (Var n) ts ts held g g (one-among (Var n) h)
  walk-among (Con c) ts h g = unless-among (is_emitted (Con c) ts) (Con c) ts ts held g g (one-among (Con c) h)
  walk-among (Fam a) ts h g = unless-among (is_emitted (Fam a) ts) (Fam a) ts ts held g g (one-among (Fam a) h)
  walk-among (Lam b) ts h g = unless-among (is_emitted (Lam b) ts) (Lam b) ts (emitted_with b ts) held g
      (walk-among b ts (parts (Lam b) h) g) (one-among (Lam b) h)
  walk-among (App f a) ts h g =
      let p = parts (App f a) h in
      unless-among (is_emitted (App f a) ts) (App f a) ts (emitted_with a (emitted_with f ts)) held g
      (walk-among a (emitted_with f ts) p.1 (walk-among f ts p.0 g)) (one-among (App f a) h)
  walk-among (TApp q a) ts h g =
      let p = parts (TApp q a) h in
      unless-among (is_emitted (TApp q a) ts) (TApp q a) ts (emitted_with a (emitted_with q ts)) held g
      (walk-among a (emitted_with q ts) p.1 (walk-among q ts p.0 g)) (one-among (TApp q a) h)
  walk-among (Pi a b) ts h g =
      let p = parts (Pi a b) h in
      unless-among (is_emitted (Pi a b) ts) (Pi a b) ts (emitted_with b (emitted_with a ts)) held g
      (walk-among b (emitted_with a ts) p.1 (walk-among a ts p.0 g)) (one-among (Pi a b) h)

  walks-among : (roots ts : List Tree) → AreEmitted held roots → AreAmong ts held → AreAmong (emitted_with_all roots ts) held
  walks-among [] ts h g = g
  walks-among (r ∷ roots) ts h g = walks-among roots (emitted_with r ts) h.1 (walk-among r ts h.0 g)

  entries-among : (roots : List Tree) → AreEmitted held roots → AreAmong (entries roots) held
  unfolding entries
  entries-among roots h = walks-among roots [] h (λ t e. absurd cc)

-- ---- different trees of a list have different numbers there

-- the tree isn't among these
abbrev IsApart : Tree → List Tree → Type 0
IsApart t ts = (j : ℕ) → j < length ts → t ≡ tree_in ts j → ⊥

rest-different : (t : Tree) (ts : List Tree) → AreDifferent (t ∷ ts) → AreDifferent ts
rest-different t ts d i j a b e = let s : suc i ≡ suc j = d (suc i) (suc j) (omega (arith, a)) (omega (arith, b)) e in omega (arith, s)

first-apart : (t : Tree) (ts : List Tree) → AreDifferent (t ∷ ts) → IsApart t ts
first-apart t ts d j k e = let s : 0 ≡ suc j = d 0 (suc j) (omega arith) (omega (arith, k)) e in absurd (omega (arith, s))

module _ (held : List Tree) where
  -- each of these is in the list
  abbrev AreIn : List Tree → Type 0
  AreIn ts = AllByRecursion (λ t. is_emitted t held ≡ true) ts

  same-tree : (t u : Tree) → is_emitted t held ≡ true → is_emitted u held ≡ true → entry_number held t ≡ entry_number held u → t ≡ u
  same-tree t u h g e = sym (number_is held t h).1 ∙ ap (tree_in held) e ∙ (number_is held u g).1

  numbers-apart : (t : Tree) (ts : List Tree) → is_emitted t held ≡ true → AreIn ts → IsApart t ts
      → AllByRecursion (λ m. eqb (entry_number held t) m ≡ false) (map (entry_number held) ts)
  numbers-apart t [] h g k = tt
  numbers-apart t (u ∷ ts) h g k =
      let apart = false_from_ne_true (eqb (entry_number held t) (entry_number held u))
      (λ same. k 0 (omega arith) (same-tree t u h g.0 (eqb-true (entry_number held t) (entry_number held u) same))) in
      (apart, numbers-apart t ts h g.1 (λ j below. k (suc j) (omega (arith, below))))

  numbers-distinct : (ts : List Tree) → AreIn ts → AreDifferent ts → IsDistinct eqb (map (entry_number held) ts)
  unfolding IsDistinct
  numbers-distinct [] g d = tt
  numbers-distinct (t ∷ ts) g d = (numbers-apart t ts g.0 g.1 (first-apart t ts d), numbers-distinct ts g.1 (rest-different t ts d))

  numbers-below : (ts : List Tree) → AreIn ts → (q : ℕ) → list_any (eqb q) (map (entry_number held) ts) ≡ true → q < length held
  numbers-below [] g q e = absurd cc
  numbers-below (t ∷ ts) g q e =
      by_either (eqb q (entry_number held t)) (list_any (eqb q) (map (entry_number held) ts)) e (q < length held)
      (λ s. let below = (number_is held t g.0).0 in let same = eqb-true q (entry_number held t) s in omega (arith, below, same))
      (numbers-below ts g.1 q)

  length-numbers : (ts : List Tree) → length (map (entry_number held) ts) ≡ length ts
  length-numbers [] = refl
  length-numbers (t ∷ ts) = ap suc (length-numbers ts)

  are-in : (ts : List Tree) → AreAmong ts held → AreIn ts
  are-in [] h = tt
  are-in (t ∷ ts) h = (h t (listed-left t (t ∷ []) ts (listed-last t [])), are-in ts (λ u k. h u (listed-right u (t ∷ []) ts k)))

-- ---- the bound

pub entries-few : (held roots : List Tree) → HoldsParts held → AreEmitted held roots → length (entries roots) ≤ length held
entries-few held roots parts h =
    let es = entries roots in
    let inside = are-in held es (entries-among held parts roots h) in
    let few = length-le_from_distinct_below (map (entry_number held) es) (length held)
    (numbers-distinct held es inside (ArePostorder-different es (entries_grow roots))) (numbers-below held es inside) in
    let count = length-numbers held es in
    omega (arith, few, count)
