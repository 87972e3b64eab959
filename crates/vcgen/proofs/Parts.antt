-- What the code of the condition needs: its parts, and what the caller says of its invariants.
use Rattle.std.proofs.Common.{◌≡◌, ℕ, zero, suc, ◌<◌, ◌^◌, Bool, List, [], ◌∷◌, map, drop, length, get_or, Contains, refl, sym, ap, subst, arith}
use Rattle.std.proofs.lemmas.Bool.{false≢true}
use Rattle.alpha_cfg.specs.Graph.{IsMarked}
use Rattle.alpha_cfg.specs.Cuts.{AreFlags}
use Rattle.term_table.specs.Measures.{height_of}
use Rattle.term_table.specs.Table.{TableView, IsKnown, tree_at, Extends}
use Rattle.vcgen.specs.Answers.{AreLowInvs}
use Rattle.vcgen.specs.Symbols.{AreInvs}

-- ---- what the caller says of its invariants

pub low-invs : (t u : TableView) (ids : List (ℕ × ℕ)) → AreLowInvs t ids → Extends t u → AreInvs u ids
low-invs t u [] h e = tt
low-invs t u (p ∷ ids) h e =
    let low : height_of (tree_at t p.1) < 2 ^ 31 = omega (arith, h.1) in
    (omega (arith, h.0, e.longer), subst (λ z. height_of z < 2 ^ 31) (sym (e.same p.1 h.0)) low, low-invs t u ids h.2 e)

pub low-here : (t : TableView) (ids : List (ℕ × ℕ)) → AreLowInvs t ids → AreInvs t ids
low-here t [] h = tt
low-here t (p ∷ ids) h = (h.0, omega (arith, h.1), low-here t ids h.2)

pub inv-at : (t : TableView) (ids : List (ℕ × ℕ)) (k : ℕ) (d : ℕ × ℕ) → AreInvs t ids → k < length ids → IsKnown t (get_or ids k d).1
inv-at t [] k d h lt = absurd (omega (arith, lt))
inv-at t (p ∷ ids) zero d h lt = h.0
inv-at t (p ∷ ids) (suc k) d h lt = inv-at t ids k d h.2 (omega (arith, lt))

pub invs-drop : (t : TableView) (ids : List (ℕ × ℕ)) (k : ℕ) → AreInvs t ids → AreInvs t (drop k ids)
invs-drop t ids zero h = h
invs-drop t [] (suc k) h = h
invs-drop t (p ∷ ids) (suc k) h = invs-drop t ids k h.2

marked-below : (marks : List Bool) (j : ℕ) → IsMarked marks j → j < length marks
marked-below [] j m = absurd (false≢true m)
marked-below (b ∷ marks) zero m = omega arith
marked-below (b ∷ marks) (suc j) m = let less = marked-below marks j m in omega (arith, less)

first-at : (ids : List (ℕ × ℕ)) (k : ℕ) (d : ℕ × ℕ) (e : ℕ) → k < length ids → get_or (map (λ p. p.0) ids) k e ≡ (get_or ids k d).0
first-at [] k d e lt = absurd (omega (arith, lt))
first-at (p ∷ ids) zero d e lt = refl
first-at (p ∷ ids) (suc k) d e lt = first-at ids k d e (omega (arith, lt))

firsts-length : (ids : List (ℕ × ℕ)) → length (map (λ p. p.0) ids) ≡ length ids
firsts-length [] = refl
firsts-length (p ∷ ids) = ap suc (firsts-length ids)

-- annotated indices are indices of the code
pub invs-inside : (ids : List (ℕ × ℕ)) (count : ℕ) (marks : List Bool) → AreFlags (map (λ p. p.0) ids) count marks → (k : ℕ) (d : ℕ × ℕ) → k < length ids → (get_or ids k d).0 < count
invs-inside ids count marks flags k d lt =
    let here : Contains (map (λ p. p.0) ids) (get_or ids k d).0 = (k, omega (arith, firsts-length ids, lt), first-at ids k d (get_or ids k d).0 lt) in
    let below = marked-below marks (get_or ids k d).0 ((flags.exact (get_or ids k d).0).1 here) in
    omega (arith, below, flags.count_is)
