-- What the walk leaves: each tree once, behind its parts, and nothing but the roots and what they are made of.
use Rattle.std.proofs.Common.{◌≡◌, ℕ, zero, suc, ◌+◌, ◌<◌, ◌≤◌, Bool, true, false, ◌||◌, cond, Option, Some, None, List, [], ◌∷◌, ◌++◌, length, take, drop, refl, sym, ◌∙◌, ap, subst, append_assoc, append-nil, arith, take-append-drop, ◌⊎◌, inl, inr, option_map}
use Rattle.std.proofs.lemmas.List.Folds.{list_any-append}
use Rattle.term_table.specs.Tree.{Tree, Var, Con, App, Lam, Fam, TApp, Pi}
use Rattle.term_table.specs.Equality.{tree_eq}
use Rattle.term_table.specs.Table.{tree_in, AreDifferent, IsSmall}
use Rattle.term_table.proofs.Equality.{tree_eq_refl, tree_eq-true}
use Rattle.proof_container.specs.Postorder.{is_emitted, unless_emitted, emitted_with, emitted_with_all, entries, HasPartsFirst, ArePostorder, AreEmitted}
use Rattle.proof_container.specs.Encoding.{entry_number, IsEntryTerm, AreTerms}
use Rattle.proof_container.specs.Decoding.{first_misplaced}
use Rattle.proof_container.specs.Inside.Walked.{nodes}

-- ---- lists of trees

or_left : (a b : Bool) → a ≡ true → (a || b) ≡ true
or_left true b q = refl
or_left false b q = cc

or_right : (a b : Bool) → b ≡ true → (a || b) ≡ true
or_right true b q = refl
or_right false b q = q

or_neither : (a b : Bool) → a ≡ false → b ≡ false → (a || b) ≡ false
or_neither true b p q = p
or_neither false b p q = q

pub listed-append : (t : Tree) (ts us : List Tree) → is_emitted t (ts ++ us) ≡ (is_emitted t ts || is_emitted t us)
listed-append t ts us = list_any-append (tree_eq t) ts us

pub listed-left : (t : Tree) (ts us : List Tree) → is_emitted t ts ≡ true → is_emitted t (ts ++ us) ≡ true
listed-left t ts us h = listed-append t ts us ∙ or_left _ _ h

pub listed-right : (t : Tree) (ts us : List Tree) → is_emitted t us ≡ true → is_emitted t (ts ++ us) ≡ true
listed-right t ts us h = listed-append t ts us ∙ or_right _ _ h

pub listed-last : (t : Tree) (ts : List Tree) → is_emitted t (ts ++ t ∷ []) ≡ true
listed-last t ts = listed-right t ts (t ∷ []) (or_left _ _ (tree_eq_refl t))

pub tree_eq-false : (t u : Tree) → (t ≡ u → ⊥) → tree_eq t u ≡ false
tree_eq-false t u h = go (tree_eq t u) refl
  where
    go : (b : Bool) → tree_eq t u ≡ b → tree_eq t u ≡ false
    go true q = absurd (h (tree_eq-true t u q))
    go false q = q

-- one tree more lists no other tree
pub listed-push : (u t : Tree) (ts : List Tree) → (u ≡ t → ⊥) → is_emitted u (ts ++ t ∷ []) ≡ is_emitted u ts
listed-push u t ts h = listed-append u ts (t ∷ []) ∙ go (is_emitted u ts) (tree_eq u t) (tree_eq-false u t h)
  where
    go : (a b : Bool) → b ≡ false → (a || (b || false)) ≡ a
    go true b q = refl
    go false b q = or_neither b false q refl

HasPartsFirst-left : (t : Tree) (ts us : List Tree) → HasPartsFirst ts t → HasPartsFirst (ts ++ us) t
HasPartsFirst-left (Var n) ts us h = tt
HasPartsFirst-left (Con c) ts us h = tt
HasPartsFirst-left (App f a) ts us h = (listed-left f ts us h.0, listed-left a ts us h.1)
HasPartsFirst-left (Lam b) ts us h = listed-left b ts us h
HasPartsFirst-left (Fam a) ts us h = tt
HasPartsFirst-left (TApp p a) ts us h = (listed-left p ts us h.0, listed-left a ts us h.1)
HasPartsFirst-left (Pi a b) ts us h = (listed-left a ts us h.0, listed-left b ts us h.1)

-- ---- growing

pub ArePostorder-append : (ts us vs : List Tree) → ArePostorder ts us → ArePostorder (ts ++ us) vs → ArePostorder ts (us ++ vs)
ArePostorder-append ts [] vs g h = subst (λ (z : List Tree). ArePostorder z vs) (append-nil ts) h
ArePostorder-append ts (u ∷ us) vs g h = (g.0, g.1, ArePostorder-append (ts ++ u ∷ []) us vs g.2 (subst (λ (z : List Tree). ArePostorder z vs) (sym (append_assoc ts (u ∷ []) us)) h))

pub ArePostorder-split : (ts us vs : List Tree) → ArePostorder ts (us ++ vs) → ArePostorder ts us × ArePostorder (ts ++ us) vs
ArePostorder-split ts [] vs g = (tt, subst (λ (z : List Tree). ArePostorder z vs) (sym (append-nil ts)) g)
ArePostorder-split ts (u ∷ us) vs g =
    let r = ArePostorder-split (ts ++ u ∷ []) us vs g.2 in
    ((g.0, g.1, r.0), subst (λ (z : List Tree). ArePostorder z vs) (append_assoc ts (u ∷ []) us) r.1)

-- a tree that comes behind ts in a list that grows, and where
ArePostorder-at : (ts es : List Tree) → ArePostorder ts es → (i : ℕ) → i < length es → HasPartsFirst (ts ++ take i es) (tree_in es i) × (is_emitted (tree_in es i) (ts ++ take i es) ≡ false)
ArePostorder-at ts [] g i h = absurd (omega arith)
ArePostorder-at ts (e ∷ es) g zero h = (subst (λ (z : List Tree). HasPartsFirst z e) (sym (append-nil ts)) g.0, rw append-nil g.1)
ArePostorder-at ts (e ∷ es) g (suc i) h =
    let r = ArePostorder-at (ts ++ e ∷ []) es g.2 i (omega arith) in
    let same : (ts ++ e ∷ []) ++ take i es ≡ ts ++ (e ∷ take i es) = append_assoc ts (e ∷ []) (take i es) in
    (subst (λ (z : List Tree). HasPartsFirst z (tree_in es i)) same r.0, ap (is_emitted (tree_in es i)) (sym same) ∙ r.1)

pub ArePostorder-parts : (es : List Tree) → ArePostorder [] es → (i : ℕ) → i < length es → HasPartsFirst (take i es) (tree_in es i)
ArePostorder-parts es g i h = (ArePostorder-at [] es g i h).0

-- ---- numbers

pub listed-at : (es : List Tree) (i : ℕ) → i < length es → is_emitted (tree_in es i) es ≡ true
listed-at [] i h = absurd (omega arith)
listed-at (e ∷ es) zero h = or_left _ _ (tree_eq_refl e)
listed-at (e ∷ es) (suc i) h = or_right _ _ (listed-at es i (omega arith))

-- a tree below a number is listed among so many
listed-below : (es : List Tree) (i j : ℕ) → i < j → j ≤ length es → is_emitted (tree_in es i) (take j es) ≡ true
listed-below es i zero h k = absurd (omega arith)
listed-below [] i (suc j) h k = absurd (omega arith)
listed-below (e ∷ es) zero (suc j) h k = or_left _ _ (tree_eq_refl e)
listed-below (e ∷ es) (suc i) (suc j) h k = or_right _ _ (listed-below es i j (omega arith) (omega arith))

earlier : (es : List Tree) → ArePostorder [] es → (i j : ℕ) → i < j → j < length es → tree_in es i ≡ tree_in es j → ⊥
earlier es g i j h k q =
    let one : true ≡ false = sym (listed-below es i j h (omega arith)) ∙ ap (λ z. is_emitted z (take j es)) q ∙ (ArePostorder-at [] es g j k).1 in
    cc

order : (i j : ℕ) → (i < j) ⊎ ((j < i) ⊎ (i ≡ j))
order i j = grind arith

pub ArePostorder-different : (es : List Tree) → ArePostorder [] es → AreDifferent es
ArePostorder-different es g i j hi hj q = go (order i j)
  where
    go : (i < j) ⊎ ((j < i) ⊎ (i ≡ j)) → i ≡ j
    go (inl h) = absurd (earlier es g i j h hj q)
    go (inr (inl h)) = absurd (earlier es g j i h hi (sym q))
    go (inr (inr h)) = h

pub number_is : (es : List Tree) (t : Tree) → is_emitted t es ≡ true → (entry_number es t < length es) × (tree_in es (entry_number es t) ≡ t)
number_is [] t h = cc
number_is (e ∷ es) t h = go (tree_eq t e) refl h (number_is es t)
  where
    go : (b : Bool) → tree_eq t e ≡ b → (b || is_emitted t es) ≡ true → (is_emitted t es ≡ true → (entry_number es t < length es) × (tree_in es (entry_number es t) ≡ t)) →
        (cond b 0 (suc (entry_number es t)) < length (e ∷ es)) × (tree_in (e ∷ es) (cond b 0 (suc (entry_number es t))) ≡ t)
    go true q l r = (omega arith, sym (tree_eq-true t e q))
    go false q l r = (omega (arith, (r l).0), (r l).1)

pub number-append : (ts us : List Tree) (t : Tree) → is_emitted t ts ≡ true → entry_number (ts ++ us) t ≡ entry_number ts t
number-append [] us t h = cc
number-append (e ∷ ts) us t h = go (tree_eq t e) h (number-append ts us t)
  where
    go : (b : Bool) → (b || is_emitted t ts) ≡ true → (is_emitted t ts ≡ true → entry_number (ts ++ us) t ≡ entry_number ts t) → cond b 0 (suc (entry_number (ts ++ us) t)) ≡ cond b 0 (suc (entry_number ts t))
    go true l r = refl
    go false l r = ap suc (r l)

pub number-at : (es : List Tree) → AreDifferent es → (i : ℕ) → i < length es → entry_number es (tree_in es i) ≡ i
number-at es d i h =
    let r = number_is es (tree_in es i) (listed-at es i h) in
    d (entry_number es (tree_in es i)) i r.0 h r.1

-- ---- visiting

-- behind ts there are trees more, each behind its parts and none of more than n nodes
record Visited (n : ℕ) (ts out : List Tree) : Type 0 where
  more : List Tree
  is : out ≡ ts ++ more
  extends : ArePostorder ts more
  small : (u : Tree) → n < nodes u → is_emitted u out ≡ is_emitted u ts

stay : (n : ℕ) (ts : List Tree) → Visited n ts ts
stay n ts = record { more = []; is = sym (append-nil ts); extends = tt; small = λ u h. refl }

wider : (n m : ℕ) (ts out : List Tree) → n ≤ m → Visited n ts out → Visited m ts out
wider n m ts out h v = record { more = v.more; is = v.is; extends = v.extends; small = λ u k. v.small u (omega arith) }

chain : (n : ℕ) (ts us vs : List Tree) → Visited n ts us → Visited n us vs → Visited n ts vs
chain n ts us vs v w = record {
  more = v.more ++ w.more;
  is = w.is ∙ ap (λ (z : List Tree). z ++ w.more) v.is ∙ append_assoc ts v.more w.more;
  extends = ArePostorder-append ts v.more w.more v.extends (subst (λ (z : List Tree). ArePostorder z w.more) v.is w.extends);
  small = λ u h. w.small u h ∙ v.small u h;
}

listed-kept : (n : ℕ) (t : Tree) (ts us : List Tree) → Visited n ts us → is_emitted t ts ≡ true → is_emitted t us ≡ true
listed-kept n t ts us v h = ap (is_emitted t) v.is ∙ listed-left t ts v.more h

-- the tree itself behind its parts
closing : (n : ℕ) (t : Tree) (ts us : List Tree) → n < nodes t → Visited n ts us → HasPartsFirst us t → is_emitted t ts ≡ false → Visited (nodes t) ts (us ++ t ∷ [])
closing n t ts us h v p f = record {
  more = v.more ++ t ∷ [];
  is = ap (λ (z : List Tree). z ++ t ∷ []) v.is ∙ append_assoc ts v.more (t ∷ []);
  extends = ArePostorder-append ts v.more (t ∷ []) v.extends (subst (λ (z : List Tree). HasPartsFirst z t) v.is p, ap (is_emitted t) (sym v.is) ∙ v.small t h ∙ f, tt);
  small = λ u k. listed-push u t us (λ q. let e : nodes u ≡ nodes t = ap nodes q in absurd (omega arith)) ∙ v.small u (omega arith);
}

-- what a visit of t gives
abbrev Visits : Tree → List Tree → List Tree → Type 0
Visits t ts out = Visited (nodes t) ts out × (is_emitted t out ≡ true)

visits_once : (n : ℕ) (t : Tree) (ts us : List Tree) → n < nodes t → Visited n ts us → HasPartsFirst us t → Visits t ts (unless_emitted t ts us)
visits_once n t ts us h v p = go (is_emitted t ts) refl
  where
    go : (b : Bool) → is_emitted t ts ≡ b → Visits t ts (cond b ts (us ++ t ∷ []))
    go true q = (stay (nodes t) ts, q)
    go false q = (closing n t ts us h v p q, listed-last t us)

-- a tree of two parts
visits_two : (t a b : Tree) (ts us vs : List Tree) → nodes t ≡ 1 + (nodes a + nodes b) → Visits a ts us → Visits b us vs → HasPartsFirst vs t → Visits t ts (unless_emitted t ts vs)
visits_two t a b ts us vs e v w p =
    visits_once (nodes a + nodes b) t ts vs (omega arith) (chain (nodes a + nodes b) ts us vs (wider _ _ ts us (omega arith) v.0) (wider _ _ us vs (omega arith) w.0)) p

visits : (t : Tree) (ts : List Tree) → Visits t ts (emitted_with t ts)
visits (Var n) ts = visits_once 0 (Var n) ts ts (omega arith) (stay 0 ts) tt
visits (Con c) ts = visits_once 0 (Con c) ts ts (omega arith) (stay 0 ts) tt
visits (App f a) ts =
    let v = visits f ts in let w = visits a (emitted_with f ts) in
    visits_two (App f a) f a ts (emitted_with f ts) (emitted_with a (emitted_with f ts)) refl v w (listed-kept (nodes a) f _ _ w.0 v.1, w.1)
visits (Lam b) ts = let v = visits b ts in visits_once (nodes b) (Lam b) ts (emitted_with b ts) (omega arith) v.0 v.1
visits (Fam a) ts = visits_once 0 (Fam a) ts ts (omega arith) (stay 0 ts) tt
visits (TApp p a) ts =
    let v = visits p ts in let w = visits a (emitted_with p ts) in
    visits_two (TApp p a) p a ts (emitted_with p ts) (emitted_with a (emitted_with p ts)) refl v w (listed-kept (nodes a) p _ _ w.0 v.1, w.1)
visits (Pi a b) ts =
    let v = visits a ts in let w = visits b (emitted_with a ts) in
    visits_two (Pi a b) a b ts (emitted_with a ts) (emitted_with b (emitted_with a ts)) refl v w (listed-kept (nodes b) a _ _ w.0 v.1, w.1)

-- a tree that is larger than what was visited is listed as it was
emitted_with-larger : (t u : Tree) (ts : List Tree) → nodes t < nodes u → is_emitted u (emitted_with t ts) ≡ is_emitted u ts
emitted_with-larger t u ts h = (visits t ts).0.small u h

pub emitted_with-listed : (t : Tree) (ts : List Tree) → is_emitted t ts ≡ true → emitted_with t ts ≡ ts
emitted_with-listed (Var n) ts h = ap (λ b. cond b ts (ts ++ Var n ∷ [])) h
emitted_with-listed (Con c) ts h = ap (λ b. cond b ts (ts ++ Con c ∷ [])) h
emitted_with-listed (App f a) ts h = ap (λ b. cond b ts (emitted_with a (emitted_with f ts) ++ App f a ∷ [])) h
emitted_with-listed (Lam b) ts h = ap (λ z. cond z ts (emitted_with b ts ++ Lam b ∷ [])) h
emitted_with-listed (Fam a) ts h = ap (λ b. cond b ts (ts ++ Fam a ∷ [])) h
emitted_with-listed (TApp p a) ts h = ap (λ b. cond b ts (emitted_with a (emitted_with p ts) ++ TApp p a ∷ [])) h
emitted_with-listed (Pi a b) ts h = ap (λ z. cond z ts (emitted_with b (emitted_with a ts) ++ Pi a b ∷ [])) h

-- after the parts the tree itself is still not listed, so it may be tested then
unless_emitted-late : (t : Tree) (ts us : List Tree) → is_emitted t ts ≡ false → is_emitted t us ≡ is_emitted t ts → unless_emitted t ts us ≡ unless_emitted t us us
unless_emitted-late t ts us f e = ap (λ b. cond b ts (us ++ t ∷ [])) f ∙ sym (ap (λ b. cond b us (us ++ t ∷ [])) (e ∙ f))

pub emitted_with-app : (f a : Tree) (ts : List Tree) → is_emitted (App f a) ts ≡ false → emitted_with (App f a) ts ≡ unless_emitted (App f a) (emitted_with a (emitted_with f ts)) (emitted_with a (emitted_with f ts))
emitted_with-app f a ts h = unless_emitted-late (App f a) ts (emitted_with a (emitted_with f ts)) h (emitted_with-larger a (App f a) (emitted_with f ts) (omega arith) ∙ emitted_with-larger f (App f a) ts (omega arith))

pub emitted_with-tapp : (p a : Tree) (ts : List Tree) → is_emitted (TApp p a) ts ≡ false → emitted_with (TApp p a) ts ≡ unless_emitted (TApp p a) (emitted_with a (emitted_with p ts)) (emitted_with a (emitted_with p ts))
emitted_with-tapp p a ts h = unless_emitted-late (TApp p a) ts (emitted_with a (emitted_with p ts)) h (emitted_with-larger a (TApp p a) (emitted_with p ts) (omega arith) ∙ emitted_with-larger p (TApp p a) ts (omega arith))

pub emitted_with-pi : (a b : Tree) (ts : List Tree) → is_emitted (Pi a b) ts ≡ false → emitted_with (Pi a b) ts ≡ unless_emitted (Pi a b) (emitted_with b (emitted_with a ts)) (emitted_with b (emitted_with a ts))
emitted_with-pi a b ts h = unless_emitted-late (Pi a b) ts (emitted_with b (emitted_with a ts)) h (emitted_with-larger b (Pi a b) (emitted_with a ts) (omega arith) ∙ emitted_with-larger a (Pi a b) ts (omega arith))

pub emitted_with-lam : (b : Tree) (ts : List Tree) → is_emitted (Lam b) ts ≡ false → emitted_with (Lam b) ts ≡ unless_emitted (Lam b) (emitted_with b ts) (emitted_with b ts)
emitted_with-lam b ts h = unless_emitted-late (Lam b) ts (emitted_with b ts) h (emitted_with-larger b (Lam b) ts (omega arith))

-- ---- walking

-- what a walk adds
record Added (ts out : List Tree) : Type 0 where
  more : List Tree
  is : out ≡ ts ++ more
  extends : ArePostorder ts more

walk_adds : (rs ts : List Tree) → Added ts (emitted_with_all rs ts)
walk_adds [] ts = record { more = []; is = sym (append-nil ts); extends = tt }
walk_adds (r ∷ rs) ts =
    let v = (visits r ts).0 in let w = walk_adds rs (emitted_with r ts) in
    record {
      more = v.more ++ w.more;
      is = w.is ∙ ap (λ (z : List Tree). z ++ w.more) v.is ∙ append_assoc ts v.more w.more;
      extends = ArePostorder-append ts v.more w.more v.extends (subst (λ (z : List Tree). ArePostorder z w.more) v.is w.extends);
    }

pub entries_grow : (rs : List Tree) → ArePostorder [] (entries rs)
unfolding entries
entries_grow rs = let w = walk_adds rs [] in subst (λ (z : List Tree). ArePostorder [] z) (sym w.is) w.extends

walk_listed : (rs ts : List Tree) → AreEmitted (emitted_with_all rs ts) rs
walk_listed [] ts = tt
walk_listed (r ∷ rs) ts =
    let w = walk_adds rs (emitted_with r ts) in
    (ap (is_emitted r) w.is ∙ listed-left r (emitted_with r ts) w.more (visits r ts).1, walk_listed rs (emitted_with r ts))

pub entries_listed : (rs : List Tree) → AreEmitted (entries rs) rs
unfolding entries
entries_listed rs = walk_listed rs []

-- terms made of terms

terms_push : (v : ℕ) (ts : List Tree) (t : Tree) → AreTerms v ts → IsEntryTerm v t → IsSmall t → AreTerms v (ts ++ t ∷ [])
terms_push v [] t h a b = (a, b, tt)
terms_push v (u ∷ ts) t h a b = (h.0, h.1, terms_push v ts t h.2 a b)

terms_once : (v : ℕ) (t : Tree) (ts us : List Tree) → AreTerms v ts → AreTerms v us → IsEntryTerm v t → IsSmall t → AreTerms v (unless_emitted t ts us)
terms_once v t ts us h k a b = go (is_emitted t ts)
  where
    go : (c : Bool) → AreTerms v (cond c ts (us ++ t ∷ []))
    go true = h
    go false = terms_push v us t k a b

terms_visit : (v : ℕ) (t : Tree) (ts : List Tree) → IsEntryTerm v t → IsSmall t → AreTerms v ts → AreTerms v (emitted_with t ts)
terms_visit v (Var n) ts a b h = terms_once v (Var n) ts ts h h a b
terms_visit v (Con c) ts a b h = terms_once v (Con c) ts ts h h a b
terms_visit v (App f x) ts a b h = terms_once v (App f x) ts (emitted_with x (emitted_with f ts)) h (terms_visit v x (emitted_with f ts) a.2 b.1 (terms_visit v f ts a.0 b.0 h)) a b
terms_visit v (Lam x) ts a b h = terms_once v (Lam x) ts (emitted_with x ts) h (terms_visit v x ts a b h) a b
terms_visit v (Fam x) ts a b h = absurd a
terms_visit v (TApp p x) ts a b h = absurd a
terms_visit v (Pi x y) ts a b h = absurd a

terms_walk : (v : ℕ) (rs ts : List Tree) → AreTerms v rs → AreTerms v ts → AreTerms v (emitted_with_all rs ts)
terms_walk v [] ts r h = h
terms_walk v (t ∷ rs) ts r h = terms_walk v rs (emitted_with t ts) r.2 (terms_visit v t ts r.0 r.1 h)

pub entries_terms : (v : ℕ) (rs : List Tree) → AreTerms v rs → AreTerms v (entries rs)
unfolding entries
entries_terms v rs r = terms_walk v rs [] r tt

-- ---- a list that has the walk's trees in its order

pub misplaced_none : (es : List Tree) → first_misplaced es es ≡ None
misplaced_none [] = refl
misplaced_none (e ∷ es) = ap (λ b. cond b (option_map suc (first_misplaced es es)) (Some 0)) (tree_eq_refl e) ∙ ap (option_map suc) (misplaced_none es)

map_none : (o : Option ℕ) → option_map suc o ≡ None → o ≡ None
map_none None q = refl
map_none (Some n) q = cc

-- a list no tree of which is misplaced is a beginning of the walk
beginning : (es ws : List Tree) → first_misplaced es ws ≡ None → (vs : List Tree) × (ws ≡ es ++ vs)
beginning [] ws q = (ws, refl)
beginning (e ∷ es) [] q = cc
beginning (e ∷ es) (w ∷ ws) q = go (tree_eq e w) refl q (beginning es ws)
  where
    go : (b : Bool) → tree_eq e w ≡ b → cond b (option_map suc (first_misplaced es ws)) (Some 0) ≡ None → (first_misplaced es ws ≡ None → (vs : List Tree) × (ws ≡ es ++ vs)) → (vs : List Tree) × (w ∷ ws ≡ e ∷ (es ++ vs))
    go true p k r =
        let h = r (map_none (first_misplaced es ws) k) in
        let head : w ≡ e = sym (tree_eq-true e w p) in
        let rest : ws ≡ es ++ h.0 = h.1 in
        (h.0, λ i. head i ∷ rest i)
    go false p k r = cc

abbrev IsClosed : List Tree → Type 0
IsClosed es = (t : Tree) → is_emitted t es ≡ true → HasPartsFirst es t

-- what grows has the parts of its trees
closed : (es : List Tree) → ArePostorder [] es → IsClosed es
closed es g t h =
    let r = number_is es t h in
    let before : HasPartsFirst (take (entry_number es t) es) (tree_in es (entry_number es t)) = ArePostorder-parts es g (entry_number es t) r.0 in
    subst (λ (z : Tree). HasPartsFirst es z) r.1
    (subst (λ (z : List Tree). HasPartsFirst z (tree_in es (entry_number es t))) (take-append-drop (entry_number es t) es)
    (HasPartsFirst-left (tree_in es (entry_number es t)) (take (entry_number es t) es) (drop (entry_number es t) es) before))

AreEmitted-push : (es ts : List Tree) (t : Tree) → AreEmitted es ts → is_emitted t es ≡ true → AreEmitted es (ts ++ t ∷ [])
AreEmitted-push es [] t l h = (h, tt)
AreEmitted-push es (u ∷ ts) t l h = (l.0, AreEmitted-push es ts t l.1 h)

inside_once : (es : List Tree) (t : Tree) (ts us : List Tree) → is_emitted t es ≡ true → AreEmitted es ts → AreEmitted es us → AreEmitted es (unless_emitted t ts us)
inside_once es t ts us h l m = go (is_emitted t ts)
  where
    go : (b : Bool) → AreEmitted es (cond b ts (us ++ t ∷ []))
    go true = l
    go false = AreEmitted-push es us t m h

-- a visit of what is listed stays within a list that has the parts of its trees
inside_visit : (es : List Tree) → IsClosed es → (t : Tree) (ts : List Tree) → is_emitted t es ≡ true → AreEmitted es ts → AreEmitted es (emitted_with t ts)
inside_visit es c (Var n) ts h l = inside_once es (Var n) ts ts h l l
inside_visit es c (Con d) ts h l = inside_once es (Con d) ts ts h l l
inside_visit es c (App f a) ts h l =
    let p = c (App f a) h in
    inside_once es (App f a) ts (emitted_with a (emitted_with f ts)) h l (inside_visit es c a (emitted_with f ts) p.1 (inside_visit es c f ts p.0 l))
inside_visit es c (Lam b) ts h l = inside_once es (Lam b) ts (emitted_with b ts) h l (inside_visit es c b ts (c (Lam b) h) l)
inside_visit es c (Fam a) ts h l = inside_once es (Fam a) ts ts h l l
inside_visit es c (TApp q a) ts h l =
    let p = c (TApp q a) h in
    inside_once es (TApp q a) ts (emitted_with a (emitted_with q ts)) h l (inside_visit es c a (emitted_with q ts) p.1 (inside_visit es c q ts p.0 l))
inside_visit es c (Pi a b) ts h l =
    let p = c (Pi a b) h in
    inside_once es (Pi a b) ts (emitted_with b (emitted_with a ts)) h l (inside_visit es c b (emitted_with a ts) p.1 (inside_visit es c a ts p.0 l))

inside_walk : (es : List Tree) → IsClosed es → (rs ts : List Tree) → AreEmitted es rs → AreEmitted es ts → AreEmitted es (emitted_with_all rs ts)
inside_walk es c [] ts r l = l
inside_walk es c (t ∷ rs) ts r l = inside_walk es c rs (emitted_with t ts) r.1 (inside_visit es c t ts r.0 l)

inside_entries : (es rs : List Tree) → ArePostorder [] es → AreEmitted es rs → AreEmitted es (entries rs)
unfolding entries
inside_entries es rs g r = inside_walk es (closed es g) rs [] r tt

AreEmitted-behind : (es ts us : List Tree) → AreEmitted es (ts ++ us) → AreEmitted es us
AreEmitted-behind es [] us l = l
AreEmitted-behind es (t ∷ ts) us l = AreEmitted-behind es ts us l.1

-- what is listed doesn't grow
none_behind : (es vs : List Tree) → ArePostorder es vs → AreEmitted es vs → es ++ vs ≡ es
none_behind es [] g l = append-nil es
none_behind es (v ∷ vs) g l = let one : true ≡ false = sym l.0 ∙ g.1 in cc

pub ordered_is : (es rs : List Tree) → ArePostorder [] es → AreEmitted es rs → first_misplaced es (entries rs) ≡ None → es ≡ entries rs
ordered_is es rs g r m =
    let b = beginning es (entries rs) m in
    let grown : ArePostorder [] (es ++ b.0) = subst (λ (z : List Tree). ArePostorder [] z) b.1 (entries_grow rs) in
    let inside : AreEmitted es (es ++ b.0) = subst (λ (z : List Tree). AreEmitted es z) b.1 (inside_entries es rs g r) in
    sym (b.1 ∙ none_behind es b.0 (ArePostorder-split [] es b.0 grown).1 (AreEmitted-behind es es b.0 inside))
