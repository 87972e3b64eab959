-- Sets of variables, and what a tree uses.
use Rattle.std.proofs.Common.{◌≡◌, ℕ, zero, suc, ◌+◌, ◌<◌, Bool, true, false, List, ◌∷◌}
use Rattle.std.proofs.Common.{refl, sym, ◌∙◌, ap, subst, arith, ltb-true, eqb-true, ◌⊎◌, inl, inr, ⊎_elim}
use Rattle.std.specs.Prelude.{◌||◌}
use Rattle.term_table.specs.Tree.{Tree, Var, Con, App, Lam, Fam, TApp, Pi}
use Rattle.term_table.specs.Scope.{is_scoped}
use Rattle.term_table.specs.Table.{TableView, IsKnown, tree_at}
use Rattle.lf_signature.specs.Laws.Booleans.{both}
use Rattle.lf_check.specs.Uses.{occurs, past, past_of, is_variable, is_set, member, IsSubset, IsUnion, Covers, AgreeOn}

-- one of both tests passes where their disjunction does
pub one_of : (a b : Bool) → (a || b) ≡ true → (a ≡ true) ⊎ (b ≡ true)
one_of true b h = inl refl
one_of false b h = inr h

pub or_one : (a b : Bool) → a ≡ true → (a || b) ≡ true
or_one a b h = ap (λ z. z || b) h

pub or_other : (a b : Bool) → b ≡ true → (a || b) ≡ true
or_other true b h = refl
or_other false b h = h

-- a tree that is no set has no variable in it
pub no_member : (s : Tree) → is_set s ≡ false → (i : ℕ) → member s i ≡ false
no_member (Var n) h i = refl
no_member (Con c) h i = refl
no_member (App v r) h i = go v h
  where
    go : (v : Tree) → is_variable v ≡ false → past_of v (member r) i ≡ false
    go (Var n) h = cc
    go (Con c) h = refl
    go (App f a) h = refl
    go (Lam b) h = refl
    go (Fam a) h = refl
    go (TApp p a) h = refl
    go (Pi a b) h = refl
no_member (Lam b) h i = refl
no_member (Fam a) h i = refl
no_member (TApp p a) h i = refl
no_member (Pi a b) h i = refl

pub none_within : (s : Tree) (u : ℕ → Bool) → is_set s ≡ false → IsSubset (member s) u
none_within s u h i q = cc (no_member s h i, q)

-- what is past the same variable
pub past_within : (g : ℕ) (s u : ℕ → Bool) → IsSubset s u → IsSubset (past g s) (past g u)
past_within zero s u h zero q = refl
past_within zero s u h (suc i) q = h i q
past_within (suc g) s u h zero q = cc q
past_within (suc g) s u h (suc i) q = past_within g s u h i q

-- what is past a variable that is past another
pub past_split : (g h k : ℕ) (s u : ℕ → Bool) → h ≡ suc (g + k) → IsSubset (past k s) u → IsSubset (past h s) (past g u)
past_split zero h k s u e w = subst (λ z. IsSubset (past z s) (past zero u)) (sym (let f : h ≡ suc k = omega (arith, e) in f)) go
  where
    go : IsSubset (past (suc k) s) (past zero u)
    go zero q = refl
    go (suc i) q = w i q
past_split (suc g) h k s u e w = subst (λ z. IsSubset (past z s) (past (suc g) u)) (sym (let f : h ≡ suc (suc (g + k)) = omega (arith, e) in f))
    (go (past_split g (suc (g + k)) k s u refl w))
  where
    go : IsSubset (past (suc (g + k)) s) (past g u) → IsSubset (past (suc (suc (g + k))) s) (past (suc g) u)
    go inner zero q = cc q
    go inner (suc i) q = inner i q

-- the variable itself
pub past_here : (g : ℕ) (s : ℕ → Bool) → past g s g ≡ true
past_here zero s = refl
past_here (suc g) s = past_here g s

-- a set that begins with a variable
pub set_is : (t : TableView) (u : ℕ) (g : ℕ) (r : Tree) → tree_at t u ≡ App (Var g) r → (i : ℕ) → member (tree_at t u) i ≡ past g (member r) i
set_is t u g r e i = ap (λ z. member z i) e

-- contexts that agree past a variable
pub agree_later : (g : ℕ) (s : ℕ → Bool) (a b : Tree) (ctx other : List Tree) → AgreeOn (past g s) ctx other → AgreeOn (past (suc g) s) (a ∷ ctx) (b ∷ other)
agree_later g s a b ctx other h zero q = cc q
agree_later g s a b ctx other h (suc i) q = h i q

-- what occurs in a scoped tree is near
pub occurs_near : (m : Tree) (n i : ℕ) → is_scoped n m ≡ true → occurs i m ≡ true → i < n
occurs_near (Var k) n i h q = let e : i ≡ k = eqb-true i k q in omega (arith, ltb-true k n h, e)
occurs_near (Con c) n i h q = cc q
occurs_near (App f a) n i h q = let s = both _ _ (both _ _ h).1 in ⊎_elim (occurs_near f n i s.0) (occurs_near a n i s.1) (one_of _ _ q)
occurs_near (Lam b) n i h q = let l = occurs_near b (suc n) (suc i) (both _ _ h).1 q in omega (arith, l)
occurs_near (Fam a) n i h q = cc q
occurs_near (TApp f a) n i h q = let s = both _ _ (both _ _ h).1 in ⊎_elim (occurs_near f n i s.0) (occurs_near a n i s.1) (one_of _ _ q)
occurs_near (Pi a b) n i h q =
    let s = both _ _ (both _ _ h).1 in
    ⊎_elim (occurs_near a n i s.0) (λ x. let l = occurs_near b (suc n) (suc i) s.1 x in omega (arith, l)) (one_of _ _ q)

pub agree_none : (s : Tree) (ctx other : List Tree) → is_set s ≡ false → AgreeOn (member s) ctx other
agree_none s ctx other h i q = cc (no_member s h i, q)

-- the union of a set without variables and another
pub union_right : (t : TableView) (s : Tree) (r : ℕ) → is_set s ≡ false → IsKnown t r → IsUnion t (member s) (member (tree_at t r)) r
union_right t s r h k = record { known = k; has_one = none_within s _ h; has_other = λ i q. q }

pub union_same : (t : TableView) (s : Tree) (r : ℕ) → s ≡ tree_at t r → IsKnown t r → IsUnion t (member s) (member (tree_at t r)) r
union_same t s r e k = record { known = k; has_one = λ i q. subst (λ z. member z i ≡ true) e q; has_other = λ i q. q }

-- what is in a set is in one with the same trees
begins : (v : TableView) (w g : ℕ) (r : Tree) (s : ℕ → Bool) → tree_at v w ≡ App (Var g) r → IsSubset s (past g (member r)) → IsSubset s (member (tree_at v w))
begins v w g r s e h i q = set_is v w g r e i ∙ h i q

pub union_first : (v : TableView) (w g : ℕ) (s r : Tree) → IsKnown v w → tree_at v w ≡ App (Var g) s → is_set r ≡ false →
    IsUnion v (past g (member s)) (member r) w
union_first v w g s r k e h = record { known = k; has_one = begins v w g s _ e (λ i q. q); has_other = none_within r _ h }

pub union_less : (u v : TableView) (s r : ℕ → Bool) (rest w g h k : ℕ) → IsUnion u (past k r) s rest → IsKnown v w →
    tree_at v w ≡ App (Var g) (tree_at u rest) → h ≡ suc (g + k) →
    IsUnion v (past g s) (past h r) w
union_less u v s r rest w g h k x kw e l = record {
  known = kw;
  has_one = begins v w g (tree_at u rest) _ e (past_within g s _ x.has_other);
  has_other = begins v w g (tree_at u rest) _ e (past_split g h k r _ l x.has_one);
}

pub union_more : (u v : TableView) (s r : ℕ → Bool) (rest w g h k : ℕ) → IsUnion u (past k s) r rest → IsKnown v w →
    tree_at v w ≡ App (Var h) (tree_at u rest) → g ≡ suc (h + k) →
    IsUnion v (past g s) (past h r) w
union_more u v s r rest w g h k x kw e l = record {
  known = kw;
  has_one = begins v w h (tree_at u rest) _ e (past_split h g k s _ l x.has_one);
  has_other = begins v w h (tree_at u rest) _ e (past_within h r _ x.has_other);
}

pub union_equal : (u v : TableView) (s r : ℕ → Bool) (rest w g h : ℕ) → IsUnion u s r rest → IsKnown v w → tree_at v w ≡ App (Var g) (tree_at u rest) → g ≡ h →
    IsUnion v (past g s) (past h r) w
union_equal u v s r rest w g h x kw e l = record {
  known = kw;
  has_one = begins v w g (tree_at u rest) _ e (past_within g s _ x.has_one);
  has_other = begins v w g (tree_at u rest) _ e (subst (λ z. IsSubset (past z r) (past g (member (tree_at u rest)))) l (past_within g r _ x.has_other));
}

-- a set as it is outside of a binder
abbrev pub IsOutside : Tree → Tree → Type 0
IsOutside s u = (i : ℕ) → member s (suc i) ≡ true → member u i ≡ true

pub outside_none : (s u : Tree) → is_set s ≡ false → IsOutside s u
outside_none s u h i q = cc (no_member s h (suc i), q)

pub outside_here : (s u : Tree) (g : ℕ) → s ≡ App (Var g) u → g ≡ 0 → IsOutside s u
outside_here s u g e z i q =
    let f : s ≡ App (Var zero) u = e ∙ ap (λ (k : ℕ). App (Var k) u) z in
    subst (λ y. member y (suc i) ≡ true) f q

pub outside_later : (s r u : Tree) (g k : ℕ) → s ≡ App (Var g) r → g ≡ suc k → u ≡ App (Var k) r → IsOutside s u
outside_later s r u g k e z f i q =
    let x : s ≡ App (Var (suc k)) r = e ∙ ap (λ (j : ℕ). App (Var j) r) z in
    subst (λ y. member y i ≡ true) (sym f) (subst (λ y. member y (suc i) ≡ true) x q)

pub covers_one : (t : TableView) (f : Tree) (s r : ℕ → Bool) (u : ℕ) → ((i : ℕ) → occurs i f ≡ true → s i ≡ true) → IsUnion t s r u → Covers (tree_at t u) f
covers_one t f s r u hf h i q = h.has_one i (hf i q)

pub covers_other : (t : TableView) (a : Tree) (s r : ℕ → Bool) (u : ℕ) → ((i : ℕ) → occurs i a ≡ true → r i ≡ true) → IsUnion t s r u → Covers (tree_at t u) a
covers_other t a s r u ha h i q = h.has_other i (ha i q)

pub covers_var : (n : ℕ) (r s : Tree) → s ≡ App (Var n) r → Covers s (Var n)
covers_var n r s e i q =
    let j : i ≡ n = eqb-true i n q in
    subst (λ z. member z i ≡ true) (sym e) (subst (λ (z : ℕ). past n (member r) z ≡ true) (sym j) (past_here n (member r)))

pub covers_closed : (m s : Tree) → is_scoped zero m ≡ true → Covers s m
covers_closed m s h i q = absurd (let l = occurs_near m zero i h q in omega (arith, l))
