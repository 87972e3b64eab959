-- How far the lemmas in trees go, and which proofs cite backwards.
use Rattle.std.proofs.Common.{◌≡◌, ℕ, zero, suc, ◌<◌, Bool, true, false, cond, ◌&&◌, not, nat_lt, max, Some, List, [], ◌∷◌, map, take, get_or, refl, sym, ◌∙◌, ap, arith}
use Rattle.std.proofs.lemmas.Bool.{ltb-true, ltb-false, lt-ltb, le-ltb}
use Rattle.std.proofs.lemmas.List.{get_or-take}
use Rattle.term_table.specs.Tree.{Tree, Var, Con, App, Lam, Fam, TApp, Pi, Lemma}
use Rattle.term_table.specs.Table.{TableView, tree_in, tree_at, node_tree_in, PartsBelow}
use Rattle.term_table.specs.declared.Node.{Node}
use Rattle.term_table.specs.declared.Node.TheVariants as N
use Rattle.lf_lemmas.specs.WrittenOut.{cites_below}
use Rattle.lf_lemmas.specs.Tables.{lemmas_in}
use Rattle.lf_lemma_check.specs.First.{first_failing, cites_before}
use Rattle.lf_lemma_check.specs.Inside.Bounds.{cited, node_cited, late_by}

bound_at : (trees : List Tree) (id : ℕ) → get_or (map cited trees) id 0 ≡ cited (tree_in trees id)
bound_at [] id = refl
bound_at (t ∷ trees) zero = refl
bound_at (t ∷ trees) (suc id) = bound_at trees id

-- what is known of the first trees says it of a part among them
part_bound : (trees : List Tree) (n id : ℕ) → id < n →
    get_or (map cited (take n trees)) id 0 ≡ cited (tree_in trees id)
part_bound trees n id h =
    bound_at (take n trees) id ∙ ap cited (get_or-take n trees id (Var 0) h)

pub node_is : (trees : List Tree) (n : ℕ) (node : Node) → PartsBelow n node →
    node_cited (map cited (take n trees)) node ≡ cited (node_tree_in trees node)
node_is trees n (N.Var k) p = refl
node_is trees n (N.Const k) p = refl
node_is trees n (N.Lit w) p = refl
node_is trees n (N.Calc o a b) p = refl
node_is trees n (N.Fact r a b) p = refl
node_is trees n (N.Deny r a b) p = refl
node_is trees n (N.Lemma k) p = refl
node_is trees n (N.App f a) p = λ i. max (part_bound trees n f p.0 i) (part_bound trees n a p.1 i)
node_is trees n (N.Lam b) p = part_bound trees n b p
node_is trees n (N.Fam a) p = refl
node_is trees n (N.TApp f a) p = λ i. max (part_bound trees n f p.0 i) (part_bound trees n a p.1 i)
node_is trees n (N.Pi a b) p = λ i. max (part_bound trees n a p.0 i) (part_bound trees n b p.1 i)

below_not : (n k : ℕ) → nat_lt n k ≡ not (nat_lt k (suc n))
below_not n k = go (nat_lt n k) refl
  where
    go : (b : Bool) → nat_lt n k ≡ b → b ≡ not (nat_lt k (suc n))
    go true q =
        let l = ltb-true n k q in
        sym (ap not (le-ltb k (suc n) (omega (arith, l))))
    go false q =
        let l = ltb-false n k q in
        sym (ap not (lt-ltb k (suc n) (omega (arith, l))))

max_not : (k a b : ℕ) → (not (nat_lt k a) && not (nat_lt k b)) ≡ not (nat_lt k (max a b))
max_not k a b = go (nat_lt k a) refl (nat_lt k b) refl
  where
    go : (x : Bool) → nat_lt k a ≡ x → (y : Bool) → nat_lt k b ≡ y →
        (not x && not y) ≡ not (nat_lt k (max a b))
    go true p y q =
        let l = ltb-true k a p in
        sym (ap not (lt-ltb k (max a b) (omega (arith, l))))
    go false p true q =
        let l = ltb-true k b q in
        sym (ap not (lt-ltb k (max a b) (omega (arith, l))))
    go false p false q =
        let l = ltb-false k a p in
        let m = ltb-false k b q in
        sym (ap not (le-ltb k (max a b) (omega (arith, l, m))))

none_cited : (k : ℕ) → true ≡ not (nat_lt k 0)
none_cited k = sym (ap not (le-ltb k 0 (omega arith)))

-- a tree cites lemmas below a number alone, where they go no further
cites_is : (k : ℕ) (t : Tree) → cites_below k t ≡ not (nat_lt k (cited t))
cites_is k (Var n) = none_cited k
cites_is k (Con (Lemma n)) = below_not n k
cites_is k (Con c) = none_cited k
cites_is k (App f a) =
    (λ i. cites_is k f i && cites_is k a i) ∙ max_not k (cited f) (cited a)
cites_is k (Lam b) = cites_is k b
cites_is k (Fam a) = none_cited k
cites_is k (TApp p a) =
    (λ i. cites_is k p i && cites_is k a i) ∙ max_not k (cited p) (cited a)
cites_is k (Pi a b) =
    (λ i. cites_is k a i && cites_is k b i) ∙ max_not k (cited a) (cited b)

not_cond : {A : Type 0} (b : Bool) (x y : A) → cond (not b) x y ≡ cond b y x
not_cond true x y = refl
not_cond false x y = refl

-- the first that isn't so, by what is known of all trees
pub late_is : (t : TableView) (ids : List (ℕ × ℕ)) (k : ℕ) →
    late_by (map cited t.trees) k ids ≡ first_failing cites_before k (lemmas_in t ids)
late_is t [] k = refl
late_is t (p ∷ ids) k =
    let rest = first_failing cites_before (suc k) (lemmas_in t ids) in
    ap (λ z. cond (nat_lt k z) (Some k) (late_by (map cited t.trees) (suc k) ids))
    (bound_at t.trees p.1)
    ∙ ap (cond (nat_lt k (cited (tree_at t p.1))) (Some k)) (late_is t ids (suc k))
    ∙ sym (not_cond (nat_lt k (cited (tree_at t p.1))) rest (Some k))
    ∙ ap (λ b. cond b rest (Some k)) (sym (cites_is k (tree_at t p.1)))
