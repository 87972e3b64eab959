-- The trees of a table's entries, and what one more entry does.
use Rattle.std.proofs.Common.{◌≡◌, ℕ, zero, suc, ◌+◌, ◌<◌, ◌≤◌, List, [], ◌∷◌, ◌++◌, length, get_or, refl, sym, ◌∙◌, ap, subst, arith, length-append, ◌⊎◌, inl, inr, add-zero, zero-add, Option, Some, None, Bool, true, false, cond}
use Rattle.std.specs.Bool.{Decides}
use Rattle.std.proofs.Math.ListN.{get_or-append}
use Rattle.std.proofs.Math.Seq.{get_or-append_seam}
use Rattle.term_table.specs.Tree.{Tree}
use Rattle.term_table.specs.declared.Node.{Node}
use Rattle.term_table.specs.declared.Node.TheVariants as N
use Rattle.term_table.specs.declared.Entry.{Entry}
use Rattle.term_table.specs.Table.{TableView, IsKnown, tree_in, tree_at, node_tree_in, node_tree, PartsBelow, AreDifferent, IsSmall, AreSmall, with_tree, Adds, Extends}
use Rattle.term_table.specs.Inside.Entries.{IsSmallNode, grow, entry_trees, IsMeasured, AreEntries}

-- the tree of a node hangs on the trees of its parts alone
pub node_tree-same : (n : Node) (k : ℕ) (a b : List Tree) → PartsBelow k n → ((i : ℕ) → i < k → tree_in a i ≡ tree_in b i) → node_tree_in a n ≡ node_tree_in b n
node_tree-same (N.Var v) k a b p h = refl
node_tree-same (N.Const v) k a b p h = refl
node_tree-same (N.Lit v) k a b p h = refl
node_tree-same (N.Calc o v w) k a b p h = refl
node_tree-same (N.Fact o v w) k a b p h = refl
node_tree-same (N.Deny o v w) k a b p h = refl
node_tree-same (N.Lemma v) k a b p h = refl
node_tree-same (N.App f x) k a b p h = λ i. Tree.App (h f p.0 i) (h x p.1 i)
node_tree-same (N.Lam x) k a b p h = ap Tree.Lam (h x p)
node_tree-same (N.Fam v) k a b p h = refl
node_tree-same (N.TApp f x) k a b p h = λ i. Tree.TApp (h f p.0 i) (h x p.1 i)
node_tree-same (N.Pi f x) k a b p h = λ i. Tree.Pi (h f p.0 i) (h x p.1 i)

-- in a table of different trees the tree tells the node
pub node_tree-injective : (n m : Node) (ts : List Tree) → AreDifferent ts → PartsBelow (length ts) n → PartsBelow (length ts) m → node_tree_in ts n ≡ node_tree_in ts m → n ≡ m
node_tree-injective (N.Var v) (N.Var w) ts d p q e = ap N.Var cc
node_tree-injective (N.Const v) (N.Const w) ts d p q e = ap N.Const cc
node_tree-injective (N.Lit v) (N.Lit w) ts d p q e = ap N.Lit cc
node_tree-injective (N.Calc o v w) (N.Calc o' v' w') ts d p q e = cc
node_tree-injective (N.Fact o v w) (N.Fact o' v' w') ts d p q e = cc
node_tree-injective (N.Deny o v w) (N.Deny o' v' w') ts d p q e = cc
node_tree-injective (N.Lemma v) (N.Lemma w) ts d p q e = ap N.Lemma cc
node_tree-injective (N.App f x) (N.App g y) ts d p q e =
    let a = d f g p.0 q.0 cc in let b = d x y p.1 q.1 cc in λ i. N.App (a i) (b i)
node_tree-injective (N.Lam x) (N.Lam y) ts d p q e = ap N.Lam (d x y p q cc)
node_tree-injective (N.Fam v) (N.Fam w) ts d p q e = ap N.Fam cc
node_tree-injective (N.TApp f x) (N.TApp g y) ts d p q e =
    let a = d f g p.0 q.0 cc in let b = d x y p.1 q.1 cc in λ i. N.TApp (a i) (b i)
node_tree-injective (N.Pi f x) (N.Pi g y) ts d p q e =
    let a = d f g p.0 q.0 cc in let b = d x y p.1 q.1 cc in λ i. N.Pi (a i) (b i)
node_tree-injective _ _ ts d p q e = cc

length-grow : (ts : List Tree) (es : List Entry) → length (grow ts es) ≡ length ts + length es
length-grow ts [] = omega arith
length-grow ts (e ∷ es) = omega (arith, length-grow (ts ++ node_tree_in ts e.node ∷ []) es, length-append ts (node_tree_in ts e.node ∷ []))

pub length-entry_trees : (es : List Entry) → length (entry_trees es) ≡ length es
length-entry_trees es = omega (arith, length-grow [] es)

grow-append : (ts : List Tree) (es : List Entry) (e : Entry) → grow ts (es ++ e ∷ []) ≡ grow ts es ++ node_tree_in (grow ts es) e.node ∷ []
grow-append ts [] e = refl
grow-append ts (d ∷ es) e = grow-append (ts ++ node_tree_in ts d.node ∷ []) es e

pub entry_trees-append : (es : List Entry) (e : Entry) → entry_trees (es ++ e ∷ []) ≡ entry_trees es ++ node_tree_in (entry_trees es) e.node ∷ []
entry_trees-append es e = grow-append [] es e

pub tree_in-push : (ts : List Tree) (t : Tree) (i : ℕ) → i < length ts → tree_in (ts ++ t ∷ []) i ≡ tree_in ts i
tree_in-push ts t i h = get_or-append ts (t ∷ []) (Tree.Var 0) i h

pub tree_in-last : (ts : List Tree) (t : Tree) → tree_in (ts ++ t ∷ []) (length ts) ≡ t
tree_in-last ts t = get_or-append_seam ts t [] (Tree.Var 0)

-- what grows keeps its trees
grow-keeps : (ts : List Tree) (es : List Entry) (i : ℕ) → i < length ts → tree_in (grow ts es) i ≡ tree_in ts i
grow-keeps ts [] i h = refl
grow-keeps ts (e ∷ es) i h =
    grow-keeps (ts ++ node_tree_in ts e.node ∷ []) es i (omega (arith, length-append ts (node_tree_in ts e.node ∷ []))) ∙ tree_in-push ts (node_tree_in ts e.node) i h

tree-grow : (ts : List Tree) (es : List Entry) (d : Entry) (i : ℕ) → i < length es → ((j : ℕ) → j < length es → PartsBelow (length ts + j) (get_or es j d).node) →
    tree_in (grow ts es) (length ts + i) ≡ node_tree_in (grow ts es) (get_or es i d).node
tree-grow ts [] d i h p = absurd (omega arith)
tree-grow ts (e ∷ es) d zero h p =
    let q : PartsBelow (length ts) e.node = rw add-zero at (p 0 (omega arith)) in
    ap (tree_in (grow ts (e ∷ es))) (add-zero (length ts))
    ∙ grow-keeps (ts ++ node_tree_in ts e.node ∷ []) es (length ts) (omega (arith, length-append ts (node_tree_in ts e.node ∷ [])))
    ∙ tree_in-last ts (node_tree_in ts e.node)
    ∙ node_tree-same e.node (length ts) ts (grow ts (e ∷ es)) q (λ j g. sym (grow-keeps ts (e ∷ es) j g))
tree-grow ts (e ∷ es) d (suc i) h p =
    let more = length-append ts (node_tree_in ts e.node ∷ []) in
    let next : (j : ℕ) → length ts + suc j ≡ length (ts ++ node_tree_in ts e.node ∷ []) + j = λ j. omega (arith, more) in
    ap (tree_in (grow ts (e ∷ es))) (next i)
    ∙ tree-grow (ts ++ node_tree_in ts e.node ∷ []) es d i (omega arith)
    (λ j g. subst (λ k. PartsBelow k (get_or es j d).node) (next j) (p (suc j) (omega arith)))

-- the tree of an id is that of its node
pub tree_is : {places : List ℕ} {index : Node → Option ℕ} (es : List Entry) (d : Entry) (i : ℕ) → AreEntries places es index → i < length es → tree_in (entry_trees es) i ≡ node_tree_in (entry_trees es) (get_or es i d).node
tree_is es d i law h =
    ap (tree_in (entry_trees es)) (sym (zero-add i))
    ∙ tree-grow [] es d i h (λ j g. subst (λ k. PartsBelow k (get_or es j d).node) (sym (zero-add j)) (law.parts j d g))

PartsBelow-more : (n : Node) (a b : ℕ) → a ≤ b → PartsBelow a n → PartsBelow b n
PartsBelow-more (N.Var v) a b h p = tt
PartsBelow-more (N.Const v) a b h p = tt
PartsBelow-more (N.Lit v) a b h p = tt
PartsBelow-more (N.Calc o v w) a b h p = tt
PartsBelow-more (N.Fact o v w) a b h p = tt
PartsBelow-more (N.Deny o v w) a b h p = tt
PartsBelow-more (N.Lemma v) a b h p = tt
PartsBelow-more (N.App f x) a b h p = (omega (arith, p.0), omega (arith, p.1))
PartsBelow-more (N.Lam x) a b h p = omega (arith, p)
PartsBelow-more (N.Fam v) a b h p = tt
PartsBelow-more (N.TApp f x) a b h p = (omega (arith, p.0), omega (arith, p.1))
PartsBelow-more (N.Pi f x) a b h p = (omega (arith, p.0), omega (arith, p.1))

-- an index of a list with one element more
pub last_or : (i k l : ℕ) → l ≡ k + 1 → i < l → (i < k) ⊎ (i ≡ k)
last_or i k l e h = grind arith

-- a node that the index lacks has a tree that the table lacks
fresh : {places : List ℕ} {index : Node → Option ℕ} (es : List Entry) (e : Entry) → AreEntries places es index → PartsBelow (length es) e.node → index e.node ≡ None →
    (i : ℕ) → i < length es → tree_in (entry_trees es) i ≡ node_tree_in (entry_trees es) e.node → ⊥
fresh {index = index} es e law p new i h q =
    let own = get_or es i e in
    let old : PartsBelow (length (entry_trees es)) own.node = PartsBelow-more own.node i (length (entry_trees es)) (omega (arith, length-entry_trees es)) (law.parts i e h) in
    let own_parts : PartsBelow (length (entry_trees es)) e.node = rw length-entry_trees p in
    let same : own.node ≡ e.node = node_tree-injective own.node e.node (entry_trees es) law.different old own_parts (sym (tree_is es e i law h) ∙ q) in
    let one : Some i ≡ None = sym (law.listed i e h) ∙ ap index same ∙ new in
    cc

different-push : {places : List ℕ} {index : Node → Option ℕ} (es : List Entry) (e : Entry) → AreEntries places es index → PartsBelow (length es) e.node → index e.node ≡ None → AreDifferent (entry_trees es ++ node_tree_in (entry_trees es) e.node ∷ [])
different-push es e law p new i j hi hj q = go (split i hi) (split j hj)
  where
    ts : List Tree
    ts = entry_trees es

    t : Tree
    t = node_tree_in ts e.node

    split : (k : ℕ) → k < length (ts ++ t ∷ []) → (k < length ts) ⊎ (k ≡ length ts)
    split k h = last_or k (length ts) (length (ts ++ t ∷ [])) (length-append ts (t ∷ [])) h

    go : (i < length ts) ⊎ (i ≡ length ts) → (j < length ts) ⊎ (j ≡ length ts) → i ≡ j
    go (inl a) (inl b) = law.different i j a b (sym (tree_in-push ts t i a) ∙ q ∙ tree_in-push ts t j b)
    go (inl a) (inr b) = absurd (fresh es e law p new i (omega (arith, length-entry_trees es)) (sym (tree_in-push ts t i a) ∙ q ∙ ap (tree_in (ts ++ t ∷ [])) b ∙ tree_in-last ts t))
    go (inr a) (inl b) = absurd (fresh es e law p new j (omega (arith, length-entry_trees es)) (sym (tree_in-push ts t j b) ∙ sym q ∙ ap (tree_in (ts ++ t ∷ [])) a ∙ tree_in-last ts t))
    go (inr a) (inr b) = a ∙ sym b

small_node : (n : Node) (k : ℕ) (ts : List Tree) → IsSmallNode n → PartsBelow k n → ((j : ℕ) → j < k → IsSmall (tree_in ts j)) → IsSmall (node_tree_in ts n)
small_node (N.Var v) k ts s p h = s
small_node (N.Const v) k ts s p h = s
small_node (N.Lit v) k ts s p h = s
small_node (N.Calc o v w) k ts s p h = s
small_node (N.Fact o v w) k ts s p h = s
small_node (N.Deny o v w) k ts s p h = s
small_node (N.Lemma v) k ts s p h = s
small_node (N.App f x) k ts s p h = (h f p.0, h x p.1)
small_node (N.Lam x) k ts s p h = h x p
small_node (N.Fam v) k ts s p h = s
small_node (N.TApp f x) k ts s p h = (h f p.0, h x p.1)
small_node (N.Pi f x) k ts s p h = (h f p.0, h x p.1)

-- the trees of small nodes are small: those below k, each k
small_below : {places : List ℕ} {index : Node → Option ℕ} (es : List Entry) (d : Entry) → AreEntries places es index → (k : ℕ) → k ≤ length es → (i : ℕ) → i < k → IsSmall (tree_in (entry_trees es) i)
small_below es d law zero h i g = absurd (omega arith)
small_below es d law (suc k) h i g = go (last_or i k (suc k) (omega arith) g) (small_below es d law k (omega arith))
  where
    go : (i < k) ⊎ (i ≡ k) → ((j : ℕ) → j < k → IsSmall (tree_in (entry_trees es) j)) → IsSmall (tree_in (entry_trees es) i)
    go (inl q) lower = lower i q
    go (inr q) lower =
        let l : i < length es = omega arith in
        rw (tree_is es d i law l) (small_node (get_or es i d).node i (entry_trees es) (law.small i d l) (law.parts i d l) (λ j r. lower j (omega arith)))

pub small_trees : {places : List ℕ} {index : Node → Option ℕ} (es : List Entry) → AreEntries places es index → AreSmall (entry_trees es)
small_trees es law i h = small_below es (record { node = N.Var 0; height = 0; weight = 0; left = 0; reach = 0 }) law (length es) (omega arith) i (omega (arith, length-entry_trees es))

-- what holds of each element and its place, with one element more
each-push : {A : Type 0} (P : ℕ → A → Type 0) (xs : List A) (x d : A) → ((i : ℕ) → i < length xs → P i (get_or xs i d)) → P (length xs) x → (i : ℕ) → i < length (xs ++ x ∷ []) → P i (get_or (xs ++ x ∷ []) i d)
each-push P xs x d old new i h = go (last_or i (length xs) (length (xs ++ x ∷ [])) (length-append xs (x ∷ [])) h)
  where
    go : (i < length xs) ⊎ (i ≡ length xs) → P i (get_or (xs ++ x ∷ []) i d)
    go (inl g) = rw (get_or-append xs (x ∷ []) d i g) (old i g)
    go (inr g) = rw (g, get_or-append_seam xs x [] d) new

some_injective : {i j : ℕ} → Some i ≡ Some j → i ≡ j
some_injective e = cc

-- one more entry, whose node the index had not
pub entries-push : (places : List ℕ) (es : List Entry) (e : Entry) (eq : Node → Node → Bool) (index after : Node → Option ℕ) → ((a b : Node) → Decides (eq a b) (a ≡ b)) →
    AreEntries places es index → PartsBelow (length es) e.node → IsSmallNode e.node → index e.node ≡ None → IsMeasured places (node_tree_in (entry_trees es) e.node) e →
    ((q : Node) → after q ≡ cond (eq e.node q) (Some (length es)) (index q)) → AreEntries places (es ++ e ∷ []) after
entries-push places es e eq index after same law p s new m up = record {
  parts = λ i d h. each-push (λ j z. PartsBelow j z.node) es e d (λ j g. law.parts j d g) p i h;
  small = λ i d h. each-push (λ j z. IsSmallNode z.node) es e d (λ j g. law.small j d g) s i h;
  different = rw entry_trees-append (different-push es e law p new);
  measured = record { at = λ i d h. each-push (λ j z. IsMeasured places (tree_in (entry_trees both) j) z) es e d (λ j g. old_measure j d g) last_measure i h };
  listed = λ i d h. each-push (λ j z. after z.node ≡ Some j) es e d (λ j g. old_listed j d g) (here e.node refl) i h;
  found = λ n i d q. find n i d q (eq e.node n) refl;
}
  where
    both : List Entry
    both = es ++ e ∷ []

    here : (q : Node) → e.node ≡ q → after q ≡ Some (length es)
    here q s = up q ∙ ap (λ b. cond b (Some (length es)) (index q)) ((same e.node q).1 s)

    other : (q : Node) → eq e.node q ≡ false → after q ≡ index q
    other q s = up q ∙ ap (λ b. cond b (Some (length es)) (index q)) s

    old_measure : (j : ℕ) (d : Entry) → j < length es → IsMeasured places (tree_in (entry_trees both) j) (get_or es j d)
    old_measure j d g =
        let l : j < length (entry_trees es) = omega (arith, length-entry_trees es) in
        rw (entry_trees-append es e, tree_in-push (entry_trees es) (node_tree_in (entry_trees es) e.node) j l) (law.measured.at j d g)

    last_measure : IsMeasured places (tree_in (entry_trees both) (length es)) e
    last_measure =
        let last : tree_in (entry_trees both) (length es) ≡ node_tree_in (entry_trees es) e.node =
        ap (λ z. tree_in z (length es)) (entry_trees-append es e) ∙ ap (tree_in (entry_trees es ++ node_tree_in (entry_trees es) e.node ∷ [])) (sym (length-entry_trees es)) ∙ tree_in-last (entry_trees es) (node_tree_in (entry_trees es) e.node)
        in subst (λ z. IsMeasured places z e) (sym last) m

    old_listed : (j : ℕ) (d : Entry) → j < length es → after (get_or es j d).node ≡ Some j
    old_listed j d g = go (eq e.node (get_or es j d).node) refl
      where
        go : (b : Bool) → eq e.node (get_or es j d).node ≡ b → after (get_or es j d).node ≡ Some j
        go true q =
            let one : Some j ≡ None = sym (law.listed j d g) ∙ ap index (sym ((same e.node (get_or es j d).node).0 q)) ∙ new in
            cc
        go false q = other (get_or es j d).node q ∙ law.listed j d g

    find : (n : Node) (i : ℕ) (d : Entry) → after n ≡ Some i → (b : Bool) → eq e.node n ≡ b → (i < length both) × ((get_or both i d).node ≡ n)
    find n i d q true b =
        let s : e.node ≡ n = (same e.node n).0 b in
        let k : length es ≡ i = some_injective (sym (here n s) ∙ q) in
        (omega (arith, length-append es (e ∷ [])), ap (λ z. (get_or both z d).node) (sym k) ∙ ap (λ z. z.node) (get_or-append_seam es e [] d) ∙ s)
    find n i d q false b =
        let k = law.found n i d (sym (other n b) ∙ q) in
        (omega (arith, length-append es (e ∷ []), k.0), ap (λ z. z.node) (get_or-append es (e ∷ []) d i k.0) ∙ k.1)

-- an index that answers alike
pub entries-same : (places : List ℕ) (es : List Entry) (index after : Node → Option ℕ) → AreEntries places es index → ((q : Node) → after q ≡ index q) → AreEntries places es after
entries-same places es index after law s = record {
  parts = law.parts;
  small = law.small;
  different = law.different;
  measured = law.measured;
  listed = λ i e h. s (get_or es i e).node ∙ law.listed i e h;
  found = λ n i e q. law.found n i e (sym (s n) ∙ q);
}

-- a table with one tree more extends it
pub extends-push : (t : TableView) (tree : Tree) → Extends t (with_tree t tree)
extends-push t tree = record {
  longer = omega (arith, length-append t.trees (tree ∷ []));
  same = λ id h. tree_in-push t.trees tree id h;
  places = refl;
}

-- the table of the entries with one more has one more tree
pub with_entry : (places : List ℕ) (es after : List Entry) (e : Entry) (n : Node) (t : TableView) → record { trees = entry_trees es; places = places } ≡ t → after ≡ es ++ e ∷ [] → e.node ≡ n →
    record { trees = entry_trees after; places = places } ≡ with_tree t (node_tree t n)
with_entry places es after e n t v a m =
    let grown : entry_trees after ≡ entry_trees es ++ node_tree_in (entry_trees es) n ∷ [] = ap entry_trees a ∙ entry_trees-append es e ∙ ap (λ z. entry_trees es ++ node_tree_in (entry_trees es) z ∷ []) m in
    let one : record { trees = entry_trees after; places = places } ≡ with_tree (record { trees = entry_trees es; places = places }) (node_tree_in (entry_trees es) n) =
    ap (λ (z : List Tree). let r : TableView = record { trees = z; places = places } in r) grown
    in
    one ∙ ap (λ (z : TableView). with_tree z (node_tree z n)) v

-- what a new tree's id is
pub record IsNew (before after : TableView) (tree : Tree) (id : ℕ) : Type 0 where
  pub known : IsKnown after id × (tree_at after id ≡ tree)
  pub adds : Adds before after tree id
  pub extends : Extends before after

pub is_new : (before after : TableView) (tree : Tree) (id : ℕ) → after ≡ with_tree before tree → id ≡ length before.trees → IsNew before after tree id
is_new before after tree id a n =
    let at_end : IsNew before (with_tree before tree) tree (length before.trees) = record {
      known = (omega (arith, length-append before.trees (tree ∷ [])), tree_in-last before.trees tree);
      adds = record { old = λ h. absurd (omega (arith, h)); fresh = λ h. refl };
      extends = extends-push before tree;
    } in
    subst (λ i. IsNew before after tree i) (sym n) (subst (λ u. IsNew before u tree (length before.trees)) (sym a) at_end)
