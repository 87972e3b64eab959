-- Copying trees in the order of a walk.
use Rattle.std.proofs.Common.{◌≡◌, ℕ, ◌+◌, ◌<◌, ◌≤◌, true, false, inl, inr, List, [], ◌∷◌, ◌++◌, length, take, drop, get_or, sym, ◌∙◌, ap, subst, take-append-drop, arith}
use Rattle.std.proofs.lemmas.List.{drop_more, length-take, get_or-map, length-map}
use Rattle.std.proofs.lemmas.Bool.{cases_lt}
use Rattle.term_table.specs.Tree.{Tree, Var}
use Rattle.term_table.specs.Table.{TableView, tree_in, tree_at, Adds}
use Rattle.proof_container.specs.declared.walk.Walk.{Walk}
use Rattle.proof_container.specs.Postorder.{is_emitted, HasPartsFirst, ArePostorder}
use Rattle.proof_container.specs.Encoding.{entry_number}
use Rattle.proof_container.specs.Inside.Walked.{left_trees}
use Rattle.proof_container.proofs.Walks.{listed-left, listed-at, ArePostorder-split, number_is, number-append}

-- a tree among the first has its number there
pub place-begun : (ts us es : List Tree) (t : Tree) (n : ℕ) → es ≡ ts ++ us → is_emitted t ts ≡ true
    → n ≡ entry_number es t → (n < length ts) × (tree_in ts n ≡ t)
place-begun ts us es t n split listed is =
    let same : n ≡ entry_number ts t = is ∙ ap (λ l. entry_number l t) split ∙ number-append ts us t listed in
    subst (λ k. (k < length ts) × (tree_in ts k ≡ t)) (sym same) (number_is ts t listed)

pub listed-begun : (ts us es : List Tree) (t : Tree) → es ≡ ts ++ us → is_emitted t ts ≡ true
    → is_emitted t es ≡ true
listed-begun ts us es t split listed = ap (is_emitted t) split ∙ listed-left t ts us listed

-- the next tree stands behind its parts, and isn't there yet
pub next-tree : (es : List Tree) (i : ℕ) → ArePostorder [] es → i < length es
    → HasPartsFirst (take i es) (tree_in es i) × (is_emitted (tree_in es i) (take i es) ≡ false)
next-tree es i order lt =
    let split : es ≡ take i es ++ (tree_in es i ∷ drop (i + 1) es) =
    sym (take-append-drop i es) ∙ ap (λ l. take i es ++ l) (drop_more es i (Var 0) lt) in
    let parts =
    ArePostorder-split [] (take i es) (tree_in es i ∷ drop (i + 1) es)
    (subst (ArePostorder []) split order) in
    (parts.1.0, parts.1.1)

-- a tree that the table hasn't is added at its end
pub added-new : (before after : TableView) (tree : Tree) (id : ℕ) → is_emitted tree before.trees ≡ false
    → Adds before after tree id → tree_at after id ≡ tree → after.trees ≡ before.trees ++ tree ∷ []
added-new before after tree id new adds is =
    elim (cases_lt id (length before.trees)) [
      | inl known ↦
          let same : after ≡ before = adds.old known in
          let there : tree_at before id ≡ tree = ap (λ t. tree_at t id) (sym same) ∙ is in
          let listed : is_emitted tree before.trees ≡ true =
          ap (λ t. is_emitted t before.trees) (sym there) ∙ listed-at before.trees id known in
          let wrong : false ≡ true = sym new ∙ listed in absurd cc
      | inr past ↦ ap (λ t. t.trees) (adds.fresh (λ known. omega (arith, known, past)))
    ]

-- the first trees are a beginning
pub begins : (es ts : List Tree) (i : ℕ) → ts ≡ take i es → i ≤ length es
    → es ≡ ts ++ drop (length ts) es
begins es ts i is le =
    let long : length ts ≡ i = ap length is ∙ omega (arith, length-take i es, le) in
    sym (take-append-drop i es) ∙ (λ k. sym is k ++ drop (sym long k) es)

-- the tree of the next id that the walk has left
pub left-at : (t : TableView) (w : Walk) (i id : ℕ) → i < length w.left.items
    → id ≡ get_or w.left.items i id → tree_in (left_trees t w) i ≡ tree_at t id
left-at t w i id lt is =
    get_or-map (tree_at t) w.left.items i id (Var 0) lt ∙ ap (tree_at t) (sym is)

pub left-within : (t : TableView) (w : Walk) (i : ℕ) → i < length w.left.items
    → i < length (left_trees t w)
left-within t w i lt = omega (arith, lt, length-map w.left.items (tree_at t))
