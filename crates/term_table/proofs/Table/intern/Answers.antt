use Rattle.std.proofs.Common.{rules, ◌≡◌, ℕ, ◌++◌, ◌∷◌, [], length, refl, sym, ◌∙◌, ap, subst, arith, Option, Some, None, cond, Bool}
use Rattle.std.specs.Bool.{Decides}
use Rattle.std.specs.BTreeMap.{get, is_at}
use Rattle.std.specs.Map.{lookup}
use Rattle.std.specs.Ordering.{eq_by_cmp}
use Rattle.term_table.specs.Tree.{Tree}
use Rattle.term_table.specs.declared.Node.{Node}
use Rattle.term_table.specs.declared.Entry.{Entry}
use Rattle.term_table.specs.declared.Key.{Key}
use Rattle.term_table.specs.contracts.KeyOrd.TheImpl as block
use Rattle.term_table.specs.contracts.KeyPartialEq.TheImpl as equality
use Rattle.term_table.specs.contracts.KeyOrd.TheImpl.Laws.{matches_eq-law}
use Rattle.term_table.specs.Table.{TableView, counts_of, IsKnown, tree_at, tree_in, node_tree_in, node_tree, PartsBelow, Adds}
use Rattle.term_table.specs.Inside.Entries.{entry_trees, IsMeasured}
use Rattle.term_table.specs.Inside.Keys.{key_of, node_in}
use Rattle.term_table.proofs.Trees.{tree_is, length-entry_trees, entries-push, entries-same, with_entry, is_new, IsNew}
use Rattle.term_table.proofs.Table.intern.Goals as goal

decides_eq : (a b : Key) → Decides (equality.ghosts.eq a b) (a ≡ b)
decides_eq a b = search rules

agrees : (a b : Key) → equality.ghosts.eq a b ≡ eq_by_cmp block.ghosts.cmp a b
agrees a b = matches_eq-law a b

-- the order tells keys apart
decides_key : (a b : Key) → Decides (eq_by_cmp block.ghosts.cmp a b) (a ≡ b)
decides_key a b = subst (λ z. Decides z (a ≡ b)) (agrees a b) (decides_eq a b)

-- the order of keys tells nodes apart
same_key : Node → Node → Bool
same_key a b = eq_by_cmp block.ghosts.cmp (key_of a) (key_of b)

decides : (a b : Node) → Decides (same_key a b) (a ≡ b)
unfolding same_key
decides a b = (λ e. ap node_in ((decides_key (key_of a) (key_of b)).0 e), λ e. (decides_key (key_of a) (key_of b)).1 (ap key_of e))

-- a new row by its key is one by its node
row_is : (k : Key) (n m q : Node) (x y : ℕ) (o : Option ℕ) → k ≡ key_of n → m ≡ n → x ≡ y →
    cond (eq_by_cmp block.ghosts.cmp k (key_of q)) (Some x) o ≡ cond (same_key m q) (Some y) o
unfolding same_key
row_is k n m q x y o key node same =
    let is : k ≡ key_of m = key ∙ ap key_of (sym node) in
    λ i. cond (eq_by_cmp block.ghosts.cmp (is i) (key_of q)) (Some (same i)) o

is_old : (t : TableView) (tree : Tree) (id : ℕ) → IsKnown t id → Adds t t tree id
is_old t tree id h = record { old = λ k. refl; fresh = λ k. absurd (k h) }

count_is : (t u : TableView) → t ≡ u → length t.trees ≡ length u.trees
count_is t u e = ap (λ (z : TableView). length z.trees) e

known : (c : goal.In-Some) → IsKnown c.args.self.now c.in-Some.id × (tree_at c.args.self.now c.in-Some.id ≡ node_tree c.args.self.now c.args.node)
known c =
    let items = c.self.inside.entries.items in
    let d : Entry = record { node = c.args.node; height = 0; weight = 0; left = 0; reach = 0 } in
    let cmp = block.ghosts.cmp in
    let asked : get cmp c.self.inside.index c.key_of-asked.result ≡ Some c.in-Some.id = sym c.get.ensures.value ∙ sym c.copied.ensures ∙ c.in-Some.is in
    let is : get cmp c.self.inside.index (key_of c.args.node) ≡ Some c.in-Some.id = ap (get cmp c.self.inside.index) (sym c.key_of-asked.ensures) ∙ asked in
    let found = c.self.invariant.found c.args.node c.in-Some.id d is in
    let tree : tree_in (entry_trees items) c.in-Some.id ≡ node_tree_in (entry_trees items) c.args.node =
    tree_is items d c.in-Some.id c.self.invariant found.0 ∙ ap (node_tree_in (entry_trees items)) found.1
    in rw (← c.self.view_is) (omega (arith, found.0, length-entry_trees items), tree)

pub returns-in-Some-clause-id : goal.returns-in-Some-clause-id
returns-in-Some-clause-id c = known c

pub returns-in-Some-clause-adds : goal.returns-in-Some-clause-adds
returns-in-Some-clause-adds c = is_old c.args.self.now (node_tree c.args.self.now c.args.node) c.in-Some.id (known c).0

pub entry_of-entry-requires-clause-parts : goal.entry_of-entry-requires-clause-parts
entry_of-entry-requires-clause-parts c =
    subst (λ k. PartsBelow k c.args.node) (ap (λ (t : TableView). length t.trees) (sym c.self.view_is) ∙ length-entry_trees c.self.inside.entries.items ∙ ap length (sym c.as_slice.ensures.value)) c.requires

pub invariant_of-self : goal.invariant_of-self
invariant_of-self c = rw c.reserve.ensures.items c.self.invariant

pub invariant_of-self-in_err-insert : goal.invariant_of-self-in_err-insert
invariant_of-self-in_err-insert c =
    rw c.reserve.ensures.items
    (entries-same (counts_of c.self.inside.places) c.self.inside.entries.items (λ q. get block.ghosts.cmp c.self.inside.index (key_of q)) _ c.self.invariant
    (λ q. ap (lookup (is_at (block.ghosts.cmp (key_of q)))) c.in_err-insert.ensures.err))

pub invariant_of-self-2 : goal.invariant_of-self-2
invariant_of-self-2 c =
    let items = c.self.inside.entries.items in
    let e = c.entry_of-entry.result in
    let cmp = block.ghosts.cmp in
    let more : c.push.new.self.items ≡ items ++ e ∷ [] = search rules in
    let n : c.len.result ≡ length items = search rules in
    let node : e.node ≡ c.args.node = c.entry_of-entry.ensures.node in
    let key : c.key_of.result ≡ key_of c.args.node = c.key_of.ensures in
    let asked : get cmp c.self.inside.index c.key_of-asked.result ≡ None = sym c.get.ensures.value ∙ sym c.copied.ensures ∙ c.in_default.is in
    let none : get cmp c.self.inside.index (key_of c.args.node) ≡ None = ap (get cmp c.self.inside.index) (sym c.key_of-asked.ensures) ∙ asked in
    let parts : PartsBelow (length items) c.args.node =
    subst (λ k. PartsBelow k c.args.node) (ap (λ (t : TableView). length t.trees) (sym c.self.view_is) ∙ length-entry_trees items) c.requires
    in
    let measured : IsMeasured (counts_of c.self.inside.places) (node_tree_in (entry_trees items) c.args.node) e = rw c.as_slice.ensures.value at c.entry_of-entry.ensures.measured in
    let put : (q : Key) →
    get cmp c.insert.new.self q ≡ cond (eq_by_cmp cmp c.key_of.result q) (Some c.len.result) (get cmp c.self.inside.index q) = c.in_ok-insert.ensures.updates.0
    in
    rw more (entries-push (counts_of c.self.inside.places) items e same_key (λ q. get cmp c.self.inside.index (key_of q)) _ decides c.self.invariant (rw node parts) (rw node c.numbers.ensures) (rw node none)
    (subst (λ z. IsMeasured (counts_of c.self.inside.places) (node_tree_in (entry_trees items) z) e) (sym node) measured)
    (λ q. put (key_of q) ∙ row_is _ _ _ q _ _ _ key node n))

fresh : (c : goal.In_ok-push) → IsNew c.args.self.now (record { trees = entry_trees c.push.new.self.items; places = counts_of c.self.inside.places }) (node_tree c.args.self.now c.args.node) c.len.result
fresh c =
    let items = c.self.inside.entries.items in
    let e = c.entry_of-entry.result in
    let more : c.push.new.self.items ≡ items ++ e ∷ [] = search rules in
    let n : c.len.result ≡ length items = search rules in
    is_new c.args.self.now (record { trees = entry_trees c.push.new.self.items; places = counts_of c.self.inside.places }) (node_tree c.args.self.now c.args.node) c.len.result
    (with_entry (counts_of c.self.inside.places) items c.push.new.self.items e c.args.node c.args.self.now c.self.view_is more c.entry_of-entry.ensures.node)
    (n ∙ sym (length-entry_trees items) ∙ ap (λ (t : TableView). length t.trees) c.self.view_is)

pub returns-clause-id : goal.returns-clause-id
returns-clause-id c = (fresh c).known

pub returns-clause-adds : goal.returns-clause-adds
returns-clause-adds c = (fresh c).adds

pub returns-clause-extends : goal.returns-clause-extends
returns-clause-extends c = (fresh c).extends
