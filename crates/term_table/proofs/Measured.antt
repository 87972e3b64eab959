-- The measures of a node, by those of its parts.
use Rattle.std.proofs.Common.{◌≡◌, ℕ, ◌+◌, ◌-◌, ◌<◌, max, List, length, get_or, Bool, true, false, cond, ◌&&◌, sym, ◌∙◌, ap, subst, arith, nat_lt}
use Rattle.std.proofs.lemmas.Bool.Decides.{nat_tests}
use Rattle.term_table.specs.Tree.{Tree, App, Lam, TApp, Pi}
use Rattle.term_table.specs.Measures.{height_of, weight_of, arguments, head_parameters, capped}
use Rattle.term_table.specs.declared.Entry.{Entry}
use Rattle.term_table.specs.declared.Node.{Node}
use Rattle.term_table.specs.declared.Node.TheVariants as N
use Rattle.term_table.specs.Table.{tree_in, node_tree_in, PartsBelow}
use Rattle.term_table.specs.Inside.Entries.{entry_trees, IsMeasured, AreMeasured}
use Rattle.std.specs.Prelude.{not}
use Rattle.term_table.specs.Scope.{is_atomic_shape, is_term_shape}
use Rattle.term_table.specs.Inside.Reach.{is_atomic_node, is_term_node, reach_outside}
use Rattle.term_table.proofs.Reached.{atom_node, term_node, reach_app, reach_lam, reach_tapp, reach_pi}

capped_sum : (k m n : ℕ) → capped (k + (capped m + capped n)) ≡ capped (k + (m + n))
capped_sum k m n = omega arith

capped_max : (m n : ℕ) → capped (1 + max (capped m) (capped n)) ≡ capped (1 + max m n)
capped_max m n = omega arith

pub capped_suc : (n : ℕ) → capped (1 + capped n) ≡ capped (1 + n)
capped_suc n = omega arith

-- a parameter place is left exactly where the arguments are fewer than the parameters
left_places : (m n w : ℕ) → cond (nat_lt 0 (n - m)) 1 w ≡ cond (nat_lt m n) 1 w
left_places m n w = grind (arith, nat_tests)

counted_capped : (b : Bool) (m w : ℕ) → capped (capped m + cond b 1 (capped w)) ≡ capped (m + cond b 1 w)
counted_capped true m w = omega arith
counted_capped false m w = omega arith

measured_app : (places : List ℕ) (f a : Tree) (df da e : Entry) → IsMeasured places f df → IsMeasured places a da → e.height ≡ capped (1 + max df.height da.height) →
    e.weight ≡ capped (df.weight + cond (nat_lt 0 df.left) 1 da.weight) → e.left ≡ df.left - 1 → is_atomic_node e.node ≡ true → is_term_node e.node ≡ true →
    e.reach ≡ cond (is_atomic_node df.node && is_term_node da.node) (max df.reach da.reach) 4294967295 → IsMeasured places (App f a) e
measured_app places f a df da e mf ma h w l at tm re = record {
  atom = at;
  term = tm;
  reach = reach_app f a (is_atomic_node df.node) (is_term_node da.node) e.reach df.reach da.reach mf.atom ma.term mf.reach ma.reach re;
  height = h ∙ rw (mf.height, ma.height) (capped_max (height_of f) (height_of a));
  weight = w ∙ rw (mf.weight, ma.weight, mf.left) (
      ap (λ z. capped (capped (weight_of places f) + z)) (left_places (arguments f) (head_parameters places f) (capped (weight_of places a)))
      ∙ counted_capped (nat_lt (arguments f) (head_parameters places f)) (weight_of places f) (weight_of places a));
  left = l ∙ rw mf.left (omega arith);
}

pub measured_lam : (places : List ℕ) (b : Tree) (db e : Entry) → IsMeasured places b db → e.height ≡ capped (1 + db.height) → e.weight ≡ capped (1 + db.weight) → e.left ≡ 0 → is_atomic_node e.node ≡ false → is_term_node e.node ≡ true →
    e.reach ≡ cond (is_term_node db.node) (reach_outside db.reach) 4294967295 → IsMeasured places (Lam b) e
measured_lam places b db e m h w l at tm re = record {
  atom = at;
  term = tm;
  reach = reach_lam b (is_term_node db.node) e.reach db.reach m.term m.reach re;
  height = h ∙ rw m.height (capped_suc (height_of b));
  weight = w ∙ rw m.weight (capped_suc (weight_of places b));
  left = l;
}

-- of a tree that weighs two parts and 1 more
two_height : (places : List ℕ) (a b : Tree) (da db : Entry) (n : ℕ) → IsMeasured places a da → IsMeasured places b db → n ≡ capped (1 + max da.height db.height) → n ≡ capped (1 + max (height_of a) (height_of b))
two_height places a b da db n ma mb h = h ∙ rw (ma.height, mb.height) (capped_max (height_of a) (height_of b))

two_weight : (places : List ℕ) (a b : Tree) (da db : Entry) (n : ℕ) → IsMeasured places a da → IsMeasured places b db → n ≡ capped (1 + (da.weight + db.weight)) → n ≡ capped (1 + (weight_of places a + weight_of places b))
two_weight places a b da db n ma mb w = w ∙ rw (ma.weight, mb.weight) (capped_sum 1 (weight_of places a) (weight_of places b))

measured_tapp : (places : List ℕ) (a b : Tree) (da db e : Entry) → IsMeasured places a da → IsMeasured places b db → e.height ≡ capped (1 + max da.height db.height) →
    e.weight ≡ capped (1 + (da.weight + db.weight)) → e.left ≡ 0 → is_atomic_node e.node ≡ false → is_term_node e.node ≡ false →
    e.reach ≡ cond (not (is_term_node da.node) && is_term_node db.node) (max da.reach db.reach) 4294967295 → IsMeasured places (TApp a b) e
measured_tapp places a b da db e ma mb h w l at tm re = record {
  height = two_height places a b da db e.height ma mb h;
  weight = two_weight places a b da db e.weight ma mb w;
  left = l;
  atom = at;
  term = tm;
  reach = reach_tapp a b (is_term_node da.node) (is_term_node db.node) e.reach da.reach db.reach ma.term mb.term ma.reach mb.reach re;
}

measured_pi : (places : List ℕ) (a b : Tree) (da db e : Entry) → IsMeasured places a da → IsMeasured places b db → e.height ≡ capped (1 + max da.height db.height) →
    e.weight ≡ capped (1 + (da.weight + db.weight)) → e.left ≡ 0 → is_atomic_node e.node ≡ false → is_term_node e.node ≡ false →
    e.reach ≡ cond (not (is_term_node da.node) && not (is_term_node db.node)) (max da.reach (reach_outside db.reach)) 4294967295 → IsMeasured places (Pi a b) e
measured_pi places a b da db e ma mb h w l at tm re = record {
  height = two_height places a b da db e.height ma mb h;
  weight = two_weight places a b da db e.weight ma mb w;
  left = l;
  atom = at;
  term = tm;
  reach = reach_pi a b (is_term_node da.node) (is_term_node db.node) e.reach da.reach db.reach ma.term mb.term ma.reach mb.reach re;
}

part : (places : List ℕ) (es : List Entry) (i : ℕ) (d : Entry) → AreMeasured places es → i < length es → d ≡ get_or es i d → IsMeasured places (tree_in (entry_trees es) i) d
part places es i d m h e = subst (IsMeasured places (tree_in (entry_trees es) i)) (sym e) (m.at i d h)

-- what an entry's node says of its tree
shape_atom : (e : Entry) (n m : Node) (ts : List Tree) → e.node ≡ n → n ≡ m → is_atomic_node e.node ≡ is_atomic_shape (node_tree_in ts m)
shape_atom e n m ts i j = ap is_atomic_node (i ∙ j) ∙ atom_node m ts

shape_term : (e : Entry) (n m : Node) (ts : List Tree) → e.node ≡ n → n ≡ m → is_term_node e.node ≡ is_term_shape (node_tree_in ts m)
shape_term e n m ts i j = ap is_term_node (i ∙ j) ∙ term_node m ts

-- the node of an application, by its parts' entries
pub node_app : (places : List ℕ) (es : List Entry) (n : Node) (f a : ℕ) (df da e : Entry) → AreMeasured places es → PartsBelow (length es) n → n ≡ N.App f a → df ≡ get_or es f df → da ≡ get_or es a da →
    e.height ≡ capped (1 + max df.height da.height) → e.weight ≡ capped (df.weight + cond (nat_lt 0 df.left) 1 da.weight) → e.left ≡ df.left - 1 → e.node ≡ n →
    e.reach ≡ cond (is_atomic_node df.node && is_term_node da.node) (max df.reach da.reach) 4294967295 → IsMeasured places (node_tree_in (entry_trees es) n) e
node_app places es n f a df da e m p is qf qa h w l en re =
    let parts : PartsBelow (length es) (N.App f a) = subst (PartsBelow (length es)) is p in
    subst (λ z. IsMeasured places (node_tree_in (entry_trees es) z) e) (sym is)
    (measured_app places (tree_in (entry_trees es) f) (tree_in (entry_trees es) a) df da e (part places es f df m parts.0 qf) (part places es a da m parts.1 qa) h w l
    (shape_atom e n (N.App f a) (entry_trees es) en is) (shape_term e n (N.App f a) (entry_trees es) en is) re)

pub node_lam : (places : List ℕ) (es : List Entry) (n : Node) (b : ℕ) (db e : Entry) → AreMeasured places es → PartsBelow (length es) n → n ≡ N.Lam b → db ≡ get_or es b db →
    e.height ≡ capped (1 + db.height) → e.weight ≡ capped (1 + db.weight) → e.left ≡ 0 → e.node ≡ n →
    e.reach ≡ cond (is_term_node db.node) (reach_outside db.reach) 4294967295 → IsMeasured places (node_tree_in (entry_trees es) n) e
node_lam places es n b db e m p is qb h w l en re =
    let parts : PartsBelow (length es) (N.Lam b) = subst (PartsBelow (length es)) is p in
    subst (λ z. IsMeasured places (node_tree_in (entry_trees es) z) e) (sym is)
    (measured_lam places (tree_in (entry_trees es) b) db e (part places es b db m parts qb) h w l
    (shape_atom e n (N.Lam b) (entry_trees es) en is) (shape_term e n (N.Lam b) (entry_trees es) en is) re)

pub node_tapp : (places : List ℕ) (es : List Entry) (n : Node) (a b : ℕ) (da db e : Entry) → AreMeasured places es → PartsBelow (length es) n → n ≡ N.TApp a b →
    da ≡ get_or es a da → db ≡ get_or es b db → e.height ≡ capped (1 + max da.height db.height) → e.weight ≡ capped (1 + (da.weight + db.weight)) → e.left ≡ 0 → e.node ≡ n →
    e.reach ≡ cond (not (is_term_node da.node) && is_term_node db.node) (max da.reach db.reach) 4294967295 → IsMeasured places (node_tree_in (entry_trees es) n) e
node_tapp places es n a b da db e m p is qa qb h w l en re =
    let parts : PartsBelow (length es) (N.TApp a b) = subst (PartsBelow (length es)) is p in
    subst (λ z. IsMeasured places (node_tree_in (entry_trees es) z) e) (sym is)
    (measured_tapp places (tree_in (entry_trees es) a) (tree_in (entry_trees es) b) da db e (part places es a da m parts.0 qa) (part places es b db m parts.1 qb) h w l
    (shape_atom e n (N.TApp a b) (entry_trees es) en is) (shape_term e n (N.TApp a b) (entry_trees es) en is) re)

pub node_pi : (places : List ℕ) (es : List Entry) (n : Node) (a b : ℕ) (da db e : Entry) → AreMeasured places es → PartsBelow (length es) n → n ≡ N.Pi a b →
    da ≡ get_or es a da → db ≡ get_or es b db → e.height ≡ capped (1 + max da.height db.height) → e.weight ≡ capped (1 + (da.weight + db.weight)) → e.left ≡ 0 → e.node ≡ n →
    e.reach ≡ cond (not (is_term_node da.node) && not (is_term_node db.node)) (max da.reach (reach_outside db.reach)) 4294967295 → IsMeasured places (node_tree_in (entry_trees es) n) e
node_pi places es n a b da db e m p is qa qb h w l en re =
    let parts : PartsBelow (length es) (N.Pi a b) = subst (PartsBelow (length es)) is p in
    subst (λ z. IsMeasured places (node_tree_in (entry_trees es) z) e) (sym is)
    (measured_pi places (tree_in (entry_trees es) a) (tree_in (entry_trees es) b) da db e (part places es a da m parts.0 qa) (part places es b db m parts.1 qb) h w l
    (shape_atom e n (N.Pi a b) (entry_trees es) en is) (shape_term e n (N.Pi a b) (entry_trees es) en is) re)
