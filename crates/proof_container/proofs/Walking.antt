-- Taking the steps of a walk over a table's ids.
use Rattle.std.proofs.Common.{◌≡◌, ℕ, suc, ◌+◌, ◌*◌, ◌<◌, Bool, true, false, cond, ◌||◌, ◌⊎◌, inl, inr, is_some, Option, Some, None, List, [], ◌∷◌, ◌++◌, map, reverse, length, get_or, set, replicate, refl, sym, ◌∙◌, ap, subst, arith, option_map, length-set, get_or-set_same, get_or-set_other}
use Rattle.std.specs.Prelude.{IfSome}
use Rattle.std.specs.List.{AllByRecursion, flat_map}
use Rattle.std.proofs.lemmas.Grind.{flat_map-append}
use Rattle.std.proofs.lemmas.List.{map-append, length-map, length-replicate, get_or-replicate, reverse-append}
use Rattle.term_table.specs.Tree.{Tree, Var, Con, App, Lam, Fam, TApp, Pi}
use Rattle.term_table.specs.Equality.{tree_eq}
use Rattle.term_table.specs.Table.{TableView, IsKnown, AllKnown, tree_at, node_tree, PartsBelow, AreDifferent, id_trees}
use Rattle.term_table.specs.declared.Node.{Node}
use Rattle.term_table.specs.declared.Node.TheVariants as N
use Rattle.term_table.proofs.Options.{some_injective}
use Rattle.term_table.proofs.Equality.{tree_eq_refl}
use Rattle.lf_lemmas.specs.Tables.{lemmas_in, LemmasKnown}
use Rattle.proof_container.specs.declared.walk.Walk.{Walk}
use Rattle.proof_container.specs.declared.walk.Step.{Step}
use Rattle.proof_container.specs.declared.walk.Step.TheVariants.{Enter, Leave}
use Rattle.proof_container.specs.Contents.{one_or_none, lemma_roots}
use Rattle.proof_container.specs.Postorder.{is_emitted, unless_emitted, emitted_with, emitted_with_all, entries}
use Rattle.proof_container.specs.Encoding.{entry_number}
use Rattle.proof_container.specs.Views.{AreKnown}
use Rattle.proof_container.specs.Inside.Walked.{part_steps, proof_steps, lemma_steps, first_steps, taken, all_taken, IsStep, AreSteps, left_trees, IsUnderWay, nodes, steps_cost}
use Rattle.proof_container.specs.Walks.{IsLeft, AreMarks, mark, root_trees}
use Rattle.proof_container.proofs.Walks.{listed-last, listed-push, number_is, number-append, emitted_with-listed, emitted_with-app, emitted_with-tapp, emitted_with-pi, emitted_with-lam}

-- ---- lists of steps

all_taken-append : (t : TableView) (xs ys : List Step) (ts : List Tree) → all_taken t (xs ++ ys) ts ≡ all_taken t xs (all_taken t ys ts)
all_taken-append t [] ys ts = refl
all_taken-append t (x ∷ xs) ys ts = ap (taken t x) (all_taken-append t xs ys ts)

AreSteps-append : (t : TableView) (xs ys : List Step) → AreSteps t xs → AreSteps t ys → AreSteps t (xs ++ ys)
AreSteps-append t [] ys h k = k
AreSteps-append t (x ∷ xs) ys h k = (h.0, AreSteps-append t xs ys h.1 k)

AreSteps-split : (t : TableView) (xs ys : List Step) → AreSteps t (xs ++ ys) → AreSteps t xs × AreSteps t ys
AreSteps-split t [] ys h = (tt, h)
AreSteps-split t (x ∷ xs) ys h = let r = AreSteps-split t xs ys h.1 in ((h.0, r.0), r.1)

steps_cost-append : (t : TableView) (xs ys : List Step) → steps_cost t (xs ++ ys) ≡ steps_cost t xs + steps_cost t ys
steps_cost-append t [] ys = omega arith
steps_cost-append t (x ∷ xs) ys = omega (arith, steps_cost-append t xs ys)

some_nodes : (t : Tree) → 0 < nodes t
some_nodes (Var n) = omega arith
some_nodes (Con c) = omega arith
some_nodes (App f a) = omega arith
some_nodes (Lam b) = omega arith
some_nodes (Fam a) = omega arith
some_nodes (TApp p a) = omega arith
some_nodes (Pi a b) = omega arith

-- a step that is taken off with nothing put in its place
pub cost_off : (t : TableView) (steps : List Step) (s : Step) → steps_cost t steps < steps_cost t (steps ++ s ∷ [])
cost_off t steps (Enter id) = omega (arith, steps_cost-append t steps (Enter id ∷ []), some_nodes (tree_at t id))
cost_off t steps (Leave id) = omega (arith, steps_cost-append t steps (Leave id ∷ []))

parts_cost : (t : TableView) (n : Node) → 1 + steps_cost t (part_steps n) < 2 * nodes (node_tree t n)
parts_cost t (N.Var n) = omega arith
parts_cost t (N.Const n) = omega arith
parts_cost t (N.Lit w) = omega arith
parts_cost t (N.Calc o a b) = omega arith
parts_cost t (N.Fact p a b) = omega arith
parts_cost t (N.Deny p a b) = omega arith
parts_cost t (N.Lemma n) = omega arith
parts_cost t (N.App f a) = omega arith
parts_cost t (N.Lam b) = omega arith
parts_cost t (N.Fam a) = omega arith
parts_cost t (N.TApp p a) = omega arith
parts_cost t (N.Pi a b) = omega arith

-- a tree's steps are fewer than those of its parts and its own
pub cost_enter : (t : TableView) (steps : List Step) (id : ℕ) (n : Node) → node_tree t n ≡ tree_at t id →
    steps_cost t ((steps ++ Leave id ∷ []) ++ part_steps n) < steps_cost t (steps ++ Enter id ∷ [])
cost_enter t steps id n e =
    omega (arith, steps_cost-append t (steps ++ Leave id ∷ []) (part_steps n), steps_cost-append t steps (Leave id ∷ []), steps_cost-append t steps (Enter id ∷ []), parts_cost t n, ap nodes e)

-- ---- marks

listed_by_mark : (ts : List Tree) (u : Tree) → is_some (mark ts u) ≡ true → is_emitted u ts ≡ true
listed_by_mark ts u h = go (is_emitted u ts) refl h
  where
    go : (b : Bool) → is_emitted u ts ≡ b → is_some (cond b (Some (entry_number ts u)) None) ≡ true → is_emitted u ts ≡ true
    go true q k = q
    go false q k = cc

unlisted_by_mark : (ts : List Tree) (u : Tree) → is_some (mark ts u) ≡ false → is_emitted u ts ≡ false
unlisted_by_mark ts u h = go (is_emitted u ts) refl h
  where
    go : (b : Bool) → is_emitted u ts ≡ b → is_some (cond b (Some (entry_number ts u)) None) ≡ false → is_emitted u ts ≡ false
    go true q k = cc
    go false q k = q

-- the number of a tree that is new
number-last : (ts : List Tree) (t : Tree) → is_emitted t ts ≡ false → entry_number (ts ++ t ∷ []) t ≡ length ts
number-last [] t f = ap (λ b. cond b 0 1) (tree_eq_refl t)
number-last (u ∷ ts) t f = go (tree_eq t u) f (number-last ts t)
  where
    go : (b : Bool) → (b || is_emitted t ts) ≡ false → (is_emitted t ts ≡ false → entry_number (ts ++ t ∷ []) t ≡ length ts) → cond b 0 (suc (entry_number (ts ++ t ∷ []) t)) ≡ suc (length ts)
    go true k r = cc
    go false k r = ap suc (r k)

mark-last : (ts : List Tree) (t : Tree) → is_emitted t ts ≡ false → mark (ts ++ t ∷ []) t ≡ Some (length ts)
mark-last ts t f = ap (λ b. cond b (Some (entry_number (ts ++ t ∷ []) t)) None) (listed-last t ts) ∙ ap Some (number-last ts t f)

-- one tree more changes no other tree's mark
mark-other : (ts : List Tree) (u t : Tree) → (u ≡ t → ⊥) → mark (ts ++ t ∷ []) u ≡ mark ts u
mark-other ts u t n = ap (λ b. cond b (Some (entry_number (ts ++ t ∷ []) u)) None) (listed-push u t ts n) ∙ go (is_emitted u ts) refl
  where
    go : (b : Bool) → is_emitted u ts ≡ b → cond b (Some (entry_number (ts ++ t ∷ []) u)) None ≡ cond b (Some (entry_number ts u)) None
    go true q = ap Some (number-append ts (t ∷ []) u q)
    go false q = refl

marks-push : (t : TableView) (ts : List Tree) (marks : List (Option ℕ)) (id : ℕ) → AreDifferent t.trees → IsKnown t id → is_emitted (tree_at t id) ts ≡ false →
    AreMarks t ts marks → AreMarks t (ts ++ tree_at t id ∷ []) (set marks id (Some (length ts)))
marks-push t ts marks id d h f m = record {
  count = length-set marks id (Some (length ts)) ∙ m.count;
  at = λ k g. at k g (same_or_not k id);
}
  where
    same_or_not : (k i : ℕ) → (k ≡ i) ⊎ (k ≡ i → ⊥)
    same_or_not k i = grind arith

    at : (k : ℕ) → k < length t.trees → (k ≡ id) ⊎ (k ≡ id → ⊥) → get_or (set marks id (Some (length ts))) k None ≡ mark (ts ++ tree_at t id ∷ []) (tree_at t k)
    at k g (inl e) =
        subst (λ (i : ℕ). get_or (set marks id (Some (length ts))) i None ≡ mark (ts ++ tree_at t id ∷ []) (tree_at t i)) (sym e)
        (get_or-set_same marks id (Some (length ts)) None (omega (arith, m.count)) ∙ sym (mark-last ts (tree_at t id) f))
    at k g (inr n) =
        get_or-set_other marks id k (Some (length ts)) None n ∙ m.at k g ∙ sym (mark-other ts (tree_at t k) (tree_at t id) (λ q. n (d k id g h q)))

-- ---- the course of a walk

AllKnown-push : (t : TableView) (ids : List ℕ) (id : ℕ) → AllKnown t ids → IsKnown t id → AllKnown t (ids ++ id ∷ [])
AllKnown-push t [] id l h = (h, tt)
AllKnown-push t (i ∷ ids) id l h = (l.0, AllKnown-push t ids id l.1 h)

-- whether an id has a number is whether its tree was left
was_left : (t : TableView) (w : Walk) (ts : List Tree) (id : ℕ) → IsLeft t ts w → IsKnown t id → is_some (get_or w.numbers.items id None) ≡ true → is_emitted (tree_at t id) ts ≡ true
was_left t w ts id l h s = listed_by_mark ts (tree_at t id) (ap is_some (sym (l.marks.at id h)) ∙ s)

was_not_left : (t : TableView) (w : Walk) (ts : List Tree) (id : ℕ) → IsLeft t ts w → IsKnown t id → is_some (get_or w.numbers.items id None) ≡ false → is_emitted (tree_at t id) ts ≡ false
was_not_left t w ts id l h s = unlisted_by_mark ts (tree_at t id) (ap is_some (sym (l.marks.at id h)) ∙ s)

-- the number of an id whose tree was left
pub numbered : (t : TableView) (w : Walk) (ts : List Tree) (id : ℕ) → IsLeft t ts w → IsKnown t id → is_emitted (tree_at t id) ts ≡ true → get_or w.numbers.items id None ≡ Some (entry_number ts (tree_at t id))
numbered t w ts id l h s = l.marks.at id h ∙ ap (λ b. cond b (Some (entry_number ts (tree_at t id))) None) s

-- where the last step changes nothing
idle : (t : TableView) (goal : List Tree) (w : Walk) (steps : List Step) (s : Step) → taken t s (left_trees t w) ≡ left_trees t w → IsUnderWay t goal w (steps ++ s ∷ []) → IsUnderWay t goal w steps
idle t goal w steps s e u = record {
  left = u.left;
  known = (AreSteps-split t steps (s ∷ []) u.known).0;
  leads = ap (all_taken t steps) (sym e) ∙ sym (all_taken-append t steps (s ∷ []) (left_trees t w)) ∙ u.leads;
}

pub enter_old : (t : TableView) (goal : List Tree) (w : Walk) (steps : List Step) (id : ℕ) → IsKnown t id → is_some (get_or w.numbers.items id None) ≡ true →
    IsUnderWay t goal w (steps ++ Enter id ∷ []) → IsUnderWay t goal w steps
enter_old t goal w steps id h s u =
    idle t goal w steps (Enter id) (emitted_with-listed (tree_at t id) (left_trees t w) (was_left t w (left_trees t w) id u.left h s)) u

pub leave_old : (t : TableView) (goal : List Tree) (w : Walk) (steps : List Step) (id : ℕ) → IsKnown t id → is_some (get_or w.numbers.items id None) ≡ true →
    IsUnderWay t goal w (steps ++ Leave id ∷ []) → IsUnderWay t goal w steps
leave_old t goal w steps id h s u =
    let ts = left_trees t w in
    idle t goal w steps (Leave id) (ap (λ b. cond b ts (ts ++ tree_at t id ∷ [])) (was_left t w ts id u.left h s)) u

-- entering a tree's parts and then leaving it is a visit of it
parts_visit : (t : TableView) (n : Node) (ts : List Tree) → is_emitted (node_tree t n) ts ≡ false →
    unless_emitted (node_tree t n) (all_taken t (part_steps n) ts) (all_taken t (part_steps n) ts) ≡ emitted_with (node_tree t n) ts
parts_visit t (N.Var n) ts f = refl
parts_visit t (N.Const n) ts f = refl
parts_visit t (N.Lit w) ts f = refl
parts_visit t (N.Calc o a b) ts f = refl
parts_visit t (N.Fact p a b) ts f = refl
parts_visit t (N.Deny p a b) ts f = refl
parts_visit t (N.Lemma n) ts f = refl
parts_visit t (N.App g a) ts f = sym (emitted_with-app (tree_at t g) (tree_at t a) ts f)
parts_visit t (N.Lam b) ts f = sym (emitted_with-lam (tree_at t b) ts f)
parts_visit t (N.Fam a) ts f = refl
parts_visit t (N.TApp p a) ts f = sym (emitted_with-tapp (tree_at t p) (tree_at t a) ts f)
parts_visit t (N.Pi a b) ts f = sym (emitted_with-pi (tree_at t a) (tree_at t b) ts f)

parts_known : (t : TableView) (n : Node) (id : ℕ) → IsKnown t id → PartsBelow id n → AreSteps t (part_steps n)
parts_known t (N.Var n) id h p = tt
parts_known t (N.Const n) id h p = tt
parts_known t (N.Lit w) id h p = tt
parts_known t (N.Calc o a b) id h p = tt
parts_known t (N.Fact q a b) id h p = tt
parts_known t (N.Deny q a b) id h p = tt
parts_known t (N.Lemma n) id h p = tt
parts_known t (N.App f a) id h p = (omega (arith, p.1), (omega (arith, p.0), tt))
parts_known t (N.Lam b) id h p = (omega (arith, p), tt)
parts_known t (N.Fam a) id h p = tt
parts_known t (N.TApp q a) id h p = (omega (arith, p.1), (omega (arith, p.0), tt))
parts_known t (N.Pi a b) id h p = (omega (arith, p.1), (omega (arith, p.0), tt))

pub enter_new : (t : TableView) (goal : List Tree) (w : Walk) (steps : List Step) (id : ℕ) (n : Node) → IsKnown t id → node_tree t n ≡ tree_at t id → PartsBelow id n → is_some (get_or w.numbers.items id None) ≡ false →
    IsUnderWay t goal w (steps ++ Enter id ∷ []) → IsUnderWay t goal w ((steps ++ Leave id ∷ []) ++ part_steps n)
enter_new t goal w steps id n h e p s u = record {
  left = u.left;
  known = AreSteps-append t (steps ++ Leave id ∷ []) (part_steps n) (AreSteps-append t steps (Leave id ∷ []) (AreSteps-split t steps (Enter id ∷ []) u.known).0 (h, tt)) (parts_known t n id h p);
  leads = all_taken-append t (steps ++ Leave id ∷ []) (part_steps n) ts ∙ all_taken-append t steps (Leave id ∷ []) after ∙ ap (all_taken t steps) visited ∙ sym (all_taken-append t steps (Enter id ∷ []) ts) ∙ u.leads;
}
  where
    ts : List Tree
    ts = left_trees t w

    after : List Tree
    after = all_taken t (part_steps n) ts

    visited : unless_emitted (tree_at t id) after after ≡ emitted_with (tree_at t id) ts
    visited =
        let f : is_emitted (node_tree t n) ts ≡ false = ap (λ z. is_emitted z ts) e ∙ was_not_left t w ts id u.left h s in
        subst (λ z. unless_emitted z after after ≡ emitted_with z ts) e (parts_visit t n ts f)

pub leave_new : (t : TableView) (goal : List Tree) (w v : Walk) (steps : List Step) (id : ℕ) → AreDifferent t.trees → IsKnown t id → is_some (get_or w.numbers.items id None) ≡ false →
    v.left.items ≡ w.left.items ++ id ∷ [] → v.numbers.items ≡ set w.numbers.items id (Some (length w.left.items)) → IsUnderWay t goal w (steps ++ Leave id ∷ []) → IsUnderWay t goal v steps
leave_new t goal w v steps id d h s a b u = record {
  left = record {
    known = subst (λ z. AllKnown t z) (sym a) (AllKnown-push t w.left.items id u.left.known h);
    left = refl;
    marks = subst (λ z. AreMarks t z v.numbers.items) (sym grown) (subst (λ z. AreMarks t (ts ++ tree_at t id ∷ []) z) (sym numbered) (marks-push t ts w.numbers.items id d h f u.left.marks));
  };
  known = (AreSteps-split t steps (Leave id ∷ []) u.known).0;
  leads = ap (all_taken t steps) (grown ∙ sym (ap (λ c. cond c ts (ts ++ tree_at t id ∷ [])) f)) ∙ sym (all_taken-append t steps (Leave id ∷ []) ts) ∙ u.leads;
}
  where
    ts : List Tree
    ts = left_trees t w

    f : is_emitted (tree_at t id) ts ≡ false
    f = was_not_left t w ts id u.left h s

    grown : left_trees t v ≡ ts ++ tree_at t id ∷ []
    grown = ap (map (tree_at t)) a ∙ map-append (tree_at t) w.left.items (id ∷ [])

    numbered : v.numbers.items ≡ set w.numbers.items id (Some (length ts))
    numbered = b ∙ ap (λ k. set w.numbers.items id (Some k)) (sym (length-map w.left.items (tree_at t)))

-- ---- the beginning and the end

-- the steps of one lemma
abbrev pub pair_steps : ℕ × ℕ → List Step
pair_steps l = Enter l.1 ∷ Enter l.0 ∷ []

-- the steps of lemmas, as a loop from the last one on gives them
pub steps_back : (lemmas : List (ℕ × ℕ)) → flat_map pair_steps (reverse lemmas) ≡ lemma_steps lemmas
steps_back [] = refl
steps_back (l ∷ lemmas) =
    ap (flat_map pair_steps) (reverse-append (l ∷ []) lemmas)
    ∙ flat_map-append pair_steps (reverse lemmas) (l ∷ [])
    ∙ ap (λ (steps : List Step). steps ++ pair_steps l) (steps_back lemmas)

emitted_with_all-append : (rs ss ts : List Tree) → emitted_with_all (rs ++ ss) ts ≡ emitted_with_all ss (emitted_with_all rs ts)
emitted_with_all-append [] ss ts = refl
emitted_with_all-append (r ∷ rs) ss ts = emitted_with_all-append rs ss (emitted_with r ts)

abbrev pub enter_inv : ℕ × ℕ → Step
enter_inv inv = Enter inv.1

enter_back : (inv : ℕ × ℕ) (invs : List (ℕ × ℕ)) → map enter_inv (reverse (inv ∷ invs)) ≡ map enter_inv (reverse invs) ++ Enter inv.1 ∷ []
enter_back inv invs = ap (map enter_inv) (reverse-append (inv ∷ []) invs) ∙ map-append enter_inv (reverse invs) (inv ∷ [])

invs_taken : (t : TableView) (invs : List (ℕ × ℕ)) (ts : List Tree) → all_taken t (map enter_inv (reverse invs)) ts ≡ emitted_with_all (map (λ p. p.1) (id_trees t invs)) ts
invs_taken t [] ts = refl
invs_taken t (inv ∷ invs) ts =
    ap (λ z. all_taken t z ts) (enter_back inv invs) ∙ all_taken-append t (map enter_inv (reverse invs)) (Enter inv.1 ∷ []) ts ∙ invs_taken t invs (emitted_with (tree_at t inv.1) ts)

proof_taken : (t : TableView) (proof : Option ℕ) (ts : List Tree) → all_taken t (proof_steps proof) ts ≡ emitted_with_all (one_or_none (option_map (tree_at t) proof)) ts
proof_taken t None ts = refl
proof_taken t (Some id) ts = refl

lemmas_taken : (t : TableView) (lemmas : List (ℕ × ℕ)) (ts : List Tree)
    → all_taken t (lemma_steps lemmas) ts ≡ emitted_with_all (lemma_roots (lemmas_in t lemmas)) ts
lemmas_taken t [] ts = refl
lemmas_taken t (l ∷ lemmas) ts =
    all_taken-append t (lemma_steps lemmas) (Enter l.1 ∷ Enter l.0 ∷ []) ts
    ∙ lemmas_taken t lemmas (emitted_with (tree_at t l.1) (emitted_with (tree_at t l.0) ts))

first_taken : (t : TableView) (invs lemmas : List (ℕ × ℕ)) (proof : Option ℕ) (ts : List Tree)
    → all_taken t (first_steps invs lemmas proof) ts
    ≡ emitted_with_all (root_trees t invs lemmas proof) ts
first_taken t invs lemmas proof ts =
    let rs : List Tree = map (λ p. p.1) (id_trees t invs) in
    let ls : List Tree = lemma_roots (lemmas_in t lemmas) in
    let last : List Tree = one_or_none (option_map (tree_at t) proof) in
    let us : List Tree = emitted_with_all rs ts in
    let of_invs : List Step = map enter_inv (reverse invs) in
    let behind : all_taken t (lemma_steps lemmas ++ of_invs) ts ≡ emitted_with_all ls us =
    all_taken-append t (lemma_steps lemmas) of_invs ts
    ∙ ap (all_taken t (lemma_steps lemmas)) (invs_taken t invs ts)
    ∙ lemmas_taken t lemmas us in
    all_taken-append t (proof_steps proof) (lemma_steps lemmas ++ of_invs) ts
    ∙ ap (all_taken t (proof_steps proof)) behind
    ∙ proof_taken t proof (emitted_with_all ls us)
    ∙ sym (emitted_with_all-append ls last us)
    ∙ sym (emitted_with_all-append rs (ls ++ last) ts)

invs_known : (t : TableView) (invs : List (ℕ × ℕ)) → AllByRecursion (λ inv. IsKnown t inv.1) invs → AreSteps t (map enter_inv (reverse invs))
invs_known t [] h = tt
invs_known t (inv ∷ invs) h =
    subst (λ z. AreSteps t z) (sym (enter_back inv invs)) (AreSteps-append t (map enter_inv (reverse invs)) (Enter inv.1 ∷ []) (invs_known t invs h.1) (h.0, tt))

lemmas_known : (t : TableView) (lemmas : List (ℕ × ℕ)) → LemmasKnown t lemmas
    → AreSteps t (lemma_steps lemmas)
lemmas_known t [] h = tt
lemmas_known t (l ∷ lemmas) h =
    AreSteps-append t (lemma_steps lemmas) (Enter l.1 ∷ Enter l.0 ∷ []) (lemmas_known t lemmas h.2)
    (h.1, (h.0, tt))

proof_known : (t : TableView) (proof : Option ℕ) → IfSome proof (IsKnown t)
    → AreSteps t (proof_steps proof)
proof_known t None h = tt
proof_known t (Some id) h = (h, tt)

first_known : (t : TableView) (invs lemmas : List (ℕ × ℕ)) (proof : Option ℕ)
    → AreKnown t invs proof → LemmasKnown t lemmas → AreSteps t (first_steps invs lemmas proof)
first_known t invs lemmas proof h k =
    let of_invs : List Step = map enter_inv (reverse invs) in
    let behind : AreSteps t (lemma_steps lemmas ++ of_invs) =
    AreSteps-append t (lemma_steps lemmas) of_invs (lemmas_known t lemmas k)
    (invs_known t invs h.0) in
    AreSteps-append t (proof_steps proof) (lemma_steps lemmas ++ of_invs) (proof_known t proof h.1)
    behind

no_marks : (t : TableView) → AreMarks t [] (replicate (length t.trees) None)
no_marks t = record { count = length-replicate (length t.trees) None; at = λ id h. get_or-replicate (length t.trees) id None None h }

pub begins : (t : TableView) (invs lemmas : List (ℕ × ℕ)) (proof : Option ℕ) (w : Walk) (steps : List Step) → AreKnown t invs proof → LemmasKnown t lemmas → w.left.items ≡ [] → w.numbers.items ≡ replicate (length t.trees) None → steps ≡ first_steps invs lemmas proof →
    IsUnderWay t (entries (root_trees t invs lemmas proof)) w steps
unfolding entries
begins t invs lemmas proof w steps h k a b e = record {
  left = record {
    known = subst (λ z. AllKnown t z) (sym a) tt;
    left = refl;
    marks = subst (λ z. AreMarks t z w.numbers.items) (sym none) (subst (λ z. AreMarks t [] z) (sym b) (no_marks t));
  };
  known = subst (λ z. AreSteps t z) (sym e) (first_known t invs lemmas proof h k);
  leads = ap (all_taken t steps) none ∙ ap (λ z. all_taken t z []) e ∙ first_taken t invs lemmas proof [];
}
  where
    none : left_trees t w ≡ []
    none = ap (map (tree_at t)) a

pub ends : (t : TableView) (goal : List Tree) (w : Walk) (steps : List Step) → steps ≡ [] → IsUnderWay t goal w steps → IsLeft t goal w
ends t goal w steps e u = subst (λ z. IsLeft t z w) (ap (λ z. all_taken t z (left_trees t w)) (sym e) ∙ u.leads) u.left

-- the last step is about a tree of the table
pub last_known : (t : TableView) (goal : List Tree) (w : Walk) (steps : List Step) (s : Step) → IsUnderWay t goal w (steps ++ s ∷ []) → IsStep t s
last_known t goal w steps s u = (AreSteps-split t steps (s ∷ []) u.known).1.0

-- the number that is found is that of the tree, and lies among those that were left
pub found_number : (t : TableView) (w : Walk) (id n : ℕ) → IsLeft t (left_trees t w) w → IsKnown t id → is_emitted (tree_at t id) (left_trees t w) ≡ true → get_or w.numbers.items id None ≡ Some n →
    (n ≡ entry_number (left_trees t w) (tree_at t id)) × (n < length w.left.items)
found_number t w id n l h s e =
    let same : n ≡ entry_number (left_trees t w) (tree_at t id) = some_injective (sym e ∙ numbered t w (left_trees t w) id l h s) in
    (same, omega (arith, (number_is (left_trees t w) (tree_at t id) s).0, length-map w.left.items (tree_at t)))
