-- What the code's steps give of a substitution.
use Rattle.std.proofs.Common.{◌≡◌, ℕ, true, false, Some, None, List, [], ◌∷◌, refl, sym, ◌∙◌, ap, subst, add-one, option_map, ◌+◌, suc}
use Rattle.term_table.specs.Tree.{Tree, Var, Con, App, Lam, Fam, TApp, Pi, shift, shifted}
use Rattle.term_table.specs.Subst.{Simple, Base, Arrow, erase, reduce, walk, hsub, hsub_type, bind}
use Rattle.term_table.specs.Scope.{is_atomic_shape, is_term_shape}
use Rattle.term_table.specs.Table.{TableView, IsKnown, tree_at, node_tree, Extends, Stands}
use Rattle.term_table.specs.declared.Node.{Node}
use Rattle.term_table.specs.declared.Node.TheVariants as N
use Rattle.hereditary_subst.specs.Heads.{HeadIs}
use Rattle.hereditary_subst.specs.Kept.{Says}
use Rattle.hereditary_subst.specs.Inside.Spare.{Spares}
use Rattle.hereditary_subst.specs.declared.kept.Question.TheVariants as Q
use Rattle.hereditary_subst.proofs.Rows.{known-more}
use Rattle.hereditary_subst.proofs.Spare.{cancel_atom, cancel_term, cancel_type}

atom_shift : (k c : ℕ) (t : Tree) → is_atomic_shape (shift k c t) ≡ is_atomic_shape t
atom_shift k c (Var n) = refl
atom_shift k c (Con d) = refl
atom_shift k c (App f a) = refl
atom_shift k c (Lam b) = refl
atom_shift k c (Fam a) = refl
atom_shift k c (TApp p a) = refl
atom_shift k c (Pi a b) = refl

term_shift : (k c : ℕ) (t : Tree) → is_term_shape (shift k c t) ≡ is_term_shape t
term_shift k c (Var n) = refl
term_shift k c (Con d) = refl
term_shift k c (App f a) = refl
term_shift k c (Lam b) = refl
term_shift k c (Fam a) = refl
term_shift k c (TApp p a) = refl
term_shift k c (Pi a b) = refl

-- the variable doesn't occur
pub spare_term : (s : Simple) (ts : TableView) (m : Tree) (x : ℕ) (t : Tree) (r : ℕ) → Spares ts m x t (Some r) → is_term_shape t ≡ true → Stands ts (hsub s m x t) (Some r)
spare_term s ts m x t r h q =
    (h.0, subst (λ z. hsub s m x z ≡ Some (tree_at ts r)) h.1 (cancel_term (reduce s) h.2.scope x (tree_at ts r) m (sym (term_shift 1 x (tree_at ts r)) ∙ ap is_term_shape h.1 ∙ q) h.2.within h.2.raises))

pub spare_type : (s : Simple) (ts : TableView) (m : Tree) (x : ℕ) (t : Tree) (r : ℕ) → Spares ts m x t (Some r) → is_term_shape t ≡ false → Stands ts (hsub_type s m x t) (Some r)
spare_type s ts m x t r h q =
    (h.0, subst (λ z. hsub_type s m x z ≡ Some (tree_at ts r)) h.1 (cancel_type s h.2.scope x (tree_at ts r) m (sym (term_shift 1 x (tree_at ts r)) ∙ ap is_term_shape h.1 ∙ q) h.2.within h.2.raises))

pub spare_head : (ty : ℕ) (s : Simple) (ts : TableView) (m : Tree) (x : ℕ) (t : Tree) (r : ℕ) → Spares ts m x t (Some r) → is_atomic_shape t ≡ true → HeadIs ty s m x t ts (Some (record { term = r; met = None }))
spare_head ty s ts m x t r h q =
    (h.0, λ acc. subst (λ z. walk (reduce s) m x z acc ≡ Some (Rattle.term_table.specs.Tree.apps (tree_at ts r) acc)) h.1 (cancel_atom (reduce s) h.2.scope x (tree_at ts r) m acc (sym (atom_shift 1 x (tree_at ts r)) ∙ ap is_atomic_shape h.1 ∙ q) h.2.within h.2.raises))

pub says_under : (t u : TableView) (id m x ty r : ℕ) → Extends t u → IsKnown t id → IsKnown t m → IsKnown t ty → IsKnown u r →
    hsub (erase (tree_at t ty)) (tree_at t m) x (tree_at t id) ≡ Some (tree_at u r) → Says u (Q.Under m id x ty) r None
says_under t u id m x ty r e i j k n h = record {
  known = record { term = n; met = tt };
  tells = (known-more t u id i e, known-more t u m j e, known-more t u ty k e, rw (e.same id i, e.same m j, e.same ty k) h);
}

-- a term that is no abstraction isn't applied, and at a base nothing is
pub reduce_other : (u : Simple) (g b : Tree) (acc : List Tree) → ((z : Tree) → g ≡ Lam z → ⊥) → reduce u g (b ∷ acc) ≡ None
reduce_other (Base a) g b acc h = refl
reduce_other (Arrow s t) (Lam z) b acc h = absurd (h z refl)
reduce_other (Arrow s t) (Var n) b acc h = refl
reduce_other (Arrow s t) (Con c) b acc h = refl
reduce_other (Arrow s t) (App f a) b acc h = refl
reduce_other (Arrow s t) (Fam a) b acc h = refl
reduce_other (Arrow s t) (TApp p a) b acc h = refl
reduce_other (Arrow s t) (Pi a c) b acc h = refl

-- a node that is no abstraction stands for no abstraction
pub no_lam : (n : Node) (t : TableView) (g : Tree) → node_tree t n ≡ g → ((b : _) → n ≡ N.Lam b → ⊥) → (z : Tree) → g ≡ Lam z → ⊥
no_lam (N.Var v) t g e h z q = let k : Var v ≡ Lam z = e ∙ q in cc
no_lam (N.Const v) t g e h z q = let k : node_tree t (N.Const v) ≡ Lam z = e ∙ q in cc
no_lam (N.Lit v) t g e h z q = let k : node_tree t (N.Lit v) ≡ Lam z = e ∙ q in cc
no_lam (N.Calc o v w) t g e h z q = let k : node_tree t (N.Calc o v w) ≡ Lam z = e ∙ q in cc
no_lam (N.Fact o v w) t g e h z q = let k : node_tree t (N.Fact o v w) ≡ Lam z = e ∙ q in cc
no_lam (N.Deny o v w) t g e h z q = let k : node_tree t (N.Deny o v w) ≡ Lam z = e ∙ q in cc
no_lam (N.Lemma v) t g e h z q = let k : node_tree t (N.Lemma v) ≡ Lam z = e ∙ q in cc
no_lam (N.App f x) t g e h z q = let k : node_tree t (N.App f x) ≡ Lam z = e ∙ q in cc
no_lam (N.Lam x) t g e h z q = h x refl
no_lam (N.Fam v) t g e h z q = let k : Fam v ≡ Lam z = e ∙ q in cc
no_lam (N.TApp f x) t g e h z q = let k : node_tree t (N.TApp f x) ≡ Lam z = e ∙ q in cc
no_lam (N.Pi f x) t g e h z q = let k : node_tree t (N.Pi f x) ≡ Lam z = e ∙ q in cc

lam_to : (s : Simple) (m m' : Tree) (x y : ℕ) (b d t : Tree) → Lam b ≡ t → shifted 1 0 m ≡ Some m' → y ≡ x + 1 → hsub s m' y b ≡ Some d → hsub s m x t ≡ Some (Lam d)
lam_to s m m' x y b d t e r q w =
    let w' : hsub s m' (suc x) b ≡ Some d = subst (λ z. hsub s m' z b ≡ Some d) (q ∙ add-one x) w in
    ap (hsub s m x) (sym e)
    ∙ ap (λ o. bind o (λ m'. option_map Lam (walk (reduce s) m' (suc x) b []))) r
    ∙ ap (option_map Lam) w'

-- under a binder
pub put_under : (t u v w z : TableView) (id b m x y ty up d term : ℕ) → Extends t u → Extends u v → IsKnown t b → IsKnown t m → IsKnown t ty → Lam (tree_at t b) ≡ tree_at t id →
    Stands v (shifted 1 0 (tree_at u m)) (Some up) → y ≡ x + 1 → Stands w (hsub (erase (tree_at v ty)) (tree_at v up) y (tree_at v b)) (Some d) → tree_at z term ≡ Lam (tree_at w d) →
    hsub (erase (tree_at t ty)) (tree_at t m) x (tree_at t id) ≡ Some (tree_at z term)
put_under t u v w z id b m x y ty up d term e f kb km kt l r q h n =
    let same_ty : tree_at v ty ≡ tree_at t ty = f.same ty (known-more t u ty kt e) ∙ e.same ty kt in
    let same_b : tree_at v b ≡ tree_at t b = f.same b (known-more t u b kb e) ∙ e.same b kb in
    let r' : shifted 1 0 (tree_at t m) ≡ Some (tree_at v up) = ap (shifted 1 0) (sym (e.same m km)) ∙ r.1 in
    let h' : hsub (erase (tree_at t ty)) (tree_at v up) y (tree_at t b) ≡ Some (tree_at w d) =
    ap (λ k. hsub (erase k) (tree_at v up) y (tree_at t b)) (sym same_ty) ∙ ap (λ k. hsub (erase (tree_at v ty)) (tree_at v up) y k) (sym same_b) ∙ h.1
    in
    lam_to (erase (tree_at t ty)) (tree_at t m) (tree_at v up) x y (tree_at t b) (tree_at w d) (tree_at t id) l r' q h' ∙ ap Some (sym n)
