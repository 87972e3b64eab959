-- Nodes that are none of those that a formula or expression has at its head.
use Rattle.std.proofs.Common.{◌≡◌, ℕ}
use Rattle.term_table.specs.Tree.{Tree, App}
use Rattle.term_table.specs.Table.{node_tree_in}
use Rattle.term_table.specs.declared.Node.{Node}
use Rattle.term_table.specs.declared.Node.TheVariants as N
use Rattle.prover_ids.proofs.Heads.{IsOther, IsOtherMem, IsNoForm}
use Rattle.std.proofs.Common.{List, refl}

pub other_node : (ts : List Tree) (n : Node) → ((k : ℕ) → n ≡ N.Var k → ⊥) → ((w : ℕ) → n ≡ N.Lit w → ⊥) → ((f a : ℕ) → n ≡ N.App f a → ⊥) → IsOther (node_tree_in ts n)
other_node ts (N.Var n) v l a = v n refl
other_node ts (N.Const n) v l a = tt
other_node ts (N.Lit w) v l a = l w refl
other_node ts (N.Calc o x y) v l a = tt
other_node ts (N.Fact o x y) v l a = tt
other_node ts (N.Deny o x y) v l a = tt
other_node ts (N.Lemma n) v l a = tt
other_node ts (N.App f b) v l a = absurd (a f b refl)
other_node ts (N.Lam b) v l a = tt
other_node ts (N.Fam n) v l a = tt
other_node ts (N.TApp f b) v l a = tt
other_node ts (N.Pi f b) v l a = tt

pub other_function : (ts : List Tree) (n : Node) (b : Tree) → ((f a : ℕ) → n ≡ N.App f a → ⊥) → IsOther (App (node_tree_in ts n) b)
other_function ts (N.Var n) b a = tt
other_function ts (N.Const n) b a = tt
other_function ts (N.Lit w) b a = tt
other_function ts (N.Calc o x y) b a = tt
other_function ts (N.Fact o x y) b a = tt
other_function ts (N.Deny o x y) b a = tt
other_function ts (N.Lemma n) b a = tt
other_function ts (N.App f c) b a = absurd (a f c refl)
other_function ts (N.Lam c) b a = tt
other_function ts (N.Fam n) b a = tt
other_function ts (N.TApp f c) b a = tt
other_function ts (N.Pi f c) b a = tt

pub other_head : (ts : List Tree) (n : Node) (a b : Tree) → ((c : ℕ) → n ≡ N.Const c → ⊥) → IsOther (App (App (node_tree_in ts n) a) b)
other_head ts (N.Var n) a b h = tt
other_head ts (N.Const n) a b h = h n refl
other_head ts (N.Lit w) a b h = tt
other_head ts (N.Calc o x y) a b h = tt
other_head ts (N.Fact o x y) a b h = tt
other_head ts (N.Deny o x y) a b h = tt
other_head ts (N.Lemma n) a b h = tt
other_head ts (N.App f c) a b h = tt
other_head ts (N.Lam c) a b h = tt
other_head ts (N.Fam n) a b h = tt
other_head ts (N.TApp f c) a b h = tt
other_head ts (N.Pi f c) a b h = tt

pub other_mem_node : (ts : List Tree) (n : Node) → ((k : ℕ) → n ≡ N.Var k → ⊥) → ((f a : ℕ) → n ≡ N.App f a → ⊥) → IsOtherMem (node_tree_in ts n)
other_mem_node ts (N.Var n) v a = v n refl
other_mem_node ts (N.Const n) v a = tt
other_mem_node ts (N.Lit w) v a = tt
other_mem_node ts (N.Calc o x y) v a = tt
other_mem_node ts (N.Fact o x y) v a = tt
other_mem_node ts (N.Deny o x y) v a = tt
other_mem_node ts (N.Lemma n) v a = tt
other_mem_node ts (N.App f b) v a = absurd (a f b refl)
other_mem_node ts (N.Lam b) v a = tt
other_mem_node ts (N.Fam n) v a = tt
other_mem_node ts (N.TApp f b) v a = tt
other_mem_node ts (N.Pi f b) v a = tt

pub other_mem_function : (ts : List Tree) (n : Node) (b : Tree) → ((f a : ℕ) → n ≡ N.App f a → ⊥) → IsOtherMem (App (node_tree_in ts n) b)
other_mem_function ts (N.Var n) b a = tt
other_mem_function ts (N.Const n) b a = tt
other_mem_function ts (N.Lit w) b a = tt
other_mem_function ts (N.Calc o x y) b a = tt
other_mem_function ts (N.Fact o x y) b a = tt
other_mem_function ts (N.Deny o x y) b a = tt
other_mem_function ts (N.Lemma n) b a = tt
other_mem_function ts (N.App f c) b a = absurd (a f c refl)
other_mem_function ts (N.Lam c) b a = tt
other_mem_function ts (N.Fam n) b a = tt
other_mem_function ts (N.TApp f c) b a = tt
other_mem_function ts (N.Pi f c) b a = tt

pub other_mem_head : (ts : List Tree) (n : Node) (a b : Tree) → ((f c : ℕ) → n ≡ N.App f c → ⊥) → IsOtherMem (App (App (node_tree_in ts n) a) b)
other_mem_head ts (N.Var n) a b h = tt
other_mem_head ts (N.Const n) a b h = tt
other_mem_head ts (N.Lit w) a b h = tt
other_mem_head ts (N.Calc o x y) a b h = tt
other_mem_head ts (N.Fact o x y) a b h = tt
other_mem_head ts (N.Deny o x y) a b h = tt
other_mem_head ts (N.Lemma n) a b h = tt
other_mem_head ts (N.App f c) a b h = absurd (h f c refl)
other_mem_head ts (N.Lam c) a b h = tt
other_mem_head ts (N.Fam n) a b h = tt
other_mem_head ts (N.TApp f c) a b h = tt
other_mem_head ts (N.Pi f c) a b h = tt

pub no_form_node : (ts : List Tree) (n : Node) → ((c : ℕ) → n ≡ N.Const c → ⊥) → ((f a : ℕ) → n ≡ N.App f a → ⊥) → IsNoForm (node_tree_in ts n)
no_form_node ts (N.Var n) c a = tt
no_form_node ts (N.Const n) c a = c n refl
no_form_node ts (N.Lit w) c a = tt
no_form_node ts (N.Calc o x y) c a = tt
no_form_node ts (N.Fact o x y) c a = tt
no_form_node ts (N.Deny o x y) c a = tt
no_form_node ts (N.Lemma n) c a = tt
no_form_node ts (N.App f b) c a = absurd (a f b refl)
no_form_node ts (N.Lam b) c a = tt
no_form_node ts (N.Fam n) c a = tt
no_form_node ts (N.TApp f b) c a = tt
no_form_node ts (N.Pi f b) c a = tt

pub no_form_function : (ts : List Tree) (n : Node) (b : Tree) → ((c : ℕ) → n ≡ N.Const c → ⊥) → ((f a : ℕ) → n ≡ N.App f a → ⊥) → IsNoForm (App (node_tree_in ts n) b)
no_form_function ts (N.Var n) b c a = tt
no_form_function ts (N.Const n) b c a = c n refl
no_form_function ts (N.Lit w) b c a = tt
no_form_function ts (N.Calc o x y) b c a = tt
no_form_function ts (N.Fact o x y) b c a = tt
no_form_function ts (N.Deny o x y) b c a = tt
no_form_function ts (N.Lemma n) b c a = tt
no_form_function ts (N.App f d) b c a = absurd (a f d refl)
no_form_function ts (N.Lam d) b c a = tt
no_form_function ts (N.Fam n) b c a = tt
no_form_function ts (N.TApp f d) b c a = tt
no_form_function ts (N.Pi f d) b c a = tt

pub no_form_head : (ts : List Tree) (n : Node) (a b : Tree) → ((c : ℕ) → n ≡ N.Const c → ⊥) → IsNoForm (App (App (node_tree_in ts n) a) b)
no_form_head ts (N.Var n) a b h = tt
no_form_head ts (N.Const n) a b h = h n refl
no_form_head ts (N.Lit w) a b h = tt
no_form_head ts (N.Calc o x y) a b h = tt
no_form_head ts (N.Fact o x y) a b h = tt
no_form_head ts (N.Deny o x y) a b h = tt
no_form_head ts (N.Lemma n) a b h = tt
no_form_head ts (N.App f c) a b h = tt
no_form_head ts (N.Lam c) a b h = tt
no_form_head ts (N.Fam n) a b h = tt
no_form_head ts (N.TApp f c) a b h = tt
no_form_head ts (N.Pi f c) a b h = tt
