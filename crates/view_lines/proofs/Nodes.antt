-- What is left of a budget of nodes.
use Rattle.std.proofs.Common.{◌≡◌, ℕ, ◌+◌, ◌-◌, ◌<◌, ◌≤◌, Option, Some, None, is_some, refl, sym, ◌∙◌, ap, inl, inr, arith}
use Rattle.std.specs.Prelude.{nat_le}
use Rattle.std.proofs.lemmas.Bool.{cases_lt, cond-true, cond-false, lt-leb, le-leb}
use Rattle.term_table.specs.Tree.{Tree, Var, Con, App, Lam, Fam, TApp, Pi}
use Rattle.term_table.specs.Table.{TableView, tree_at, node_tree}
use Rattle.term_table.specs.declared.Node.{Node}
use Rattle.term_table.specs.declared.Node.TheVariants as N
use Rattle.view_entries.specs.Sizes.{node_count}
use Rattle.view_lines.specs.Inside.Nodes.{rest_after, rest_after_tree, rest_behind, rest_of_node}

pub node_count-some : (t : Tree) → 1 ≤ node_count t
node_count-some (Var n) = omega arith
node_count-some (Con c) = omega arith
node_count-some (App f a) = omega arith
node_count-some (Lam b) = omega arith
node_count-some (Fam n) = omega arith
node_count-some (TApp p a) = omega arith
node_count-some (Pi a b) = omega arith

after-some : (b n : ℕ) → n ≤ b → rest_after b n ≡ Some (b - n)
after-some b n h = cond-true (nat_le n b) _ _ (le-leb n b h)

after-none : (b n : ℕ) → b < n → rest_after b n ≡ None
after-none b n h = cond-false (nat_le n b) _ _ (lt-leb n b h)

-- one node, and one before others
after-one : (b : ℕ) → 1 ≤ b → Some (b - 1) ≡ rest_after b 1
after-one b h = sym (after-some b 1 h)

after-more : (b n : ℕ) → 1 ≤ b → rest_after (b - 1) n ≡ rest_after b (1 + n)
after-more b n h =
    elim (cases_lt (b - 1) n) [
      | inl less ↦ after-none (b - 1) n less ∙ sym (after-none b (1 + n) (omega (arith, less)))
      | inr most ↦
          let same : (b - 1) - n ≡ b - (1 + n) = omega arith in
          after-some (b - 1) n most ∙ ap Some same ∙ sym (after-some b (1 + n) (omega (arith, most)))
    ]

abbrev after-that : Option ℕ → ℕ → Option ℕ
after-that None n = None
after-that (Some rest) n = rest_after rest n

after-both : (b m n : ℕ) → after-that (rest_after b m) n ≡ rest_after b (m + n)
after-both b m n =
    elim (cases_lt b m) [
      | inl less ↦
          ap (λ o. after-that o n) (after-none b m less) ∙ sym (after-none b (m + n) (omega (arith, less)))
      | inr most ↦
          ap (λ o. after-that o n) (after-some b m most)
          ∙ elim (cases_lt (b - m) n) [
            | inl less ↦ after-none (b - m) n less ∙ sym (after-none b (m + n) (omega (arith, less, most)))
            | inr more ↦
                let same : (b - m) - n ≡ b - (m + n) = omega arith in
                after-some (b - m) n more ∙ ap Some same ∙ sym (after-some b (m + n) (omega (arith, more, most)))
          ]
    ]

behind-is : (o : Option ℕ) (t : Tree) → rest_behind o t ≡ after-that o (node_count t)
unfolding rest_after_tree
behind-is None t = refl
behind-is (Some rest) t = refl

two-parts : (b : ℕ) (s t : Tree) → 1 ≤ b
    → rest_behind (rest_after_tree (b - 1) s) t ≡ rest_after b (1 + (node_count s + node_count t))
unfolding rest_after_tree
two-parts b s t h =
    behind-is (rest_after (b - 1) (node_count s)) t
    ∙ after-both (b - 1) (node_count s) (node_count t)
    ∙ after-more b (node_count s + node_count t) h

-- a node's trees, and what is left behind the whole
pub node-rest : (t : TableView) (b : ℕ) (n : Node) → 1 ≤ b
    → rest_of_node t b n ≡ rest_after_tree b (node_tree t n)
unfolding rest_after_tree
node-rest t b (N.App f a) h = two-parts b (tree_at t f) (tree_at t a) h
node-rest t b (N.Lam x) h = after-more b (node_count (tree_at t x)) h
node-rest t b (N.TApp f a) h = two-parts b (tree_at t f) (tree_at t a) h
node-rest t b (N.Pi f a) h = two-parts b (tree_at t f) (tree_at t a) h
node-rest t b n h = after-one b h

pub none_left : (b : ℕ) (t : Tree) → b ≡ 0 → None ≡ rest_after_tree b t
unfolding rest_after_tree
none_left b t h = sym (after-none b (node_count t) (omega (arith, h, node_count-some t)))

-- whether something is left, or nothing more is needed
after-is : (b n : ℕ) → is_some (rest_after b n) ≡ nat_le n b
after-is b n =
    elim (cases_lt b n) [
      | inl less ↦ ap is_some (after-none b n less) ∙ sym (lt-leb n b less)
      | inr most ↦ ap is_some (after-some b n most) ∙ sym (le-leb n b most)
    ]

pub small-is : (b : ℕ) (t : Tree) → is_some (rest_after_tree b t) ≡ nat_le (node_count t) b
unfolding rest_after_tree
small-is b t = after-is b (node_count t)
