use Rattle.std.proofs.Common.{◌≡◌, ◌∙◌, ap, subst}
use Rattle.term_table.specs.Tree.{App}
use Rattle.term_table.specs.Table.{tree_at, node_tree_in}
use Rattle.lf_terms.specs.Encoding.{mem_encoding}
use Rattle.prover_ids.proofs.Heads.{IsOtherMem, mem_var_is, upd_is, unbound_mem_is}
use Rattle.prover_ids.proofs.Others.{other_mem_node, other_mem_function, other_mem_head}
use Rattle.prover_ids.proofs.nodes.mem_node.Goals as goal

pub returns-in-Var-clause-is : goal.returns-in-Var-clause-is
returns-in-Var-clause-is c = λ m q. mem_var_is m c.in-Var.n (c.in-Var.ensures.tree ∙ q)

pub returns-in-App-node-2-clause-is : goal.returns-in-App-node-2-clause-is
returns-in-App-node-2-clause-is c =
    λ m q.
    let t = c.args.table.now in
    upd_is t m _ c.in-App-node-2.m c.in-App-node.a c.in-App.v
    (ap (λ z. App (App z (tree_at t c.in-App-node.a)) (tree_at t c.in-App.v)) c.in-App-node-2.ensures.tree ∙ ap (λ z. App z (tree_at t c.in-App.v)) c.in-App-node.ensures.tree ∙ c.in-App.ensures.tree ∙ q)

pub returns-in_default-node-2 : goal.returns-in_default-node-2
returns-in_default-node-2 c = record {
  is = λ m q.
      let t = c.args.table.now in
      let whole : App (App (node_tree_in t.trees c.node-in-App-node.result) (tree_at t c.in-App-node.a)) (tree_at t c.in-App.v) ≡ mem_encoding m =
      ap (λ z. App (App z (tree_at t c.in-App-node.a)) (tree_at t c.in-App.v)) c.node-in-App-node.ensures.tree ∙ ap (λ z. App z (tree_at t c.in-App.v)) c.in-App-node.ensures.tree ∙ c.in-App.ensures.tree ∙ q in
      unbound_mem_is m (subst IsOtherMem whole (other_mem_head t.trees c.node-in-App-node.result _ _ c.in_default-node-2.not-App));
  below = tt;
}

pub returns-in_default-node : goal.returns-in_default-node
returns-in_default-node c = record {
  is = λ m q.
      let t = c.args.table.now in
      let whole : App (node_tree_in t.trees c.node-in-App.result) (tree_at t c.in-App.v) ≡ mem_encoding m =
      ap (λ z. App z (tree_at t c.in-App.v)) c.node-in-App.ensures.tree ∙ c.in-App.ensures.tree ∙ q in
      unbound_mem_is m (subst IsOtherMem whole (other_mem_function t.trees c.node-in-App.result _ c.in_default-node.not-App));
  below = tt;
}

pub returns-in_default : goal.returns-in_default
returns-in_default c = record {
  is = λ m q.
      unbound_mem_is m (subst IsOtherMem (c.node.ensures.tree ∙ q) (other_mem_node c.args.table.now.trees c.node.result c.in_default.not-Var c.in_default.not-App));
  below = tt;
}
