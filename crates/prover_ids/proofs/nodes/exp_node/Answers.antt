use Rattle.std.proofs.Common.{◌≡◌, sym, ◌∙◌, ap, subst}
use Rattle.term_table.specs.Tree.{App, Con, Num}
use Rattle.term_table.specs.Table.{tree_at, node_tree_in}
use Rattle.lf_terms.specs.Encoding.{exp_encoding}
use Rattle.prover_ids.specs.Nodes.{IsExpNode}
use Rattle.prover_ids.proofs.Heads.{IsOther, var_is, lit_is, applied_is, unbound_is}
use Rattle.prover_ids.proofs.Others.{other_node, other_function, other_head}
use Rattle.prover_ids.proofs.nodes.exp_node.Goals as goal

pub returns-in-Var-clause-is : goal.returns-in-Var-clause-is
returns-in-Var-clause-is c = λ e q. var_is e c.in-Var.n (c.in-Var.ensures.tree ∙ q)

pub returns-in-Lit-clause-is : goal.returns-in-Lit-clause-is
returns-in-Lit-clause-is c = λ e q. lit_is e c.in-Lit.word (c.in-Lit.ensures.tree ∙ q)

pub returns-in-Const-clause-is : goal.returns-in-Const-clause-is
returns-in-Const-clause-is c =
    λ e q.
    let t = c.args.table.now in
    let whole : App (App (Con (Num c.in-Const.constant)) (tree_at t c.in-App-node.a)) (tree_at t c.in-App.b) ≡ exp_encoding e =
    ap (λ z. App (App z (tree_at t c.in-App-node.a)) (tree_at t c.in-App.b)) c.in-Const.ensures.tree ∙ ap (λ z. App z (tree_at t c.in-App.b)) c.in-App-node.ensures.tree ∙ c.in-App.ensures.tree ∙ q in
    subst (λ z. IsExpNode t e z) (sym c.applied.ensures) (applied_is t e c.in-Const.constant c.in-App-node.a c.in-App.b whole)

pub returns-in_default-node-2 : goal.returns-in_default-node-2
returns-in_default-node-2 c = record {
  is = λ e q.
      let t = c.args.table.now in
      let whole : App (App (node_tree_in t.trees c.node-in-App-node.result) (tree_at t c.in-App-node.a)) (tree_at t c.in-App.b) ≡ exp_encoding e =
      ap (λ z. App (App z (tree_at t c.in-App-node.a)) (tree_at t c.in-App.b)) c.node-in-App-node.ensures.tree ∙ ap (λ z. App z (tree_at t c.in-App.b)) c.in-App-node.ensures.tree ∙ c.in-App.ensures.tree ∙ q in
      unbound_is t e (subst IsOther whole (other_head t.trees c.node-in-App-node.result _ _ c.in_default-node-2.not-Const));
  below = tt;
}

pub returns-in_default-node : goal.returns-in_default-node
returns-in_default-node c = record {
  is = λ e q.
      let t = c.args.table.now in
      let whole : App (node_tree_in t.trees c.node-in-App.result) (tree_at t c.in-App.b) ≡ exp_encoding e =
      ap (λ z. App z (tree_at t c.in-App.b)) c.node-in-App.ensures.tree ∙ c.in-App.ensures.tree ∙ q in
      unbound_is t e (subst IsOther whole (other_function t.trees c.node-in-App.result _ c.in_default-node.not-App));
  below = tt;
}

pub returns-in_default : goal.returns-in_default
returns-in_default c = record {
  is = λ e q.
      let t = c.args.table.now in
      unbound_is t e (subst IsOther (c.node.ensures.tree ∙ q) (other_node t.trees c.node.result c.in_default.not-Var c.in_default.not-Lit c.in_default.not-App));
  below = tt;
}
