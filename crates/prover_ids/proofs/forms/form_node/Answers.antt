use Rattle.std.proofs.Common.{◌≡◌, ◌∙◌, sym, ap, subst}
use Rattle.term_table.specs.Tree.{App, Con, Num}
use Rattle.term_table.specs.Table.{tree_at, node_tree_in}
use Rattle.lf_terms.specs.Encoding.{form_encoding}
use Rattle.prover_ids.specs.Nodes.{IsFormNode, AreFormPartsLower}
use Rattle.prover_ids.proofs.Heads.{IsNoForm, truth_is, falsity_is, unary_is, binary_is, no_form, unary_lower, binary_lower}
use Rattle.prover_ids.proofs.Others.{no_form_node, no_form_function, no_form_head}
use Rattle.prover_ids.proofs.forms.form_node.Goals as goal

pub returns-then-constant-eq-TT-clause-is : goal.returns-then-constant-eq-TT-clause-is
returns-then-constant-eq-TT-clause-is c = λ A q. truth_is A (ap (λ z. Con (Num z)) (sym c.if-constant-eq-TT.true) ∙ c.in-Const.ensures.tree ∙ q)

pub returns-else-constant-eq-TT-clause-is : goal.returns-else-constant-eq-TT-clause-is
returns-else-constant-eq-TT-clause-is c = λ A q. falsity_is A c.in-Const.constant c.if-constant-eq-TT.false (c.in-Const.ensures.tree ∙ q)

pub returns-in-Const-node-clause-is : goal.returns-in-Const-node-clause-is
returns-in-Const-node-clause-is c =
    λ A q.
    let t = c.args.table.now in
    let whole : App (Con (Num c.in-Const-node.constant)) (tree_at t c.in-App.b) ≡ form_encoding A =
    ap (λ z. App z (tree_at t c.in-App.b)) c.in-Const-node.ensures.tree ∙ c.in-App.ensures.tree ∙ q in
    subst (λ z. IsFormNode t A z) (sym c.unary.ensures) (unary_is t A c.in-Const-node.constant c.in-App.b c.body_of.result c.body_of.ensures whole)

pub returns-in-Const-node-2-clause-is : goal.returns-in-Const-node-2-clause-is
returns-in-Const-node-2-clause-is c =
    λ A q.
    let t = c.args.table.now in
    let whole : App (App (Con (Num c.in-Const-node-2.constant)) (tree_at t c.in-App-node.a)) (tree_at t c.in-App.b) ≡ form_encoding A =
    ap (λ z. App (App z (tree_at t c.in-App-node.a)) (tree_at t c.in-App.b)) c.in-Const-node-2.ensures.tree ∙ ap (λ z. App z (tree_at t c.in-App.b)) c.in-App-node.ensures.tree ∙ c.in-App.ensures.tree ∙ q in
    subst (λ z. IsFormNode t A z) (sym c.binary.ensures) (binary_is t A c.in-Const-node-2.constant c.in-App-node.a c.in-App.b whole)

pub returns-in_default-node-2 : goal.returns-in_default-node-2
returns-in_default-node-2 c = record {
  is = λ A q.
      let t = c.args.table.now in
      let whole : App (App (node_tree_in t.trees c.node-in-App-node.result) (tree_at t c.in-App-node.a)) (tree_at t c.in-App.b) ≡ form_encoding A =
      ap (λ z. App (App z (tree_at t c.in-App-node.a)) (tree_at t c.in-App.b)) c.node-in-App-node.ensures.tree ∙ ap (λ z. App z (tree_at t c.in-App.b)) c.in-App-node.ensures.tree ∙ c.in-App.ensures.tree ∙ q in
      absurd (no_form A (subst IsNoForm whole (no_form_head t.trees c.node-in-App-node.result _ _ c.in_default-node-2.not-Const)));
  below = tt;
  lower = tt;
}

pub returns-in_default-node : goal.returns-in_default-node
returns-in_default-node c = record {
  is = λ A q.
      let t = c.args.table.now in
      let whole : App (node_tree_in t.trees c.node-in-App.result) (tree_at t c.in-App.b) ≡ form_encoding A =
      ap (λ z. App z (tree_at t c.in-App.b)) c.node-in-App.ensures.tree ∙ c.in-App.ensures.tree ∙ q in
      absurd (no_form A (subst IsNoForm whole (no_form_function t.trees c.node-in-App.result _ c.in_default-node.not-Const c.in_default-node.not-App)));
  below = tt;
  lower = tt;
}

pub returns-in_default : goal.returns-in_default
returns-in_default c = record {
  is = λ A q.
      absurd (no_form A (subst IsNoForm (c.node.ensures.tree ∙ q) (no_form_node c.args.table.now.trees c.node.result c.in_default.not-Const c.in_default.not-App)));
  below = tt;
  lower = tt;
}

pub returns-in-Const-node-clause-lower : goal.returns-in-Const-node-clause-lower
returns-in-Const-node-clause-lower c =
    let t = c.args.table.now in
    subst (λ z. AreFormPartsLower t c.args.id z) (sym c.unary.ensures)
    (unary_lower t c.args.id c.in-Const-node.constant c.in-App.b c.body_of.result c.body_of.ensures (ap (λ z. App z (tree_at t c.in-App.b)) c.in-Const-node.ensures.tree ∙ c.in-App.ensures.tree))

pub returns-in-Const-node-2-clause-lower : goal.returns-in-Const-node-2-clause-lower
returns-in-Const-node-2-clause-lower c =
    let t = c.args.table.now in
    subst (λ z. AreFormPartsLower t c.args.id z) (sym c.binary.ensures)
    (binary_lower t c.args.id c.in-Const-node-2.constant c.in-App-node.a c.in-App.b
    (ap (λ z. App (App z (tree_at t c.in-App-node.a)) (tree_at t c.in-App.b)) c.in-Const-node-2.ensures.tree ∙ ap (λ z. App z (tree_at t c.in-App.b)) c.in-App-node.ensures.tree ∙ c.in-App.ensures.tree))
