use Rattle.std.proofs.Common.{rules, arith, ◌≡◌, ◌∙◌, Some, sym, ap, subst}
use Rattle.term_table.specs.Table.{IsKnown, AllKnown, tree_at, ctx_of, Stands}
use Rattle.lf_signature.specs.Terms.{pf}
use Rattle.lf_signature.specs.Typing.{Checks, atom_checks, con_synth}
use Rattle.proof_kit.proofs.Evaluated.{known_pf, goal_of, not_proofs}
use Rattle.proof_kit.proofs.constants.constant.Goals as goal

pub returns : goal.returns
returns c = record {
  exact = λ sig known k term eval stands.
      let t = c.args.table.now in
      let found : IsKnown t c.in-Some.kind × (sig k ≡ Some (tree_at t c.in-Some.kind)) = subst (Stands t (sig k)) c.in-Some.is stands in
      let proof = known_pf k (tree_at t c.in-Some.kind) eval (known.within k (tree_at t c.in-Some.kind) found.1) in
      let is : pf proof.0 ≡ pf (tree_at t c.in-TApp.goal) = goal_of (tree_at t c.in-TApp.field-0) (tree_at t c.in-TApp.goal) proof.0 (c.in-TApp.ensures.tree ∙ proof.1) in
      let type : sig k ≡ Some (pf (tree_at t c.in-TApp.goal)) = found.1 ∙ ap Some (proof.1 ∙ is) in
      let same : c.in_ok-hyps.hyps.items ≡ c.args.hyps.now = search rules in (
        same,
        type,
        term,
        record {
          placed = record { hyps = subst (AllKnown t) (sym same) c.requires.hyps; goal = omega (arith, c.in-TApp.ensures.parts, found.0); term = c.requires.term };
          proves = subst (λ z. Checks sig (ctx_of t c.in_ok-hyps.hyps.items) z (pf (tree_at t c.in-TApp.goal))) (sym term) (atom_checks (con_synth type) tt);
        },
      );
}

pub returns-in_default-node : goal.returns-in_default-node
returns-in_default-node c = record {
  exact = λ sig known k term eval stands.
      let t = c.args.table.now in
      let found : IsKnown t c.in-Some.kind × (sig k ≡ Some (tree_at t c.in-Some.kind)) = subst (Stands t (sig k)) c.in-Some.is stands in
      let proof = known_pf k (tree_at t c.in-Some.kind) eval (known.within k (tree_at t c.in-Some.kind) found.1) in
      absurd (not_proofs t c.node.result proof.0 (λ p a e. c.in_default-node.not-TApp p a e) (c.node.ensures.tree ∙ proof.1));
}
