use Rattle.std.proofs.Common.{◌≡◌, ℕ, ◌<◌, Option, None, [], ◌∷◌, sym, ◌∙◌, ap, subst, arith, refl}
use Rattle.term_table.specs.Tree.{shift}
use Rattle.term_table.specs.Table.{tree_at}
use Rattle.term_table.specs.Measures.{height_of}
use Rattle.lf_signature.specs.Nodes.{IsIdOf}
use Rattle.lf_signature.specs.declared.numbers.TheConstants.{FF_E}
use Rattle.prover_class.specs.Hypotheses.{find_hyp}
use Rattle.prover_ids.proofs.Standing.{ruled}
use Rattle.prover_goals.specs.Provers.{whole_proof, prover_of, IsProofBy}
use Rattle.prover_goals.specs.Answers.{IsFoundProof}
use Rattle.prover_goals.specs.declared.answers.Means.{Means}
use Rattle.prover_goals.proofs.AnswerRows.{made_proof, made_after}
use Rattle.prover_hyps.proofs.AlignmentRows.{stands_at}
use Rattle.prover_goals.proofs.Kept.{search-more, context-more}
use Rattle.prover_goals.proofs.WordRows.{after_now, with_memo}
use Rattle.prover_goals.proofs.Connecting.{by_all, by_all_memories, by_leaf, falsity-left, relation-left, right-left, both_some, either_right, implication_is, over_is, hypothesis_is, falsity_is, shape_is, height-shift, not_there}
use Rattle.hereditary_subst.proofs.Limits.{never-spent}
use Rattle.prover_goals.proofs.connectives.+proving.Goals as goal

pub goal_proof-keep_answer-requires-clause-proof :
    goal.goal_proof-keep_answer-requires-clause-proof
goal_proof-keep_answer-requires-clause-proof g t c =
    let a = c.args in
    let n = c.unkept_proof.new in
    let o = c.in_ok-proof in
    let means : Means = g.L.Leaf.by a.leaf.now in
    let found = made_proof a.table.now n.table a.context.now.hyps a.context.now.outside means a.goal o.proof c.requires.context.hyps c.requires.goal o.ensures.extends o.ensures.known o.ensures.exact in
    subst (λ (m : Means). IsFoundProof n.table n.context.hyps n.context.outside m a.goal o.proof) (sym c.means-2.ensures) (made_after n.table n.search a.context.now n.context means a.goal o.proof found o.ensures.after)

pub proof_by_shape-returns-in-All-clause-exact : goal.proof_by_shape-returns-in-All-clause-exact
proof_by_shape-returns-in-All-clause-exact g t c =
    let a = c.args in
    by_all (prover_of (g.L.Leaf.by a.leaf.now)) a.table.now c.proof_for_all.new.table a.context.now.hyps a.context.now.outside a.goal c.in-All.b c.proof_for_all.result c.in-All.ensures.is c.proof_for_all.ensures.exact

pub proof_by_shape-returns-in-AllMem-clause-exact :
    goal.proof_by_shape-returns-in-AllMem-clause-exact
proof_by_shape-returns-in-AllMem-clause-exact g t c =
    let a = c.args in
    let n = c.proof_for_all-in-AllMem in
    by_all_memories (prover_of (g.L.Leaf.by a.leaf.now)) a.table.now n.new.table a.context.now.hyps a.context.now.outside a.goal c.in-AllMem.b n.result c.in-AllMem.ensures.is n.ensures.exact

pub proof_by_shape-returns-in-False-clause-exact :
    goal.proof_by_shape-returns-in-False-clause-exact
proof_by_shape-returns-in-False-clause-exact g t c =
    let a = c.args in
    let k = a.context.now in
    let p = prover_of (g.L.Leaf.by a.leaf.now) in
    by_leaf p a.table.now c.leaf_proof.new.table k.hyps k.outside a.goal c.leaf_proof.result
    (λ A q. falsity-left p k.outside A (c.in-False.ensures.is A q)) c.leaf_proof.ensures.exact

pub proof_by_shape-returns-in-Relation-clause-exact :
    goal.proof_by_shape-returns-in-Relation-clause-exact
proof_by_shape-returns-in-Relation-clause-exact g t c =
    let a = c.args in
    let k = a.context.now in
    let n = c.leaf_proof-in-Relation in
    let p = prover_of (g.L.Leaf.by a.leaf.now) in
    by_leaf p a.table.now n.new.table k.hyps k.outside a.goal n.result
    (λ A q. let i = c.in-Relation.ensures.is A q in
    relation-left p k.outside A c.in-Relation.field-0 i.left i.right i.is) n.ensures.exact

pub proof_by_shape-returns-in-Right-clause-exact :
    goal.proof_by_shape-returns-in-Right-clause-exact
proof_by_shape-returns-in-Right-clause-exact g t c =
    let a = c.args in
    let k = a.context.now in
    let n = c.leaf_proof-in-Right in
    let p = prover_of (g.L.Leaf.by a.leaf.now) in
    by_leaf p a.table.now n.new.table k.hyps k.outside a.goal n.result
    (λ A q. let i = c.in-Right.ensures.is A q in
    right-left p k.outside A c.in-Right.field-0 i.address i.is) n.ensures.exact

pub proof_for_all-returns-clause-exact : goal.proof_for_all-returns-clause-exact
proof_for_all-returns-clause-exact g t c =
    let a = c.args in
    let under = c.in_ok-under in
    let o = c.in_ok-proof in
    over_is (prover_of (g.L.Leaf.by a.leaf.now)) a.table.now c.under_binder.new.table c.goal_proof.new.table c.generalized.new.table a.context.now under.under a.rule a.b o.proof c.generalized.result c.requires.b under.ensures.extends o.ensures.extends under.ensures.under o.ensures.exact c.generalized.ensures.exact

pub proof_of_both-returns-in_ok-right-in-Some-clause-exact :
    goal.proof_of_both-returns-in_ok-right-in-Some-clause-exact
proof_of_both-returns-in_ok-right-in-Some-clause-exact g t c =
    let a = c.args in
    let p = prover_of (g.L.Leaf.by a.leaf.now) in
    let n = c.goal_proof.new in
    let l = c.in_ok-goal_proof in
    let r = c.in_ok-right-in-Some in
    let left = subst (λ (o : Option ℕ). IsProofBy (whole_proof p) a.table.now n.table a.context.now.hyps a.context.now.outside a.a o) c.in-Some.is l.ensures.exact in
    both_some p a.table.now n.table c.goal_proof-in-Some.new.table c.both.new.table n.search a.context.now n.context a.a a.b c.in-Some.left r.right c.both.result c.requires.context.hyps c.requires.a c.requires.b l.ensures.extends r.ensures.extends l.ensures.after left r.ensures.exact c.both.ensures.exact

pub proof_of_either-returns-clause-exact : goal.proof_of_either-returns-clause-exact
proof_of_either-returns-clause-exact g t c =
    let a = c.args in
    let n = c.goal_proof.new in
    let l = c.in_ok-left in
    let r = c.in_ok-right in
    either_right (prover_of (g.L.Leaf.by a.leaf.now)) a.table.now n.table c.goal_proof-2.new.table c.joined-2.new.table n.search a.context.now n.context a.a a.b l.left r.right c.joined-2.result c.requires.context.hyps c.requires.a c.requires.b l.ensures.extends r.ensures.extends l.ensures.after (not_there l.left c.in_default.not-Some) l.ensures.exact r.ensures.exact c.joined-2.ensures.exact

pub proof_of_implication-goal_proof-requires : goal.proof_of_implication-goal_proof-requires
proof_of_implication-goal_proof-requires g t c =
    let a = c.args in
    let u = c.under_hypothesis.new in
    let v = c.raised.new in
    let h = c.in_ok-under in
    let r = c.in_ok-goal in
    let lower : height_of (tree_at a.table.now a.b) < height_of (tree_at a.table.now a.whole) = c.requires.lower in
    let same : height_of (tree_at v.table r.goal) ≡ height_of (tree_at a.table.now a.b) = ap height_of (r.ensures.id.is ∙ ap (shift 1 0) (h.ensures.extends.same a.b c.requires.b)) ∙ height-shift (tree_at a.table.now a.b) 1 0 in
    λ κ l. (omega (arith, same, lower, c.decreases), (l, (r.ensures.id.known, (with_memo u.table v.table u.search v.memo h.ensures.search r.ensures.extends r.ensures.memo, context-more h.under u.table v.table h.ensures.under.context r.ensures.extends))))

pub proof_of_implication-returns-clause-exact : goal.proof_of_implication-returns-clause-exact
proof_of_implication-returns-clause-exact g t c =
    let a = c.args in
    let h = c.in_ok-under in
    let r = c.in_ok-goal in
    let o = c.in_ok-proof in
    implication_is (prover_of (g.L.Leaf.by a.leaf.now)) a.table.now c.under_hypothesis.new.table c.raised.new.table c.goal_proof.new.table c.implied.new.table a.context.now h.under a.a a.b r.goal o.proof c.implied.result c.requires.context.hyps c.requires.a c.requires.b h.ensures.extends r.ensures.extends o.ensures.extends h.ensures.under h.ensures.under.context.hyps r.ensures.id o.ensures.exact c.implied.ensures.exact

pub unkept_proof-returns-in-Some-clause-exact : goal.unkept_proof-returns-in-Some-clause-exact
unkept_proof-returns-in-Some-clause-exact g t c =
    let a = c.args in
    hypothesis_is (prover_of (g.L.Leaf.by a.leaf.now)) a.table.now a.context.now.hyps a.context.now.outside a.goal c.in-Some.proof c.in-Some.ensures.exact

pub unkept_proof-returns-in-Some-absurd-clause-exact :
    goal.unkept_proof-returns-in-Some-absurd-clause-exact
unkept_proof-returns-in-Some-absurd-clause-exact g t c =
    let a = c.args in
    let u = c.rule_term.new.table in
    let o = c.in_ok-proof in
    falsity_is (prover_of (g.L.Leaf.by a.leaf.now)) a.table.now u a.context.now.hyps a.context.now.outside a.goal c.in-Some-absurd.falsity o.proof a.context.now.absurd c.in-Some-absurd.is c.requires.context.absurd
    (λ Γ A h q. stands_at a.table.now (find_hyp Γ A) c.find_hyp.result None (not_there c.find_hyp.result c.in_default.not-Some) (c.find_hyp.ensures.exact Γ A h q))
    (λ A q e f. ruled (λ z. IsIdOf u z o.proof) FF_E (λ i. e i ∷ f i ∷ []) o.ensures.id)

pub unkept_proof-returns-in-Some-absurd-clause-after :
    goal.unkept_proof-returns-in-Some-absurd-clause-after
unkept_proof-returns-in-Some-absurd-clause-after g t c =
    let a = c.args in
    let u = c.rule_term.new.table in
    let x = c.in_ok-proof.ensures.extends in
    after_now u a.search.now a.context.now (search-more a.search.now a.table.now u c.requires.search x) (context-more a.context.now a.table.now u c.requires.context x)

pub unkept_proof-returns-clause-exact : goal.unkept_proof-returns-clause-exact
unkept_proof-returns-clause-exact g t c =
    let a = c.args in
    let n = c.proof_by_shape in
    shape_is (prover_of (g.L.Leaf.by a.leaf.now)) a.table.now n.new.table a.context.now.hyps a.context.now.outside a.goal a.context.now.absurd n.result (not_there a.context.now.absurd c.in_default-absurd.not-Some) c.requires.context.absurd
    (λ Γ A h q. stands_at a.table.now (find_hyp Γ A) c.find_hyp.result None (not_there c.find_hyp.result c.in_default.not-Some) (c.find_hyp.ensures.exact Γ A h q))
    n.ensures.exact

pub proof_by_shape-returns-in-True-clause-spends : goal.proof_by_shape-returns-in-True-clause-spends
proof_by_shape-returns-in-True-clause-spends g t c =
    (refl, omega arith, never-spent c.truth.new.table c.args.search.now.memo c.truth.result c.truth.ensures.memory)

pub proof_of_both-returns-in_ok-right-in-Some-clause-spends : goal.proof_of_both-returns-in_ok-right-in-Some-clause-spends
proof_of_both-returns-in_ok-right-in-Some-clause-spends g t c =
    let l = c.in_ok-goal_proof.ensures.spends in
    let r = c.in_ok-right-in-Some.ensures.spends in
    (r.0 ∙ l.0, omega (arith, l.1, r.1), never-spent c.both.new.table c.goal_proof-in-Some.new.search.memo c.both.result c.both.ensures.memory)

pub proof_of_either-returns-clause-spends : goal.proof_of_either-returns-clause-spends
proof_of_either-returns-clause-spends g t c =
    let l = c.in_ok-left.ensures.spends in
    let r = c.in_ok-right.ensures.spends in
    (r.0 ∙ l.0, omega (arith, l.1, r.1), never-spent c.joined-2.new.table c.goal_proof-2.new.search.memo c.joined-2.result c.joined-2.ensures.memory)

pub proof_of_implication-returns-clause-spends : goal.proof_of_implication-returns-clause-spends
proof_of_implication-returns-clause-spends g t c =
    let h = c.in_ok-under.ensures.spends in
    let r = c.in_ok-goal.ensures.spends in
    let o = c.in_ok-proof.ensures.spends in
    (o.0 ∙ r.0 ∙ h.0, omega (arith, h.1, r.1, o.1), never-spent c.implied.new.table c.goal_proof.new.search.memo c.implied.result c.implied.ensures.memory)

pub proof_for_all-returns-clause-spends : goal.proof_for_all-returns-clause-spends
proof_for_all-returns-clause-spends g t c =
    let h = c.in_ok-under.ensures.spends in
    let o = c.in_ok-proof.ensures.spends in
    (o.0 ∙ h.0, omega (arith, h.1, o.1), never-spent c.generalized.new.table c.goal_proof.new.search.memo c.generalized.result c.generalized.ensures.memory)
