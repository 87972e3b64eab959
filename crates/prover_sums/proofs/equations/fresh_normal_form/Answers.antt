use Rattle.std.proofs.Common.{cond, IfOk, sym, ◌∙◌, subst, arith}
use Rattle.lf_terms.specs.ProofTerms.{eq_refl}
use Rattle.prover_class.specs.NormalForms.{rewritten, normalized, leaves}
use Rattle.prover_forms.proofs.Rounds.{few_leaves}
use Rattle.prover_sums.specs.NormalForms.{IsRewritten, IsKnownRewritten, pair_of}
use Rattle.prover_sums.proofs.Rewrites.{above_is}
use Rattle.prover_sums.specs.Lasting.{rewritten-more}
use Rattle.prover_sums.proofs.equations.fresh_normal_form.Goals as goal

pub returns-clause-exact : goal.returns-clause-exact
returns-clause-exact c =
    λ x q.
    let t = c.args.table.now in
    let u = c.reflexive.new.table in
    let v = c.raised.new.table in
    let in_u = c.in_ok-proof.ensures.extends.same c.args.e c.requires.e ∙ q in
    let few = few_leaves (leaves x) c.leaves_up_to.result c.if-leaves_up_to-gt64.false (c.leaves_up_to.ensures.exact x in_u) in
    let start = rewritten x (eq_refl x) in
    let above = above_is u v c.args.e c.in_ok-above.above x c.in_ok-above.ensures.id in_u in
    let stands : IsRewritten u (pair_of c.args.e c.in_ok-proof.proof) start = record { now = in_u; proof = (c.in_ok-proof.ensures.is x q).is } in
    let known : IsKnownRewritten u (pair_of c.args.e c.in_ok-proof.proof) = record { now = omega (arith, c.requires.e, c.in_ok-proof.ensures.extends.longer); proof = c.in_ok-proof.ensures.known } in
    let made = c.normalized.ensures.exact x start above (rewritten-more u v (pair_of c.args.e c.in_ok-proof.proof) start known c.in_ok-above.ensures.extends stands) in
    subst (λ b. IfOk c.normalized.result (λ r. IsRewritten c.normalized.new.table r (cond b start (normalized c.args.outside 65536 x start)))) (sym few) made
