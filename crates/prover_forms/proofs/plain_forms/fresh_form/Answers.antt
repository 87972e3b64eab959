use Rattle.std.proofs.Common.{Bool, cond, IfOk, sym, subst}
use Rattle.lf_terms.specs.ProofTerms.{eq_refl}
use Rattle.prover_class.specs.NormalForms.{rewritten, normalized, leaves}
use Rattle.prover_forms.specs.Inside.Rounds.{StandsFor}
use Rattle.prover_forms.proofs.Rounds.{few_leaves}
use Rattle.prover_forms.proofs.plain_forms.fresh_form.Goals as goal

pub returns-clause-exact : goal.returns-clause-exact
returns-clause-exact c =
    λ x q.
    let n = c.after_rounds in
    let start = rewritten x (eq_refl x) in
    let few = few_leaves (leaves x) c.leaves_up_to.result c.if-leaves_up_to-gt64.false (c.leaves_up_to.ensures.exact x q) in
    subst (λ (b : Bool). IfOk n.result (StandsFor n.new.table (cond b start (normalized c.args.outside 65536 x start)))) (sym few) (n.ensures.exact x start q)
