use Rattle.std.proofs.Common.{Some, sym, ◌∙◌, ap}
use Rattle.formula_tree.specs.Formulas.{FFalse}
use Rattle.prover_class.specs.Goals.{first_of, refuted}
use Rattle.prover_ids.proofs.HypRows.{hyps-after}
use Rattle.prover_hyps.proofs.refuting.absurdity.Goals as goal

pub returns-in-Some-clause-exact : goal.returns-in-Some-clause-exact
returns-in-Some-clause-exact c = λ Γ h.
    let more = hyps-after c.args.table.now c.intern.new.self c.args.hyps.now Γ c.requires c.in_ok-falsity.ensures.extends h in
    let found = c.in-Some.ensures.exact Γ FFalse more c.in_ok-falsity.ensures.id.1 in
    (found.0, ap (λ z. first_of z (refuted Γ Γ)) found.1)

pub returns-in-None-clause-exact : goal.returns-in-None-clause-exact
returns-in-None-clause-exact c = λ Γ h.
    let more = hyps-after c.args.table.now c.intern.new.self c.args.hyps.now Γ c.requires c.in_ok-falsity.ensures.extends h in
    let found = c.in_default.ensures.exact Γ FFalse more c.in_ok-falsity.ensures.id.1 in
    ap (λ z. first_of z (refuted Γ Γ)) found ∙ c.in-None.ensures.exact Γ more

pub returns-in_ok-proof-in-Some-first_refutation-clause-exact : goal.returns-in_ok-proof-in-Some-first_refutation-clause-exact
returns-in_ok-proof-in-Some-first_refutation-clause-exact c = λ Γ h.
    let more = hyps-after c.args.table.now c.intern.new.self c.args.hyps.now Γ c.requires c.in_ok-falsity.ensures.extends h in
    let found = c.in_default.ensures.exact Γ FFalse more c.in_ok-falsity.ensures.id.1 in
    let first = c.in-Some-first_refutation.ensures.exact Γ more in
    let made = c.in_ok-proof-in-Some-first_refutation.ensures.exact first.formula first.form c.in_ok-falsity.ensures.id.1 in
    (made.known, ap (λ z. first_of z (refuted Γ Γ)) found ∙ first.is ∙ ap Some (sym made.is))
