use Rattle.std.proofs.Common.{◌∙◌, sym, subst}
use Rattle.std.proofs.lemmas.Result.{on_ok_weaker}
use Rattle.term_table.specs.Table.{Stands, tree_at}
use Rattle.prover_class.specs.Hypotheses.{find_hyp}
use Rattle.prover_hyps.proofs.Known.{found, added-old, added-new, known-push}
use Rattle.prover_hyps.proofs.finding.add.Goals as goal

pub returns-in-Some-clause-exact : goal.returns-in-Some-clause-exact
returns-in-Some-clause-exact c = λ Γ A h a.
    let t = c.args.table.now in
    let s = found t c.args.hyps.now Γ A c.args.form c.laws.ensures.different c.requires.hyps c.requires.form h a in
    added-old t c.args.hyps.now Γ (find_hyp Γ A) c.in-Some.field-0 (A, tree_at t c.args.proof) (subst (λ z. Stands t (find_hyp Γ A) z) (sym c.find.ensures ∙ c.in-Some.is) s) h

pub returns-in-None-clause-known : goal.returns-in-None-clause-known
returns-in-None-clause-known c =
    on_ok_weaker c.push.result (known-push c.args.table.now c.args.hyps.now c.push.new.self (record { form = c.args.form; proof = c.args.proof }) c.requires.hyps c.requires.form c.requires.proof) c.push.ensures

pub returns-in-None-clause-exact : goal.returns-in-None-clause-exact
returns-in-None-clause-exact c = λ Γ A h a.
    let t = c.args.table.now in
    let s = found t c.args.hyps.now Γ A c.args.form c.laws.ensures.different c.requires.hyps c.requires.form h a in
    on_ok_weaker c.push.result (added-new t c.args.hyps.now c.push.new.self Γ (find_hyp Γ A) (record { form = c.args.form; proof = c.args.proof }) A (subst (λ z. Stands t (find_hyp Γ A) z) (sym c.find.ensures ∙ c.in-None.is) s) h a) c.push.ensures
