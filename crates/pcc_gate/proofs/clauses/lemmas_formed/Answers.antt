use Rattle.std.proofs.Common.{sym, ◌∙◌}
use Rattle.pcc_gate.specs.declared.fault.GateFault.TheVariants as fault
use Rattle.hereditary_subst.specs.Limits.{is_limited, NeedsLimit}
use Rattle.pcc_gate.proofs.Refusing.{carries}
use Rattle.pcc_gate.specs.Shortages.{gate_shortage_of}
use Rattle.pcc_gate.proofs.Stages.{shortage-results}
use Rattle.pcc_gate.proofs.clauses.lemmas_formed.Goals as goal

pub returns-in_err-lemma-clause-limit : goal.returns-in_err-lemma-clause-limit
returns-in_err-lemma-clause-limit c =
    let s = c.in_err-lemma.ensures.spends in
    let what = c.in_err-lemma.field-0.0 in
    carries (NeedsLimit (is_limited c.args.kept.now.memo) fault.Results) (gate_shortage_of what)
    (λ e. sym s.0 ∙ (s.2 (shortage-results what e)).0) c.from_residual.result c.from_residual.ensures.1
