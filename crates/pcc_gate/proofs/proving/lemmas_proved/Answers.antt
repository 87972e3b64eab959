use Rattle.std.proofs.Common.{◌≡◌, Some, sym, ◌∙◌, ap}
use Rattle.std.specs.Option.{option_map}
use Rattle.lf_lemmas.specs.Tables.{lemmas_in}
use Rattle.pcc_gate.specs.declared.refusal.Refusal.TheVariants as refusal
use Rattle.pcc_gate.specs.First.{lemma_unproved}
use Rattle.pcc_gate.specs.Shortages.{gate_shortage_of}
use Rattle.pcc_gate.specs.Inside.Stages.{AnswersSearch}
use Rattle.pcc_gate.proofs.Refusing.{carries}
use Rattle.pcc_gate.proofs.Stages.{shortage-refuses, shortage-results}
use Rattle.pcc_gate.specs.declared.fault.GateFault.TheVariants as fault
use Rattle.hereditary_subst.specs.Limits.{is_limited, NeedsLimit}
use Rattle.pcc_gate.proofs.proving.lemmas_proved.Goals as goal

pub returns-in_err-lemma-clause-answer : goal.returns-in_err-lemma-clause-answer
returns-in_err-lemma-clause-answer c =
    let s = c.args.signature in
    let lemmas = lemmas_in c.args.table.now c.args.lemmas.now in
    let what = c.in_err-lemma.field-0.0 in
    carries (AnswersSearch refusal.LemmaNotProof (lemma_unproved s lemmas)) (gate_shortage_of what)
    (shortage-refuses (option_map refusal.LemmaNotProof (lemma_unproved s lemmas)) what)
    c.from_residual.result c.from_residual.ensures.1

pub returns-in-Some-clause-answer : goal.returns-in-Some-clause-answer
returns-in-Some-clause-answer c =
    let s = c.args.signature in
    let found : lemma_unproved s (lemmas_in c.args.table.now c.args.lemmas.now)
    ≡ Some c.in-Some.lemma =
    sym c.in_ok-lemma.ensures.exact ∙ c.in-Some.is in
    ap (option_map refusal.LemmaNotProof) found

pub returns-in-None-clause-answer : goal.returns-in-None-clause-answer
returns-in-None-clause-answer c = sym c.in_ok-lemma.ensures.exact ∙ c.in-None.is

pub returns-in_err-lemma-clause-limit : goal.returns-in_err-lemma-clause-limit
returns-in_err-lemma-clause-limit c =
    let s = c.in_err-lemma.ensures.spends in
    let what = c.in_err-lemma.field-0.0 in
    carries (NeedsLimit (is_limited c.args.kept.now.memo) fault.Results) (gate_shortage_of what)
    (λ e. sym s.0 ∙ (s.2 (shortage-results what e)).0) c.from_residual.result c.from_residual.ensures.1
