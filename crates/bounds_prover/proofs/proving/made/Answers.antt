use Rattle.std.proofs.Common.{Err, sym, ◌∙◌, ap, subst}
use Rattle.proof_container.specs.Views.{contents_of}
use Rattle.pcc_gate.specs.Answers.{IsLemmaFrontAnswer}
use Rattle.pcc_gate.specs.Passing.{PassesUntyped}
use Rattle.bounds_prover.specs.declared.fault.ProveFlaw.TheVariants.{Refused}
use Rattle.bounds_prover.specs.Proving.{IsMadeAnswer}
use Rattle.bounds_prover.proofs.Making.{contents-made, refused-made}
use Rattle.bounds_prover.proofs.proving.made.Goals as goal

pub returns-in-Err-Refused-clause-exact : goal.returns-in-Err-Refused-clause-exact
returns-in-Err-Refused-clause-exact c =
    let policy = c.args.policy.now in
    let bytes = c.args.bytes.now in
    let first =
    subst (λ f. IsLemmaFrontAnswer policy bytes (Err f)) c.in-Err-Refused.field-0-is
    c.in-Err-Refused.ensures.exact in
    refused-made policy bytes c.in-Err-Refused.refusal first ∙ ap (λ r. Err (Refused r)) (sym c.in-Err-Refused.refusal-is)

pub returns-in-Ok-clause-exact : goal.returns-in-Ok-clause-exact
returns-in-Ok-clause-exact c =
    let p = c.in-Ok.passed in
    let passes = c.in-Ok.ensures.exact in
    subst (λ m. IsMadeAnswer (PassesUntyped c.args.policy.now c.args.bytes.now) m c.proved.result)
    (sym (contents-made c.args.policy.now c.args.bytes.now (contents_of p.container) p.cut.code
    p.cut.marks passes.0 passes.2))
    c.proved.ensures.made
