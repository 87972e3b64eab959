use Rattle.std.proofs.Common.{sym}
use Rattle.pcc_c.proofs.NoAssembly.{err-more, no-source, no-container}
use Rattle.pcc_c.proofs.assembling.asm_answer.Goals as goal

pub returns-in_err-source-clause-none : goal.returns-in_err-source-clause-none
returns-in_err-source-clause-none c =
    let a = c.args in
    err-more c.in_err-source.field-0.0 c.from_residual-in_err-source.result
    c.from_residual-in_err-source.ensures.1
    (no-source a.version a.bound a.policy.now a.text.now c.in_ok-steps.steps (sym c.in_ok-steps.ensures.exact))
    c.in_err-source.ensures.none

pub returns-in_err-made-clause-none : goal.returns-in_err-made-clause-none
returns-in_err-made-clause-none c =
    let a = c.args in
    err-more c.in_err-made.field-0.0 c.from_residual-in_err-made.result
    c.from_residual-in_err-made.ensures.1
    (no-container a.version a.bound a.policy.now a.text.now c.in_ok-steps.steps c.in_ok-under.under
    _ c.laws.ensures.sources (sym c.in_ok-steps.ensures.exact) c.in_ok-under.ensures
    c.in_ok-source.ensures.spells)
    c.in_err-made.ensures.none
