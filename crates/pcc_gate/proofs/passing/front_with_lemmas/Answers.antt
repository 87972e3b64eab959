use Rattle.std.proofs.Common.{sym, ◌∙◌}
use Rattle.pcc_gate.proofs.Stages.{lemma-front-refused}
use Rattle.pcc_gate.proofs.passing.front_with_lemmas.Goals as goal

pub pass-requires : goal.pass-requires
pass-requires c = record { kept = λ s t. c.within-kept.ensures.kept _ t }

pub returns-in-Err-clause-exact : goal.returns-in-Err-clause-exact
returns-in-Err-clause-exact c =
    lemma-front-refused c.args.policy.now c.args.bytes.now c.in-Err.fault
    c.in-Err.ensures.answer

pub returns-in-Err-clause-limit : goal.returns-in-Err-clause-limit
returns-in-Err-clause-limit c = λ e. sym c.within-kept.ensures.limited ∙ c.in-Err.ensures.limit e
