use Rattle.pcc_c.specs.Assembling.{HasNoAssembly}
use Rattle.pcc_c.proofs.Told.{bad-source}
use Rattle.pcc_c.proofs.assembling.pcc_asm.Goals as goal

pub returns-clause-none : goal.returns-clause-none
returns-clause-none c = λ bad.
    bad-source (HasNoAssembly c.args.version c.args.bound c.args.policy.now c.args.text.now)
    c.asm_answer-made.result _ _ _ _ c.tell.ensures bad c.asm_answer-made.ensures.none
