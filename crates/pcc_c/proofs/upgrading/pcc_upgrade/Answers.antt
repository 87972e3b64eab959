use Rattle.pcc_c.specs.Upgrading.{KeepsAcceptance}
use Rattle.pcc_c.proofs.Told.{done-front}
use Rattle.pcc_c.proofs.upgrading.pcc_upgrade.Goals as goal

pub returns-clause-accepted : goal.returns-clause-accepted
returns-clause-accepted c = λ done.
    done-front (KeepsAcceptance c.args.bytes.now) c.upgrade_answer-made.result _ _ _ _
    c.tell.ensures done c.upgrade_answer-made.ensures.accepted
