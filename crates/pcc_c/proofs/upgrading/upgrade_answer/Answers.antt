use Rattle.pcc_c.proofs.upgrading.upgrade_answer.Goals as goal

pub returns-in-Ok-clause-accepted : goal.returns-in-Ok-clause-accepted
returns-in-Ok-clause-accepted c = λ policy keeps accepted.
    c.laws.ensures.accepted policy c.args.bytes.now c.in-Ok.made.items keeps
    ((c.laws.ensures.exactly c.args.bytes.now c.in-Ok.made.items c.octets.ensures).0
    c.in-Ok.ensures.exact) accepted
