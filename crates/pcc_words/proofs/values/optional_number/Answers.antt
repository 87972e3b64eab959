use Rattle.pcc_words.proofs.Reading.{some_number, no_number}
use Rattle.pcc_words.proofs.values.optional_number.Goals as goal

pub returns-in-Some : goal.returns-in-Some
returns-in-Some c = some_number c.args.matches.now c.args.id.now c.in-Some.number c.in-Some.ensures.none (λ t e. (c.in-Some.ensures.value t e).0)

pub returns-in-None : goal.returns-in-None
returns-in-None c = no_number c.args.matches.now c.args.id.now (λ t e. (c.in-None.ensures.value t e).1.0)
