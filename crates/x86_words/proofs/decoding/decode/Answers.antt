use Rattle.x86_words.proofs.Fronts.{front-exactly, found-within}
use Rattle.x86_words.proofs.decoding.decode.Goals as goal

pub returns-clause-begins : goal.returns-clause-begins
returns-clause-begins c i = rw c.at_front.ensures (front-exactly c.args.bytes.now i)

pub returns-clause-within : goal.returns-clause-within
returns-clause-within c = found-within c.args.bytes.now c.at_front.result c.at_front.ensures
