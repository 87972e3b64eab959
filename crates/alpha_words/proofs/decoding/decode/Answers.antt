use Rattle.alpha_words.proofs.Words.{decoded-Encodes, Lawful-decoded}
use Rattle.alpha_words.proofs.WordTests.{decoded-flaw}
use Rattle.alpha_words.proofs.decoding.decode.Goals as goal

pub returns-clause-decodes : goal.returns-clause-decodes
returns-clause-decodes c i = rw c.read.ensures (decoded-Encodes c.args.profile c.args.word i)

pub returns-clause-lawful : goal.returns-clause-lawful
returns-clause-lawful c = Lawful-decoded c.args.profile c.args.word c.read.result c.read.ensures

pub returns-clause-refuses : goal.returns-clause-refuses
returns-clause-refuses c bad = rw c.read.ensures (decoded-flaw c.args.profile c.args.word bad)
