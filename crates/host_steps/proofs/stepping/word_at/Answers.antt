use Rattle.std.proofs.Common.{sym}
use Rattle.reference_machine.proofs.ArenaWords.{read-map_of_at}
use Rattle.host_steps.proofs.stepping.word_at.Goals as goal

pub returns : goal.returns
returns c = sym (read-map_of_at c.args.words.now c.args.base c.args.addr c.requires.place.from c.requires.place.aligned)
