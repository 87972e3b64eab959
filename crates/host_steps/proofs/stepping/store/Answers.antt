use Rattle.std.proofs.Common.{arith}
use Rattle.reference_machine.proofs.ArenaWords.{map_of-set_at}
use Rattle.host_steps.proofs.stepping.store.Goals as goal

pub returns-clause-words : goal.returns-clause-words
returns-clause-words c =
    let p = c.requires.place in
    map_of-set_at c.args.words.now c.args.base c.args.addr c.args.word p.from p.aligned (omega (arith, p.to, c.requires.words))
