use Rattle.test_lf.proofs.Copies.{copies-ready}
use Rattle.test_lf.proofs.encodings.put_word.Goals as goal

pub put-requires-clause-ready : goal.put-requires-clause-ready
put-requires-clause-ready c = copies-ready c.args.table.now c.args.word c.requires.word
