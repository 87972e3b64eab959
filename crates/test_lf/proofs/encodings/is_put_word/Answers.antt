use Rattle.test_lf.proofs.Copies.{copies-ready}
use Rattle.test_lf.proofs.encodings.is_put_word.Goals as goal

pub is_put_with-requires-clause-ready : goal.is_put_with-requires-clause-ready
is_put_with-requires-clause-ready c = copies-ready c.args.table.now c.args.word c.requires.word
