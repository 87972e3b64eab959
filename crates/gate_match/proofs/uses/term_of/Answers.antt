use Rattle.lf_encode.proofs.KeptRows.{put_for-reg}
use Rattle.vcgen.specs.Symbols.{ids_of}
use Rattle.gate_match.proofs.uses.term_of.Goals as goal

pub returns-then-k-lt31-clause-known : goal.returns-then-k-lt31-clause-known
returns-then-k-lt31-clause-known c =
    (put_for-reg c.args.table.now (ids_of c.args.symbols.now) c.args.k c.index-symbols-k.result c.requires.ready c.if-k-lt31.true).0
