use Rattle.std.proofs.Common.{subst}
use Rattle.lf_encode.proofs.KeptRows.{ready-more, ready-same}
use Rattle.vcgen.specs.WalkTree.{one_less}
use Rattle.vcgen.specs.Symbols.{ids_of, StandFor}
use Rattle.vcgen.proofs.effects.counted_step.Goals as goal

pub one_less-requires : goal.one_less-requires
one_less-requires c = ready-more c.args.table.now c.one_left.new.table (ids_of c.args.symbols.now) c.requires.ready c.in_ok-allowed.ensures.extends

pub returns-clause-after : goal.returns-clause-after
returns-clause-after c =
    let t = c.args.table.now in
    let u = c.one_left.new.table in
    let same = ready-same t u (ids_of c.args.symbols.now) c.requires.ready c.in_ok-allowed.ensures.extends in
    subst (λ p. StandFor c.one_less.new.table c.in_ok-after.after (one_less p)) same c.in_ok-after.ensures.after
