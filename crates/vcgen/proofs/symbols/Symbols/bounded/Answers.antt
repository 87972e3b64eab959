use Rattle.std.proofs.Common.{◌∙◌, ap}
use Rattle.lf_signature.specs.Terms.{lit}
use Rattle.lf_encode.proofs.KeptRows.{ready-more}
use Rattle.vcgen.proofs.Walking.{left-after}
use Rattle.vcgen.specs.Symbols.{ids_of}
use Rattle.vcgen.proofs.symbols.Symbols.bounded.Goals as goal

pub with_left-requires-clause-ready : goal.with_left-requires-clause-ready
with_left-requires-clause-ready c = ready-more c.args.table.now c.intern.new.self (ids_of c.args.self.now) c.requires c.in_ok-all.ensures.extends

pub returns-clause-after : goal.returns-clause-after
returns-clause-after c =
    left-after c.args.table.now c.intern.new.self c.args.self.now c.with_left.result c.in_ok-all.all (lit c.args.bound) c.requires c.in_ok-all.ensures.extends (c.in_ok-all.ensures.id.1 ∙ ap lit c.from.ensures) c.with_left.ensures.ready c.with_left.ensures.terms
