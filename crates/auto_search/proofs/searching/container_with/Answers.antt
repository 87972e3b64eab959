use Rattle.std.proofs.Common.{length}
use Rattle.auto_search.proofs.Remaking.{remade-kept}
use Rattle.auto_search.proofs.searching.container_with.Goals as goal

pub returns : goal.returns
returns c =
    remade-kept c.in_ok-out.out c.args.bytes.now (length c.deref.result.now) c.in_ok-out.ensures
