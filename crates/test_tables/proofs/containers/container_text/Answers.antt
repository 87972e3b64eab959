use Rattle.proof_container.proofs.Rewriting.{rewritable}
use Rattle.test_tables.proofs.containers.container_text.Goals as goal

pub view_text-requires : goal.view_text-requires
view_text-requires c = rewritable c.args.bytes.now c.in-Ok.container c.view-view.result c.in-Ok.ensures.decodes c.in-Ok.ensures.canonical c.view-view.ensures.shows
