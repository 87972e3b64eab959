use Rattle.std.proofs.Common.{ℕ, List, Option, sym, ◌∙◌, ap}
use Rattle.view_trace.specs.Traces.{packet_text}
use Rattle.pcc_stages.specs.Runs.{done_exit}
use Rattle.pcc_stages.specs.Stage.{gives}
use Rattle.view_cli.specs.Commands.Packet.{traced_exit}
use Rattle.view_cli.proofs.commands.packet.traced.Goals as goal

pub returns-in-Ok-new : goal.returns-in-Ok-new
returns-in-Ok-new c =
    let a = c.args in
    ap (λ (o : Option (List ℕ)). gives (traced_exit a.policy a.code a.steps a.number o))
    (sym c.in-Some.ensures.exact)
    ∙ ap (λ (b : List ℕ). gives (done_exit (packet_text a.policy a.code a.steps a.number b)))
    (sym c.in-Ok.ensures.items)
    ∙ ap
    (λ (f : ℕ → List ℕ → List ℕ). gives (done_exit (f a.number c.in-Ok.packet.items)))
    (sym c.in-Ok-new.ensures)
