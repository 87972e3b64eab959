use Rattle.std.proofs.Common.{sym, ap, ◌∙◌}
use Rattle.alpha_cfg.specs.Actions.{format_action}
use Rattle.view_trace.specs.Inside.Written.{register_written, memory_written}
use Rattle.view_trace.proofs.ChangeLemmas.{memory-written}
use Rattle.view_trace.proofs.changes.register_written.Goals as goal

pub returns-in-Memory : goal.returns-in-Memory
returns-in-Memory c =
    c.memory_written.ensures ∙ ap (λ k. memory_written k c.in-Memory.ra) c.memory_kind.ensures
    ∙ sym (memory-written c.in-Memory.op c.in-Memory.ra c.in-Memory.rb c.in-Memory.disp)
    ∙ ap (λ f. register_written (format_action f)) (sym c.in-Memory.is ∙ c.format.ensures)
