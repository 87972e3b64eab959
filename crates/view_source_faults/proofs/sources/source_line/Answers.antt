use Rattle.std.proofs.Common.{◌++◌, ap, ◌∙◌}
use Rattle.std.specs.Prelude.{codes}
use Rattle.asm_text.specs.Views.{source_view}
use Rattle.view_source_faults.proofs.SourceSaid.{counted}
use Rattle.view_source_faults.proofs.sources.source_line.Goals as goal

pub returns : goal.returns
returns c =
    counted c.extend_from_slice.new.self.items c.push_count.new.out.items c.push_count-2.new.out.items c.push_count-3.new.out.items
    c.insn_count.result c.label_count.result c.inv_count.result (source_view c.args.source.now)
    (c.in_ok-extend_from_slice.ensures.items ∙ ap (λ l. l ++ codes "source: ") c.new-out.ensures.items)
    c.in_ok-push_count.ensures c.in_ok-push_count-2.ensures c.in_ok-push_count-3.ensures
    c.insn_count.ensures c.label_count.ensures c.inv_count.ensures
