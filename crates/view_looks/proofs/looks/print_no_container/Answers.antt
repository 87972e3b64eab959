use Rattle.pcc_gate.specs.declared.refusal.Refusal.TheVariants.{Malformed}
use Rattle.file_port.proofs.PutLemmas.{part_fails, puts_then}
use Rattle.pcc_lines.specs.Refusals.{refusal_line}
use Rattle.view_looks.proofs.looks.print_no_container.Goals as goal

pub returns-in-Done : goal.returns-in-Done
returns-in-Done g c =
    puts_then (refusal_line (Malformed c.args.offset c.args.flaw)) _ _ _ _ c.print_look.result
    c.in-Done.ensures c.print_look.ensures

pub returns-in-Failed : goal.returns-in-Failed
returns-in-Failed g c = part_fails _ c.in-Failed.ensures
