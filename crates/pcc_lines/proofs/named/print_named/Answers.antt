use Rattle.file_port.proofs.PutLemmas.{part_fails, rest_fails, puts_then}
use Rattle.pcc_lines.proofs.named.print_named.Goals as goal

pub returns-in-Failed : goal.returns-in-Failed
returns-in-Failed g c = part_fails _ c.in-Failed.ensures

pub returns-in-Failed-print_text : goal.returns-in-Failed-print_text
returns-in-Failed-print_text g c = rest_fails c.args.text.now c.in-Done.ensures (part_fails _ c.in-Failed-print_text.ensures)

pub returns : goal.returns
returns g c = puts_then c.args.text.now _ _ _ _ c.print_text-3.result c.in-Done.ensures (puts_then c.args.name.now _ _ _ _ c.print_text-3.result c.in-Done-print_text.ensures c.print_text-3.ensures)
