use Rattle.file_port.proofs.PutLemmas.{part_fails, rest_fails, puts_then}
use Rattle.pcc_lines.specs.Demo.{demo_code_line, demo_steps_line}
use Rattle.pcc_lines.proofs.demo.print_demo.Goals as goal

pub returns-in-Failed : goal.returns-in-Failed
returns-in-Failed g c = part_fails _ c.in-Failed.ensures

pub returns-in-Failed-print_steps : goal.returns-in-Failed-print_steps
returns-in-Failed-print_steps g c = rest_fails (demo_code_line c.args.summary.words c.args.summary.invariants) c.in-Done.ensures (part_fails _ c.in-Failed-print_steps.ensures)

pub returns : goal.returns
returns g c =
    let s = c.args.summary in
    puts_then (demo_code_line s.words s.invariants) _ _ _ _ c.print_ones.result c.in-Done.ensures (puts_then (demo_steps_line s.packets s.steps) _ _ _ _ c.print_ones.result c.in-Done-print_steps.ensures c.print_ones.ensures)
