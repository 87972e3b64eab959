use Rattle.view_source_faults.proofs.Codes.{code_told}
use Rattle.view_source_faults.proofs.code.code_of.Goals as goal

pub returns-in-Ok-lines_and_code : goal.returns-in-Ok-lines_and_code
returns-in-Ok-lines_and_code c =
    let a = c.args in
    let made = c.in-Ok-assemble in
    let s = c.in-Ok-lines_and_code in
    code_told a.version a.bound c.in-Ok.policy a.source.now made.assembled s.code.lines.items
    s.code.code.items made.ensures.exact s.ensures.0 s.ensures.1
