use Rattle.asm_text.specs.Views.{source_view}
use Rattle.view_source_faults.proofs.Assembled.{code_made, code_refused}
use Rattle.view_source_faults.proofs.sources.asm_flaw.Goals as goal

pub returns-in-Ok : goal.returns-in-Ok
returns-in-Ok c =
    code_made c.args.version c.args.bound _ (source_view c.args.source.now) _ c.in-Ok.ensures.exact

pub returns-in-Err-At : goal.returns-in-Err-At
returns-in-Err-At c =
    let read = rw c.in-Err-At.field-0-is at c.in-Err-At.ensures.exact in
    code_refused c.args.version c.args.bound _ (source_view c.args.source.now) c.in-Err-At.flaw read
