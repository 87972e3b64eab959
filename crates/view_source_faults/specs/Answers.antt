-- What the answer of `source_code` says.
use Rattle.std.specs.Prelude.{◌≡◌, Result, Ok, Err}
use Rattle.asm_text.specs.Names.{line_flaw_name}
use Rattle.pcc_asm.specs.Names.{asm_flaw_line, asm_flaw_name}
use Rattle.view_source_faults.specs.declared.code.SourceCode.{SourceCode}
use Rattle.view_source_faults.specs.declared.code.CodeFault.{CodeFault}
use Rattle.view_source_faults.specs.declared.code.CodeFault.TheVariants as fault
use Rattle.view_source_faults.specs.SourceCode.{LinesAndCode, WrongLine}

-- the code that there is, or the line that is wrong; out of memory says nothing
abbrev pub IsSourceCode : Result LinesAndCode WrongLine → Result SourceCode CodeFault → Type 0
IsSourceCode told (Ok s) = told ≡ Ok (s.lines.items, s.code.items)
IsSourceCode told (Err (fault.Line n flaw)) = told ≡ Err (n, line_flaw_name flaw)
IsSourceCode told (Err (fault.Assembling flaw)) = told ≡ Err (asm_flaw_line flaw, asm_flaw_name flaw)
IsSourceCode told (Err fault.Memory) = Unit {0}
