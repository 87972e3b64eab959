-- The lines that don't come from what files hold.
use Rattle.std.specs.Prelude.{ℕ, List}
use Rattle.pcc_lines.specs.Fixed.{usage_line, unknown_policy_line}
use Rattle.pcc_lines.specs.Named.{missing_line, read_fault_line, write_fault_line}
use Rattle.pcc_stages.specs.Requests.{Texts}

-- those of a program with this line of usage
abbrev pub texts_with : List ℕ → Texts
texts_with usage = record {
  usage = usage;
  unknown_policy = unknown_policy_line;
  missing = missing_line;
  read_fault = read_fault_line;
  write_fault = write_fault_line;
}

-- those of pcc
abbrev pub texts : Texts
texts = texts_with usage_line
