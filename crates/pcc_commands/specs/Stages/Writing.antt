-- The stage that writes a file.
use Rattle.std.specs.Prelude.{ℕ, List, length, Some}
use Rattle.pcc_lines.specs.Sources.{written_line}
use Rattle.pcc_stages.specs.Stage.{Stage, gives}
use Rattle.pcc_stages.specs.Runs.{Effect}

-- it writes the bytes to the file of the name, and prints how many they are
abbrev pub writing : List ℕ → List ℕ → Stage Effect
writing name bytes = gives (record { text = written_line (length bytes); change = Some (name, bytes) })
