-- Faults of scripts.
use Rattle.std.specs.Prelude.{ℕ, List, ◌++◌, codes, decimal}

-- the number of a script's line that is wrong, and the name of what is wrong with it
unfoldable pub script_fault_line : ℕ → List ℕ → List ℕ
script_fault_line number kind = codes "script " ++ (decimal number ++ (codes " " ++ (kind ++ codes "\n")))
