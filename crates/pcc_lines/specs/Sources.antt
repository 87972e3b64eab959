-- Lines of a source, and what is written of it.
use Rattle.std.specs.Prelude.{ℕ, List, ◌++◌, codes, decimal}

-- the number of a source's line that is wrong, and the name of what is wrong with it
unfoldable pub source_fault_line : ℕ → List ℕ → List ℕ
source_fault_line number kind = codes "line " ++ (decimal number ++ (codes " " ++ (kind ++ codes "\n")))

-- how many bytes were written
unfoldable pub written_line : ℕ → List ℕ
written_line count = codes "written " ++ (decimal count ++ codes "\n")
