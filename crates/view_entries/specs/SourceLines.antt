-- Lines of a source that stands beside a container.
use Rattle.std.specs.Prelude.{ℕ, List, [], ◌++◌, codes, decimal, Option, Some, None}

-- the line of a source, where it is known
abbrev pub source_place : Option ℕ → List ℕ
source_place None = []
source_place (Some n) = codes " line " ++ decimal n
