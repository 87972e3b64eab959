-- Lines with a name.
use Rattle.std.specs.Prelude.{ℕ, List, ◌++◌, codes}

-- a text, a name, and the line's end
abbrev pub named_line : List ℕ → List ℕ → List ℕ
named_line text name = text ++ (name ++ codes "\n")

-- there is no file of the name
abbrev pub missing_line : List ℕ → List ℕ
missing_line name = named_line (codes "missing ") name

-- the read of the file failed
abbrev pub read_fault_line : List ℕ → List ℕ
read_fault_line name = named_line (codes "read fault ") name

-- the write of the file failed
abbrev pub write_fault_line : List ℕ → List ℕ
write_fault_line name = named_line (codes "write fault ") name
