-- Faults of policies from files.
use Rattle.std.specs.Prelude.{ℕ, List, ◌++◌, codes, decimal}

-- how many lines the file has in place of two
unfoldable pub policy_lines_line : ℕ → List ℕ
policy_lines_line count = codes "policy Lines " ++ (decimal count ++ codes "\n")

-- the number of a line that is too long
unfoldable pub policy_length_line : ℕ → List ℕ
policy_length_line number = codes "policy " ++ (decimal number ++ codes " Length\n")

-- the number of a line that spells no formula, the position of the first token in it that is wrong,
-- and the name of what is wrong there
unfoldable pub policy_form_line : ℕ → ℕ → List ℕ → List ℕ
policy_form_line number position kind =
    codes "policy " ++ (decimal number ++ (codes " " ++ (decimal position
    ++ (codes " " ++ (kind ++ codes "\n")))))
