-- Why there is no proof of a container.
use Rattle.std.specs.Prelude.{ℕ, List, ◌++◌, codes, decimal}

-- the number of the first part of the condition that isn't easy: 0 is the start's
unfoldable pub not_easy_line : ℕ → List ℕ
not_easy_line part = codes "not easy " ++ (decimal part ++ codes "\n")

-- the name of the first measure that is past its limit, and the measure
unfoldable pub too_big_line : List ℕ → ℕ → List ℕ
too_big_line name number = codes "too big " ++ (name ++ (codes " " ++ (decimal number ++ codes "\n")))
