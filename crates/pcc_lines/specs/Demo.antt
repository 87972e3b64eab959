-- The lines of `demo`.
use Rattle.std.specs.Prelude.{ℕ, List, ◌++◌, codes, decimal}
use Rattle.pcc_lines.specs.declared.demo.DemoSummary.{DemoSummary}

-- a number behind what it counts
abbrev pub counted_text : List ℕ → ℕ → List ℕ
counted_text text number = text ++ decimal number

-- how many code words and invariants were accepted
unfoldable pub demo_code_line : ℕ → ℕ → List ℕ
demo_code_line words invariants = counted_text (codes "code ") words ++ (counted_text (codes " invariants ") invariants ++ codes " accepted\n")

-- how many packets were run, and the steps of all
unfoldable pub demo_steps_line : ℕ → ℕ → List ℕ
demo_steps_line packets steps = counted_text (codes "packets ") packets ++ (counted_text (codes " steps ") steps ++ codes "\n")

-- how many packets returned 1
unfoldable pub demo_ones_line : ℕ → List ℕ
demo_ones_line ones = counted_text (codes "ones ") ones ++ codes "\n"

-- the three lines
abbrev pub demo_lines : DemoSummary → List ℕ
demo_lines s = demo_code_line s.words s.invariants ++ (demo_steps_line s.packets s.steps ++ demo_ones_line s.ones)
