-- What is said of a text that is to spell a formula.
use Rattle.std.specs.Prelude.{ℕ, suc, ◌-◌, Bool, true, false, ◌==◌, if◌then◌else◌, List, [], ◌∷◌, ◌++◌, codes, decimal, length, take, drop, reverse}
use Rattle.std.specs.Prelude.{slice_index, Some, None, Result, Ok, Err}
use Rattle.word_ops.specs.declared.Profile.{Profile}
use Rattle.formula_tree.specs.Formulas.{Form}
use Rattle.formula_text.specs.Names.{text_flaw_name}
use Rattle.formula_text.specs.Parsing.{FaultAt, parsed_form}
use Rattle.formula_text.specs.Printing.{form_text}
use Rattle.view_faults.specs.Marking.{marked_line}

-- ---- the line of a place

-- how many bytes stand before the first LF, or before the end
abbrev pub before_lf : List ℕ → ℕ
before_lf [] = 0
before_lf (b ∷ bs) = if b == 10 then 0 else suc (before_lf bs)

-- what stands behind the last LF
abbrev pub last_line : List ℕ → List ℕ
last_line text = drop (length text - before_lf (reverse text)) text

-- what stands before the first LF
abbrev pub first_line : List ℕ → List ℕ
first_line text = take (before_lf text) text

-- the line in which a place lies, without its LF
abbrev pub line_around : List ℕ → ℕ → List ℕ
line_around text place = last_line (take place text) ++ first_line (drop place text)

-- how many bytes of that line stand before the place
abbrev pub column_of : List ℕ → ℕ → ℕ
column_of text place = before_lf (reverse (take place text))

-- ---- reports

-- the text without the LF at its end, if there is one
abbrev pub without_lf : List ℕ → List ℕ
without_lf text =
    if slice_index text (length text - 1) == 10 then take (length text - 1) text else text

-- the position of the first token that is wrong, and the name of what is wrong with it
unfoldable pub form_fault_line : ℕ → List ℕ → List ℕ
form_fault_line position kind =
    codes "form " ++ (decimal position ++ (codes " " ++ (kind ++ codes "\n")))

-- the formula as it is printed
unfoldable pub formula_line : Form → List ℕ
formula_line F = codes "formula " ++ (form_text 0 F ++ codes "\n")

-- a fault, and the line in which it lies, with a mark under its place
abbrev pub form_fault_text : List ℕ → FaultAt → List ℕ
form_fault_text text fault =
    form_fault_line fault.0 (text_flaw_name fault.1)
    ++ marked_line (line_around text fault.0) (Some (column_of text fault.0, 0)) None

-- what is said of a text, by what it is parsed as
abbrev pub report_of_form : List ℕ → Result Form FaultAt → Bool × List ℕ
report_of_form text (Ok F) = (true, formula_line F)
report_of_form text (Err fault) = (false, form_fault_text text fault)

-- Whether the text spells a formula over the operators of the profile, and what is said of it; the flag
-- says whether it may name the steps that are left. An LF at the text's end doesn't count.
unfoldable pub formula_report : Profile → Bool → List ℕ → Bool × List ℕ
formula_report profile left text =
    report_of_form (without_lf text) (parsed_form profile left (without_lf text))
