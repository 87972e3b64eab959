-- Formulas with a short text.
use Rattle.std.specs.Prelude.{ℕ, nat_le, if◌then◌else◌, Option, Some, None, length}
use Rattle.formula_tree.specs.Formulas.{Form}
use Rattle.formula_text.specs.Printing.{form_text}

-- the formula, where its text has at most so many bytes
abbrev pub short_form : ℕ → Form → Option Form
short_form most F = if nat_le (length (form_text 0 F)) most then Some F else None
