-- The names of the kinds of faults, as lines show them.
use Rattle.std.specs.Prelude.{ℕ, List, codes}
use Rattle.formula_text.specs.declared.fault.TextFlaw.{TextFlaw}
use Rattle.formula_text.specs.declared.fault.TextFlaw.TheVariants.{Shape, Name, Number, Trailing}

-- what is wrong with a text, in one name
abbrev pub text_flaw_name : TextFlaw → List ℕ
text_flaw_name Shape = codes "Shape"
text_flaw_name Name = codes "Name"
text_flaw_name Number = codes "Number"
text_flaw_name Trailing = codes "Trailing"
