-- What calls give, as definitions see it.
use Rattle.std.specs.Prelude.{ℕ, ◌≤◌, List, length}
use Rattle.formula_text.specs.declared.fault.TextFault.{TextFault}
use Rattle.formula_text.specs.declared.fault.TextFault.TheVariants as F
use Rattle.view_faults.specs.declared.marking.Limits as limits
use Rattle.view_faults.specs.declared.marking.Span as code
use Rattle.view_faults.specs.Marking.{Span, Limits}

-- a span as a place and a count
abbrev pub span_view : code.Span → Span
span_view s = (s.at, s.count)

-- limits as two numbers
abbrev pub limits_view : limits.Limits → Limits
limits_view l = (l.low, l.limit)

-- the place of the fault lies in the text or at its end
abbrev pub IsInText : List ℕ → TextFault → Type 0
IsInText text (F.At p flaw) = p ≤ length text
IsInText text F.Memory = Unit {0}
