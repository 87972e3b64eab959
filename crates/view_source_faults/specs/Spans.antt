-- Where the mark of a fault stands in its line.
use Rattle.std.specs.Prelude.{ℕ, suc, ◌+◌, Bool, ◌||◌, ◌==◌, if◌then◌else◌, List, [], ◌∷◌, drop, Option, Some, None, option_and_then, Result, Ok, Err}
use Rattle.std.specs.Option.{option_map}
use Rattle.word_ops.specs.declared.Profile.{Profile}
use Rattle.formula_tree.specs.Formulas.{Form}
use Rattle.text_tokens.specs.Tokens.{Placed, token_length}
use Rattle.formula_text.specs.Parsing.{FaultAt, parsed_form}
use Rattle.asm_text.specs.declared.fault.LineFlaw.{LineFlaw}
use Rattle.asm_text.specs.declared.fault.LineFlaw.TheVariants as L
use Rattle.asm_text.specs.declared.marks.Punct.{Punct}
use Rattle.asm_text.specs.Statements.{is_printable}
use Rattle.pcc_asm.specs.declared.fault.AsmFlaw.{AsmFlaw}
use Rattle.pcc_asm.specs.declared.fault.AsmFlaw.TheVariants as A
use Rattle.view_faults.specs.Marking.{Span, Limits}
use Rattle.view_source_faults.specs.SourceLines.{statement_text, statement_place, statement_tokens}
use Rattle.view_source_faults.specs.WrongOperands.{wrong_operand, missed_operand, wanted_limits}

-- ---- bytes of a line

-- how many blanks and tabs a line begins with
abbrev pub blanks_before : List ℕ → ℕ
blanks_before [] = 0
blanks_before (b ∷ bs) = if b == 32 || b == 9 then suc (blanks_before bs) else 0

-- how many bytes stand before the first that isn't printable
abbrev pub printable_before : List ℕ → ℕ
printable_before [] = 0
printable_before (b ∷ bs) = if is_printable b then suc (printable_before bs) else 0

-- ---- tokens of a statement

-- the first of the tokens
abbrev pub first_token : List (Placed Punct) → Option Span
first_token [] = None
first_token (t ∷ ts) = Some (t.0, token_length t.1)

-- the place of the last of the tokens behind a place
abbrev pub last_place : ℕ → List (Placed Punct) → ℕ
last_place p [] = p
last_place p (t ∷ ts) = last_place t.0 ts

-- the place of the last of the tokens, where a branch has its label
abbrev pub last_token : List (Placed Punct) → Option Span
last_token [] = None
last_token (t ∷ ts) = Some (last_place t.0 ts, 0)

-- the place of a formula's fault, where the formula begins at a place
abbrev pub fault_behind : ℕ → Result Form FaultAt → Option Span
fault_behind place (Ok F) = None
fault_behind place (Err fault) = Some (place + fault.0, 0)

-- the place in an invariant where its formula, which stands behind the first token, is wrong
abbrev pub wrong_formula : Profile → Bool → List ℕ → List (Placed Punct) → Option Span
wrong_formula profile left text [] = None
wrong_formula profile left text (t ∷ ts) =
    fault_behind (t.0 + token_length t.1)
    (parsed_form profile left (drop (t.0 + token_length t.1) text))

-- a span of the line's statement as one of the line
abbrev pub span_in_line : List ℕ → Option Span → Option Span
span_in_line line span = option_map (λ s. (statement_place line + s.0, s.1)) span

-- ---- faults

-- the mark of what is wrong with a line, in a profile; the flag says whether invariants may name the
-- steps that are left
abbrev pub flaw_span : Profile → Bool → LineFlaw → List ℕ → Option Span
flaw_span profile left L.Character line = Some (printable_before line, 0)
flaw_span profile left L.Mnemonic line = span_in_line line (first_token (statement_tokens line))
flaw_span profile left L.Register line =
    span_in_line line (wrong_operand profile (statement_tokens line))
flaw_span profile left L.Range line =
    span_in_line line (wrong_operand profile (statement_tokens line))
flaw_span profile left L.Formula line =
    span_in_line line (wrong_formula profile left (statement_text line) (statement_tokens line))
flaw_span profile left flaw line = Some (blanks_before line, 0)

-- the numbers that are allowed in the place of one that is out of its range
abbrev pub flaw_limits : Profile → LineFlaw → List ℕ → Option Limits
flaw_limits profile L.Range line =
    option_and_then wanted_limits (missed_operand profile (statement_tokens line))
flaw_limits profile flaw line = None

-- the mark of what is wrong with a line that is assembled: the label of a branch that leads nowhere
-- or outside
abbrev pub asm_flaw_span : AsmFlaw → List ℕ → Option Span
asm_flaw_span (A.NoLabel n) line = span_in_line line (last_token (statement_tokens line))
asm_flaw_span (A.Target n) line = span_in_line line (last_token (statement_tokens line))
asm_flaw_span flaw line = Some (blanks_before line, 0)
