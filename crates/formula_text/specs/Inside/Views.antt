-- What the parser keeps, without addresses, and what its answers say.
use Rattle.std.specs.Prelude.{◌≡◌, ℕ, List, map, reverse, Result, Ok, Err}
use Rattle.formula_tree.specs.Views.{exp_view, mem_exp_view, form_view}
use Rattle.formula_text.specs.declared.parts.Phrase as phrase
use Rattle.formula_text.specs.declared.parts.Phrase.TheVariants as P
use Rattle.formula_text.specs.declared.parsing.Frame as frame
use Rattle.formula_text.specs.declared.parsing.Expected as expected
use Rattle.formula_text.specs.declared.parsing.Expected.TheVariants as E
use Rattle.formula_text.specs.declared.fault.TextFlaw.{TextFlaw}
use Rattle.formula_text.specs.declared.fault.TokenFault.{TokenFault}
use Rattle.formula_text.specs.declared.fault.TokenFault.TheVariants as V
use Rattle.formula_text.specs.declared.fault.TextFault.{TextFault}
use Rattle.formula_text.specs.declared.fault.TextFault.TheVariants as F
use Rattle.formula_text.specs.Parsing.{Phrase, AForm, AnExp, AMem, Frame, Expected, Inside, Opened, Binding, Whole, ParseState}

-- a phrase without addresses
abbrev pub phrase_view : phrase.Phrase → Phrase
phrase_view (P.Form A) = AForm (form_view A)
phrase_view (P.Exp a) = AnExp (exp_view a)
phrase_view (P.Mem m) = AMem (mem_exp_view m)

-- open parentheses without addresses
abbrev pub frame_view : frame.Frame → Frame
frame_view f = record { keyword = f.keyword; name = f.name.now; parts = map phrase_view f.parts.items }

-- the open parentheses, the nearest first; in memory the nearest is the last
unfoldable pub frames_view : List frame.Frame → List Frame
frames_view fs = reverse (map frame_view fs)

-- what may come next, without addresses
abbrev pub expected_view : expected.Expected → Expected
expected_view E.Inside = Inside
expected_view (E.Opened q) = Opened q
expected_view (E.Binding k) = Binding k
expected_view (E.Whole A) = Whole (form_view A)

-- an answer for a lexeme is what the function gives; want of memory says nothing
abbrev pub IsLexemeAnswer : {X Y : Type 0} → (X → Y) → Result Y TextFlaw → Result X TokenFault → Type 0
IsLexemeAnswer view read (Ok x) = read ≡ Ok (view x)
IsLexemeAnswer view read (Err (V.Flaw flaw)) = read ≡ Err flaw
IsLexemeAnswer view read (Err V.Memory) = Unit {0}

-- what a token does to the open parentheses, and what may come then
abbrev pub Moves : Result ParseState TextFlaw → List Frame → Result expected.Expected TokenFault → Type 0
Moves read fs (Ok next) = read ≡ Ok (expected_view next, fs)
Moves read fs (Err (V.Flaw flaw)) = read ≡ Err flaw
Moves read fs (Err V.Memory) = Unit {0}

-- the same of a token at a position
abbrev pub MovesAt : ℕ → Result ParseState TextFlaw → List Frame → Result expected.Expected TextFault → Type 0
MovesAt at read fs (Ok next) = read ≡ Ok (expected_view next, fs)
MovesAt at read fs (Err (F.At p flaw)) = (p ≡ at) × (read ≡ Err flaw)
MovesAt at read fs (Err F.Memory) = Unit {0}
