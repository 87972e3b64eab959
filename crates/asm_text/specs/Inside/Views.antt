-- What the parser keeps, without addresses, and what its answers say.
use Rattle.std.specs.Prelude.{◌≡◌, ℕ, ◌<◌, ◌≤◌, ◌^◌, Bool, List, length, Option, Some, None, Result, Ok, Err}
use Rattle.std.specs.List.{list_any}
use Rattle.std.specs.Str.{bytes_eq}
use Rattle.formula_tree.specs.Views.{form_view}
use Rattle.text_tokens.specs.declared.numbers.Number.{Number}
use Rattle.text_tokens.specs.declared.numbers.Number.TheVariants as N
use Rattle.asm_text.specs.declared.fault.LineFlaw.{LineFlaw}
use Rattle.asm_text.specs.declared.fault.Refused.{Refused}
use Rattle.asm_text.specs.declared.fault.Refused.TheVariants as V
use Rattle.asm_text.specs.declared.statements.Statement as said
use Rattle.asm_text.specs.declared.statements.Statement.TheVariants as S
use Rattle.asm_text.specs.declared.progress.Progress as progress
use Rattle.asm_text.specs.declared.fault.LineFault.{LineFault}
use Rattle.asm_text.specs.declared.fault.LineFault.TheVariants as F
use Rattle.asm_text.specs.declared.limits.TheConstants.{MAX_INSNS}
use Rattle.asm_text.specs.Integers.{Integer}
use Rattle.asm_text.specs.Statements.{Statement, NoStatement, AnInsn, AnInv}
use Rattle.asm_text.specs.SourceParsing.{Progress, is_known}
use Rattle.asm_text.specs.Views.{source_insn_view, source_view}

-- which integer a lexeme is, if it is one, and whether it is a word
abbrev pub IsIntegerAnswer : Option Integer → Bool → Number → Type 0
IsIntegerAnswer integer minus N.NoNumber = integer ≡ None
IsIntegerAnswer integer minus (N.Word n) = (integer ≡ Some (minus, n)) × (n < 2 ^ 64)
IsIntegerAnswer integer minus N.Large = (n : ℕ) × (integer ≡ Some (minus, n)) × (2 ^ 64 ≤ n)

-- an answer, seen by view, is what the function yields
abbrev pub Yields : {X Y : Type 0} → (X → Y) → Result Y LineFlaw → Result X LineFlaw → Type 0
Yields view read (Ok x) = read ≡ Ok (view x)
Yields view read (Err flaw) = read ≡ Err flaw

-- the same of a call that takes memory; want of memory says nothing
abbrev pub YieldsOrMemory : {X Y : Type 0} → (X → Y) → Result Y LineFlaw → Result X Refused → Type 0
YieldsOrMemory view read (Ok x) = read ≡ Ok (view x)
YieldsOrMemory view read (Err (V.Flaw flaw)) = read ≡ Err flaw
YieldsOrMemory view read (Err V.Memory) = Unit {0}

-- a statement without addresses
abbrev pub statement_view : said.Statement → Statement
statement_view S.NoStatement = NoStatement
statement_view (S.Insn i) = AnInsn (source_insn_view i)
statement_view (S.Inv F) = AnInv (form_view F)

-- what has been read, without addresses
abbrev pub progress_view : progress.Progress → Progress
progress_view p = record { source = source_view p.source; waiting = p.waiting }

-- there is room for the index of the next instruction, and the texts that are found fast are those of the labels
pub record IsSoundProgress (p : progress.Progress) : Type 0 where
  pub few : length p.source.insns.items ≤ MAX_INSNS
  pub known : (l : List ℕ) → list_any (λ k. bytes_eq l k.now) p.known.keys ≡ is_known (source_view p.source).labels l

-- the source is taken on, or the flaw is what the function gives; want of memory says nothing
abbrev pub TakesOn : {X : Type 0} → Result Progress LineFlaw → Progress → Result X Refused → Type 0
TakesOn taken new (Ok u) = taken ≡ Ok new
TakesOn taken new (Err (V.Flaw flaw)) = taken ≡ Err flaw
TakesOn taken new (Err V.Memory) = Unit {0}

-- the same of a line by its number
abbrev pub TakesOnLine : {X : Type 0} → ℕ → Result Progress LineFlaw → Progress → Result X LineFault → Type 0
TakesOnLine n taken new (Ok u) = taken ≡ Ok new
TakesOnLine n taken new (Err (F.At k flaw)) = (k ≡ n) × (taken ≡ Err flaw)
TakesOnLine n taken new (Err F.Memory) = Unit {0}
