-- Parsing a text as a source, line by line. The first line that is wrong, and the first test that it fails, is the fault.
use Rattle.std.specs.Prelude.{ℕ, suc, Bool, false, not, ◌&&◌, ◌||◌, ◌==◌, nat_lt, if◌then◌else◌, List, [], ◌∷◌, ◌++◌, codes, length, Option, Some, None, Result, Ok, Err}
use Rattle.std.specs.Option.{option_map}
use Rattle.std.specs.Str.{bytes_eq}
use Rattle.word_ops.specs.declared.Profile.{Profile}
use Rattle.formula_tree.specs.Formulas.{Form}
use Rattle.text_tokens.specs.Tokens.{Token, Mark, Lexeme, tokens_of, front_token}
use Rattle.formula_text.specs.declared.fault.TextFlaw.{TextFlaw}
use Rattle.term_table.specs.Steps.{◌>>=◌}
use Rattle.formula_text.specs.Parsing.{parsed_form}
use Rattle.asm_text.specs.declared.fault.LineFlaw.{LineFlaw}
use Rattle.asm_text.specs.declared.fault.LineFlaw.TheVariants as L
use Rattle.asm_text.specs.declared.limits.TheConstants.{MAX_LINE, MAX_INSNS, MAX_INVS}
use Rattle.asm_text.specs.declared.marks.Punct.{Punct}
use Rattle.asm_text.specs.declared.marks.Punct.TheVariants as M
use Rattle.asm_text.specs.Marks.{source_class, same_mark}
use Rattle.asm_text.specs.Labels.{is_label}
use Rattle.asm_text.specs.InsnParsing.{parsed_insn}
use Rattle.text_tokens.specs.Lines.{lines_of}
use Rattle.asm_text.specs.Statements.{Statement, NoStatement, AnInsn, AnInv, before_comment, are_printable}
use Rattle.asm_text.specs.Sources.{Source}

-- ---- a line

-- a label whose colon stands next, and what is behind the colon
abbrev pub colon_by : List ℕ → Option (Token Punct × List ℕ) → Option (List ℕ × List ℕ)
colon_by l (Some (Mark m, rest)) = if same_mark m M.Colon && is_label l then Some (l, rest) else None
colon_by l next = None

-- the same, by the first token
abbrev pub label_by : Option (Token Punct × List ℕ) → Option (List ℕ × List ℕ)
label_by (Some (Lexeme l, rest)) = colon_by l (front_token source_class rest)
label_by first = None

-- the label at the front, if there is one, and what is behind its colon
unfoldable pub label_split : List ℕ → Option (List ℕ × List ℕ)
label_split text = label_by (front_token source_class text)

-- the label that was found
abbrev pub label_of : Option (List ℕ × List ℕ) → Option (List ℕ)
label_of split = option_map (λ p. p.0) split

-- what is behind the label
abbrev pub behind_label : List ℕ → Option (List ℕ × List ℕ) → List ℕ
behind_label text None = text
behind_label text (Some p) = p.1

-- an invariant, by what its text is parsed as
abbrev pub inv_or_flaw : Result Form (ℕ × TextFlaw) → Result Statement LineFlaw
inv_or_flaw (Ok F) = Ok (AnInv F)
inv_or_flaw (Err e) = Err L.Formula

-- an instruction
abbrev pub insn_statement : Profile → List ℕ → Result Statement LineFlaw
insn_statement profile text = parsed_insn profile (tokens_of source_class text) >>= λ i. Ok (AnInsn i)

-- a statement, by the first token
abbrev pub statement_by : Profile → Bool → List ℕ → Option (Token Punct × List ℕ)
    → Result Statement LineFlaw
statement_by profile left text None = Ok NoStatement
statement_by profile left text (Some (Mark m, rest)) = Err L.Mnemonic
statement_by profile left text (Some (Lexeme w, rest)) =
    if bytes_eq w (codes ".inv") then inv_or_flaw (parsed_form profile left rest)
    else insn_statement profile text

-- the statement of a line, behind its label
unfoldable pub parsed_statement : Profile → Bool → List ℕ → Result Statement LineFlaw
parsed_statement profile left text = statement_by profile left text (front_token source_class text)

-- ---- the lines in order

-- what has been read; waiting is the line of an invariant whose instruction is still to come
pub record Progress : Type 0 where
  pub source : Source
  pub waiting : Option ℕ

-- whether the label is one of these
abbrev pub is_known : List (List ℕ × ℕ) → List ℕ → Bool
is_known [] l = false
is_known (x ∷ xs) l = bytes_eq x.0 l || is_known xs l

-- a label in front of the next instruction
abbrev pub take_label : Option (List ℕ) → Progress → Result Progress LineFlaw
take_label None p = Ok p
take_label (Some l) p =
    if is_known p.source.labels l then Err L.DoubleLabel else
    Ok (record { source = record { insns = p.source.insns; labels = p.source.labels ++ ((l, length p.source.insns) ∷ []); invs = p.source.invs }; waiting = p.waiting })

-- an invariant at line n
abbrev pub take_inv : ℕ → Form → Progress → Option ℕ → Result Progress LineFlaw
take_inv n F p (Some m) = Err L.DoubleInvariant
take_inv n F p None =
    if nat_lt (length p.source.invs) MAX_INVS then
    Ok (record { source = record { insns = p.source.insns; labels = p.source.labels; invs = p.source.invs ++ ((length p.source.insns, F) ∷ []) }; waiting = Some n })
    else Err L.Length

-- a statement of line n
abbrev pub take_statement : ℕ → Statement → Progress → Result Progress LineFlaw
take_statement n NoStatement p = Ok p
take_statement n (AnInsn i) p =
    if nat_lt (length p.source.insns) MAX_INSNS then
    Ok (record { source = record { insns = p.source.insns ++ ((n, i) ∷ []); labels = p.source.labels; invs = p.source.invs }; waiting = None })
    else Err L.Length
take_statement n (AnInv F) p = take_inv n F p p.waiting

-- what stands behind the label of line n
abbrev pub take_text : Profile → Bool → ℕ → List ℕ → Progress → Result Progress LineFlaw
take_text profile left n text p = parsed_statement profile left text >>= λ s. take_statement n s p

-- what stands before the comment of line n
abbrev pub take_body : Profile → Bool → ℕ → List ℕ → Progress → Result Progress LineFlaw
take_body profile left n body p =
    take_label (label_of (label_split body)) p >>= λ q.
    take_text profile left n (behind_label body (label_split body)) q

-- line n
unfoldable pub take_line : Profile → Bool → ℕ → List ℕ → Progress → Result Progress LineFlaw
take_line profile left n line p =
    if nat_lt MAX_LINE (length line) then Err L.Length else
    if not (are_printable line) then Err L.Character else
    take_body profile left n (before_comment line) p

-- a flaw with its line
abbrev pub at_line : {A : Type 0} → ℕ → Result A LineFlaw → Result A (ℕ × LineFlaw)
at_line n (Ok x) = Ok x
at_line n (Err flaw) = Err (n, flaw)

-- the source behind the last line
abbrev pub source_end : Progress → Option ℕ → Result Source (ℕ × LineFlaw)
source_end p (Some n) = Err (n, L.LooseInvariant)
source_end p None = if length p.source.insns == 0 then Err (0, L.Length) else Ok p.source

-- the lines from line n on
unfoldable pub take_lines : Profile → Bool → ℕ → List (List ℕ) → Progress
    → Result Source (ℕ × LineFlaw)
take_lines profile left n [] p = source_end p p.waiting
take_lines profile left n (l ∷ ls) p =
    at_line n (take_line profile left n l p) >>= λ q. take_lines profile left (suc n) ls q

-- nothing read yet
abbrev pub no_progress : Progress
no_progress = record { source = record { insns = []; labels = []; invs = [] }; waiting = None }

-- The profile's source that the text is parsed as, or the number of the first line that is wrong
-- and what is wrong with it. The flag says whether invariants may name the steps that are left.
unfoldable pub parsed_source : Profile → Bool → List ℕ → Result Source (ℕ × LineFlaw)
parsed_source profile left text = take_lines profile left 1 (lines_of text) no_progress
