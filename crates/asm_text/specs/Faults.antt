-- What a fault means: the line at which a text stops being a source, and why, with no word of how a text is parsed.
use Rattle.std.specs.Prelude.{◌≡◌, ℕ, suc, ◌<◌, ◌≤◌, ◌⊎◌, Bool, true, false, List, [], ◌∷◌, ◌++◌, codes, length, Option, Some, None}
use Rattle.std.specs.List.{AllByRecursion}
use Rattle.std.specs.Str.{bytes_eq}
use Rattle.word_ops.specs.declared.Profile.{Profile}
use Rattle.formula_tree.specs.Formulas.{Form}
use Rattle.text_tokens.specs.Tokens.{Token, Mark, Lexeme, Consists}
use Rattle.formula_text.specs.Grammar.{Spells}
use Rattle.asm_text.specs.declared.fault.LineFlaw.{LineFlaw}
use Rattle.asm_text.specs.declared.fault.LineFlaw.TheVariants as L
use Rattle.asm_text.specs.declared.limits.TheConstants.{MAX_LINE, MAX_INSNS, MAX_INVS}
use Rattle.asm_text.specs.declared.marks.Punct.{Punct}
use Rattle.asm_text.specs.declared.mnemonics.Mnemonic.{Mnemonic}
use Rattle.asm_text.specs.Marks.{source_class}
use Rattle.asm_text.specs.Mnemonics.{mnemonic_text, has_mnemonic}
use Rattle.asm_text.specs.Operands.{AreNoOperands}
use Rattle.text_tokens.specs.Lines.{AreLines}
use Rattle.asm_text.specs.Statements.{Statement, NoStatement, AnInsn, AnInv, Content, HasLabel, HasInv, before_comment, are_printable, SpellsLine}
use Rattle.asm_text.specs.Sources.{Source, AreSpelled, source_of, AreDistinct, HaveInsns, SpellsSource}

-- ---- the lines before

-- what makes what was collected the beginning of a source: the last invariant may be one of the next instruction
pub record IsBegun (s : Source) : Type 0 where
  pub insns : length s.insns ≤ MAX_INSNS
  pub invs : length s.invs ≤ MAX_INVS
  pub labels : AreDistinct s.labels
  pub belong : HaveInsns 0 (suc (length s.insns)) s.invs

-- the last invariant is one of the next instruction
abbrev pub Waits : Source → Type 0
Waits s = (vs : List (ℕ × Form)) × (F : Form) × (s.invs ≡ vs ++ ((length s.insns, F) ∷ []))

-- no label of the source is this one, if there is one
abbrev pub IsNew : Option (List ℕ) → Source → Type 0
IsNew None s = Unit {0}
IsNew (Some l) s = AllByRecursion (λ k. bytes_eq k.0 l ≡ false) s.labels

-- ---- a line behind them

-- the line is no longer than a line may be, and each byte is a tab or from the blank to the tilde
pub record IsReadable (line : List ℕ) : Type 0 where
  pub short : length line ≤ MAX_LINE
  pub printable : are_printable line ≡ true

-- the text has this label, if any, and this stands behind it
abbrev pub IsParted : List ℕ → Option (List ℕ) → List ℕ → Type 0
IsParted text None rest = (text ≡ rest) × ((l more : List ℕ) → HasLabel text l more → ⊥)
IsParted text (Some l) rest = HasLabel text l rest

-- the token begins no statement: it is neither `.inv` nor a mnemonic of the profile
abbrev pub BeginsNoStatement : Profile → Token Punct → Type 0
BeginsNoStatement profile (Mark m) = Unit {0}
BeginsNoStatement profile (Lexeme w) = (w ≡ codes ".inv" → ⊥) × ((m : Mnemonic) → has_mnemonic profile m ≡ true → w ≡ mnemonic_text m → ⊥)

-- The text spells no statement, and why: no formula stands behind `.inv`, the first token begins none, or the tokens behind the
-- profile's mnemonic are not its operands.
pub data SpellsNoStatement (profile : Profile) (left : Bool) (text : List ℕ) : LineFlaw → Type 0 where
  no_formula : {rest : List ℕ} → HasInv text rest →
      ((F : Form) → Spells profile left rest F → ⊥) → SpellsNoStatement profile left text L.Formula
  no_mnemonic : {t : Token Punct} {ts : List (Token Punct)} → Consists source_class text (t ∷ ts) →
      BeginsNoStatement profile t → SpellsNoStatement profile left text L.Mnemonic
  no_operands : (m : Mnemonic) {ts : List (Token Punct)} {flaw : LineFlaw} → has_mnemonic profile m ≡ true →
      Consists source_class text (Lexeme (mnemonic_text m) ∷ ts) → AreNoOperands m ts flaw → SpellsNoStatement profile left text flaw

-- the statement is an invariant
abbrev pub IsInv : Statement → Type 0
IsInv NoStatement = ⊥
IsInv (AnInsn i) = ⊥
IsInv (AnInv F) = Unit {0}

-- with the statement there are more instructions, or more invariants, than a source may have
abbrev pub PassesLimit : Statement → Source → Type 0
PassesLimit NoStatement s = ⊥
PassesLimit (AnInsn i) s = MAX_INSNS ≤ length s.insns
PassesLimit (AnInv F) s = MAX_INVS ≤ length s.invs

-- The line can't stand behind lines that come to s, and why. Each kind asks that those before it don't apply.
pub data FailsBehind (profile : Profile) (left : Bool) (s : Source) (line : List ℕ) : LineFlaw → Type 0 where
  long : MAX_LINE < length line → FailsBehind profile left s line L.Length
  unprintable : length line ≤ MAX_LINE → are_printable line ≡ false → FailsBehind profile left s line L.Character
  label_again : (l rest : List ℕ) → IsReadable line → HasLabel (before_comment line) l rest → (IsNew (Some l) s → ⊥) → FailsBehind profile left s line L.DoubleLabel
  no_statement : (o : Option (List ℕ)) (rest : List ℕ) {flaw : LineFlaw} →
      IsReadable line → IsParted (before_comment line) o rest → IsNew o s → SpellsNoStatement profile left rest flaw → FailsBehind profile left s line flaw
  inv_again : {c : Content} → SpellsLine profile left line c → IsNew c.label s → IsInv c.statement → Waits s → FailsBehind profile left s line L.DoubleInvariant
  past_limit : {c : Content} → SpellsLine profile left line c → IsNew c.label s → (IsInv c.statement → Waits s → ⊥) →
      PassesLimit c.statement s → FailsBehind profile left s line L.Length

-- ---- the text

-- line n of the text can't stand behind the lines before it, which begin a source
pub record FailsAt (profile : Profile) (left : Bool) (text : List ℕ) (n : ℕ) (flaw : LineFlaw) : Type 0 where
  pub front : List (List ℕ)
  pub line : List ℕ
  pub rest : List (List ℕ)
  pub contents : List Content
  pub lines : AreLines text (front ++ (line ∷ rest))
  pub number : n ≡ suc (length front)
  pub spelled : AreSpelled profile left front contents
  pub begun : IsBegun (source_of contents)
  pub fails : FailsBehind profile left (source_of contents) line flaw

-- All lines of the text begin a source, and the text is none: behind the invariant of line n stands no instruction, or there is
-- neither an instruction nor an invariant, and n is 0.
pub data Lacks (profile : Profile) (left : Bool) (text : List ℕ) : ℕ → LineFlaw → Type 0 where
  loose : {lines : List (List ℕ)} (front rest : List Content) (c : Content) → AreLines text lines → AreSpelled profile left lines (front ++ (c ∷ rest)) →
      IsBegun (source_of (front ++ (c ∷ rest))) → IsInv c.statement → (source_of rest).insns ≡ [] → Lacks profile left text (suc (length front)) L.LooseInvariant
  empty : {lines : List (List ℕ)} (contents : List Content) → AreLines text lines → AreSpelled profile left lines contents →
      IsBegun (source_of contents) → (source_of contents).insns ≡ [] → (source_of contents).invs ≡ [] → Lacks profile left text 0 L.Length

-- the text is no source, the first line that is wrong is line n, and this is why
abbrev pub IsSourceFault : Profile → Bool → List ℕ → ℕ → LineFlaw → Type 0
IsSourceFault profile left text n flaw =
    FailsAt profile left text n flaw ⊎ Lacks profile left text n flaw

-- no source's text begins with these lines
abbrev pub BeginsNoSource : Profile → Bool → List (List ℕ) → Type 0
BeginsNoSource profile left lines =
    (text : List ℕ) (more : List (List ℕ)) (s : Source) → AreLines text (lines ++ more)
    → SpellsSource profile left text s → ⊥
