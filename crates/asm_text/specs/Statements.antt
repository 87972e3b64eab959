-- The lines of a source: `[label:] [statement]`, and a comment from `#` on.
use Rattle.std.specs.Prelude.{◌≡◌, ℕ, ◌≤◌, Bool, true, false, ◌||◌, ◌&&◌, ◌==◌, nat_le, if◌then◌else◌, List, [], ◌∷◌, ◌++◌, codes, length, Option, Some, None}
use Rattle.word_ops.specs.declared.Profile.{Profile}
use Rattle.formula_tree.specs.Formulas.{Form}
use Rattle.text_tokens.specs.Tokens.{Token, goes_on, Consists}
use Rattle.formula_text.specs.Grammar.{Spells}
use Rattle.asm_text.specs.declared.limits.TheConstants.{MAX_LINE}
use Rattle.asm_text.specs.declared.marks.Punct.{Punct}
use Rattle.asm_text.specs.Marks.{source_class, AreBlanks}
use Rattle.asm_text.specs.Labels.{is_label}
use Rattle.asm_text.specs.Insns.{SourceInsn, SpellsInsn}

-- what a line says behind its label: nothing, an instruction, or an invariant of the next one
pub data Statement : Type 0 where
  NoStatement : Statement
  AnInsn : SourceInsn → Statement
  AnInv : Form → Statement

-- what a line says
pub record Content : Type 0 where
  pub label : Option (List ℕ)
  pub statement : Statement

-- the text begins with `.inv`, and goes on so
abbrev pub HasInv : List ℕ → List ℕ → Type 0
HasInv text rest = (bs : List ℕ) × AreBlanks bs × (goes_on source_class rest ≡ false) × (text ≡ bs ++ (codes ".inv" ++ rest))

-- The text spells the statement. An invariant is `.inv` and a formula to the end of the line; the
-- flag says whether it may name the steps that are left.
abbrev pub SpellsStatement : Profile → Bool → Statement → List ℕ → Type 0
SpellsStatement profile left NoStatement text = Consists source_class text []
SpellsStatement profile left (AnInsn i) text =
    (ts : List (Token Punct)) × Consists source_class text ts × SpellsInsn profile i ts
SpellsStatement profile left (AnInv F) text =
    (rest : List ℕ) × HasInv text rest × Spells profile left rest F

-- the text begins with the label and its colon, and goes on so
abbrev pub HasLabel : List ℕ → List ℕ → List ℕ → Type 0
HasLabel text l rest = (bs cs : List ℕ) × AreBlanks bs × AreBlanks cs × (is_label l ≡ true) × (text ≡ bs ++ (l ++ (cs ++ (58 ∷ rest))))

-- the text spells a label with its colon, if there is one, and the statement
abbrev pub SpellsBody : Profile → Bool → Option (List ℕ) → Statement → List ℕ → Type 0
SpellsBody profile left None s text = SpellsStatement profile left s text
SpellsBody profile left (Some l) s text =
    (rest : List ℕ) × HasLabel text l rest × SpellsStatement profile left s rest

-- what stands before `#`
abbrev pub before_comment : List ℕ → List ℕ
before_comment [] = []
before_comment (b ∷ bs) = if b == 35 then [] else b ∷ before_comment bs

-- a tab, or from blank to tilde
abbrev pub is_printable : ℕ → Bool
is_printable b = b == 9 || (nat_le 32 b && nat_le b 126)

-- tabs, and bytes from the blank to the tilde
abbrev pub are_printable : List ℕ → Bool
are_printable [] = true
are_printable (b ∷ bs) = is_printable b && are_printable bs

-- the line says this
pub record SpellsLine (profile : Profile) (left : Bool) (line : List ℕ) (c : Content) : Type 0 where
  pub short : length line ≤ MAX_LINE
  pub printable : are_printable line ≡ true
  pub body : SpellsBody profile left c.label c.statement (before_comment line)
