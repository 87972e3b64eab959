-- Code with its invariants as the text of a source: for each index in order a line with its label,
-- where a branch goes there, a line with its invariant, where it has one, and a line with its
-- instruction and a comment; behind them lines of notes.
use Rattle.std.specs.Prelude.{ℕ, ◌+◌, Bool, true, false, ◌==◌, if◌then◌else◌, List, [], ◌∷◌, ◌++◌, codes, decimal, map}
use Rattle.std.specs.Prelude.{slice_index_or, Option, Some, None}
use Rattle.formula_tree.specs.Formulas.{Form}
use Rattle.formula_text.specs.Printing.{form_text}
use Rattle.alpha_words.specs.declared.insn.Insn.{Insn}
use Rattle.alpha_words.specs.declared.insn.Insn.TheVariants.{Ret}
use Rattle.asm_text.specs.Statements.{NoStatement, AnInsn, AnInv, Content}
use Rattle.asm_text.specs.Sources.{Source, source_of}
use Rattle.asm_print.specs.Printing.{label_text, source_insn, insn_text}
use Rattle.asm_print.specs.declared.limits.TheConstants.{USUAL_HINT}
use Rattle.asm_print.specs.Targets.{is_target}

-- ---- a line

-- the label of an index, an invariant of the next instruction, the instruction at an index with its
-- hint, if it's a return, and its comment, or a note
pub data Line : Type 0 where
  LabelOf : ℕ → Line
  InvOf : Form → Line
  InsnAt : ℕ → Insn → ℕ → List ℕ → Line
  Note : List ℕ → Line

-- the instruction at an index: a return has its hint, where that isn't the usual one
abbrev pub hinted_text : ℕ → Insn → ℕ → List ℕ
hinted_text i Ret hint =
    if hint == USUAL_HINT then codes "ret" else codes "ret $31,($26)," ++ decimal hint
hinted_text i insn hint = insn_text i insn

-- its text: `L3:`, `   .inv (ult 0 r1)`, `        addq r1,r2,r3 # comment`, or `# note`
abbrev pub line_text : Line → List ℕ
line_text (LabelOf i) = label_text i ++ codes ":"
line_text (InvOf F) = codes "   .inv " ++ form_text 0 F
line_text (InsnAt i insn hint comment) =
    codes "        " ++ (hinted_text i insn hint ++ (codes " # " ++ comment))
line_text (Note note) = codes "# " ++ note

-- what it says
abbrev pub line_content : Line → Content
line_content (LabelOf i) = record { label = Some (label_text i); statement = NoStatement }
line_content (InvOf F) = record { label = None; statement = AnInv F }
line_content (InsnAt i insn hint comment) =
    record { label = None; statement = AnInsn (source_insn i insn) }
line_content (Note note) = record { label = None; statement = NoStatement }

-- ---- what is printed beside code and invariants

-- the comments and the hints of the instructions, in order, and the notes behind the code
pub record ExtrasView : Type 0 where
  pub comments : List (List ℕ)
  pub hints : List ℕ
  pub notes : List (List ℕ)

-- nothing
abbrev pub no_extras : ExtrasView
no_extras = record { comments = []; hints = []; notes = [] }

-- the comment of the instruction at index i, empty where there is none
abbrev pub comment_at : ExtrasView → ℕ → List ℕ
comment_at extras i = slice_index_or extras.comments i []

-- the hint of the instruction at index i, the usual one where there is none
abbrev pub hint_at : ExtrasView → ℕ → ℕ
hint_at extras i = slice_index_or extras.hints i USUAL_HINT

-- the line of the instruction at index i
abbrev pub insn_line : ExtrasView → ℕ → Insn → Line
insn_line extras i insn = InsnAt i insn (hint_at extras i) (comment_at extras i)

-- ---- the lines of code

-- with the line of the index's label, where a branch goes there
abbrev pub with_label : ℕ → Bool → List Line → List Line
with_label i true rest = LabelOf i ∷ rest
with_label i false rest = rest

-- with the line of the index's invariant, where it has one
abbrev pub with_inv : Option Form → List Line → List Line
with_inv None rest = rest
with_inv (Some F) rest = InvOf F ∷ rest

-- the index's invariant: invariants stand in order, so it's the first of those that are left, or
-- there is none
abbrev pub next_inv : ℕ → List (ℕ × Form) → Option Form
next_inv i [] = None
next_inv i (v ∷ vs) = if v.0 == i then Some v.1 else None

-- the invariants that are left behind the index
abbrev pub invs_behind : ℕ → List (ℕ × Form) → List (ℕ × Form)
invs_behind i [] = []
invs_behind i (v ∷ vs) = if v.0 == i then vs else v ∷ vs

-- the lines of the instructions from index i on, with the invariants that are left; the test says
-- which indices branches go to
abbrev pub lines_from : (ℕ → Bool) → ExtrasView → ℕ → List Insn → List (ℕ × Form) → List Line
lines_from goes extras i [] vs = []
lines_from goes extras i (insn ∷ rest) vs =
    with_label i (goes i)
    (with_inv (next_inv i vs)
    (insn_line extras i insn ∷ lines_from goes extras (i + 1) rest (invs_behind i vs)))

-- the lines of code with its invariants, each of which has the index of its instruction
abbrev pub insn_lines : ExtrasView → List Insn → List (ℕ × Form) → List Line
insn_lines extras code invs = lines_from (is_target code) extras 0 code invs

-- these lines, and the notes behind them
abbrev pub code_lines : ExtrasView → List Insn → List (ℕ × Form) → List Line
code_lines extras code invs = insn_lines extras code invs ++ map Note extras.notes

-- ---- what they come to

-- the text of lines, each with an LF
abbrev pub lines_text : List Line → List ℕ
lines_text [] = []
lines_text (l ∷ ls) = line_text l ++ (10 ∷ lines_text ls)

-- the text of code with its invariants, comments, hints and notes
abbrev pub code_text : ExtrasView → List Insn → List (ℕ × Form) → List ℕ
code_text extras code invs = lines_text (code_lines extras code invs)

-- what the lines of code with its invariants say, whatever is printed beside it
abbrev pub code_contents : List Insn → List (ℕ × Form) → List Content
code_contents code invs = map line_content (insn_lines no_extras code invs)

-- the source that they come to
abbrev pub code_source : List Insn → List (ℕ × Form) → Source
code_source code invs = source_of (code_contents code invs)
