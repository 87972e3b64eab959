-- Which source a text spells: its lines in order, collected.
use Rattle.std.specs.Prelude.{◌≡◌, ℕ, suc, ◌+◌, ◌<◌, ◌≤◌, Bool, false, List, [], ◌∷◌, length, Option, Some, None}
use Rattle.std.specs.List.{AllByRecursion}
use Rattle.std.specs.Str.{bytes_eq}
use Rattle.word_ops.specs.declared.Profile.{Profile}
use Rattle.formula_tree.specs.Formulas.{Form}
use Rattle.asm_text.specs.declared.limits.TheConstants.{MAX_INSNS, MAX_INVS}
use Rattle.asm_text.specs.Insns.{SourceInsn}
use Rattle.text_tokens.specs.Lines.{AreLines}
use Rattle.asm_text.specs.Statements.{Statement, NoStatement, AnInsn, AnInv, Content, SpellsLine}

-- Each instruction has the number of its line, from 1; a label and an invariant have the index of the next instruction, or the count of all where none follows.
pub record Source : Type 0 where
  pub insns : List (ℕ × SourceInsn)
  pub labels : List (List ℕ × ℕ)
  pub invs : List (ℕ × Form)

-- the lines spell these contents, one each
abbrev pub AreSpelled : Profile → Bool → List (List ℕ) → List Content → Type 0
AreSpelled profile left [] [] = Unit {0}
AreSpelled profile left [] (c ∷ cs) = ⊥
AreSpelled profile left (l ∷ ls) [] = ⊥
AreSpelled profile left (l ∷ ls) (c ∷ cs) =
    SpellsLine profile left l c × AreSpelled profile left ls cs

-- ---- what the contents come to

-- how many instructions
abbrev pub insn_count : Statement → ℕ
insn_count NoStatement = 0
insn_count (AnInsn i) = 1
insn_count (AnInv F) = 0

-- with an instruction, if there is one
abbrev pub add_insn : ℕ → Statement → List (ℕ × SourceInsn) → List (ℕ × SourceInsn)
add_insn n NoStatement rest = rest
add_insn n (AnInsn i) rest = (n, i) ∷ rest
add_insn n (AnInv F) rest = rest

-- with a label, if there is one
abbrev pub add_label : ℕ → Option (List ℕ) → List (List ℕ × ℕ) → List (List ℕ × ℕ)
add_label i None rest = rest
add_label i (Some l) rest = (l, i) ∷ rest

-- with an invariant, if there is one
abbrev pub add_inv : ℕ → Statement → List (ℕ × Form) → List (ℕ × Form)
add_inv i NoStatement rest = rest
add_inv i (AnInsn j) rest = rest
add_inv i (AnInv F) rest = (i, F) ∷ rest

-- the instructions of lines from line n on
abbrev pub insns_from : ℕ → List Content → List (ℕ × SourceInsn)
insns_from n [] = []
insns_from n (c ∷ cs) = add_insn n c.statement (insns_from (suc n) cs)

-- the labels of lines before which i instructions stand
abbrev pub labels_from : ℕ → List Content → List (List ℕ × ℕ)
labels_from i [] = []
labels_from i (c ∷ cs) = add_label i c.label (labels_from (i + insn_count c.statement) cs)

-- their invariants
abbrev pub invs_from : ℕ → List Content → List (ℕ × Form)
invs_from i [] = []
invs_from i (c ∷ cs) = add_inv i c.statement (invs_from (i + insn_count c.statement) cs)

-- the source of these lines
abbrev pub source_of : List Content → Source
source_of cs = record { insns = insns_from 1 cs; labels = labels_from 0 cs; invs = invs_from 0 cs }

-- ---- which sources there are

-- no label stands twice
abbrev pub AreDistinct : List (List ℕ × ℕ) → Type 0
AreDistinct [] = Unit {0}
AreDistinct (l ∷ ls) = AllByRecursion (λ k. bytes_eq l.0 k.0 ≡ false) ls × AreDistinct ls

-- each invariant has an index from low on and below the count, and no two have one
abbrev pub HaveInsns : ℕ → ℕ → List (ℕ × Form) → Type 0
HaveInsns low count [] = Unit {0}
HaveInsns low count (v ∷ vs) = (low ≤ v.0) × (v.0 < count) × HaveInsns (suc v.0) count vs

-- what makes what was collected a source
pub record IsSource (s : Source) : Type 0 where
  pub some : 0 < length s.insns
  pub insns : length s.insns ≤ MAX_INSNS
  pub invs : length s.invs ≤ MAX_INVS
  pub labels : AreDistinct s.labels
  pub belong : HaveInsns 0 (length s.insns) s.invs

-- The text spells the source, whose instructions and operators are the profile's. Its invariants
-- name the steps that are left only where the flag is true.
pub record SpellsSource (profile : Profile) (left : Bool) (text : List ℕ) (s : Source) : Type 0 where
  pub lines : List (List ℕ)
  pub contents : List Content
  pub are_lines : AreLines text lines
  pub spelled : AreSpelled profile left lines contents
  pub collected : s ≡ source_of contents
  pub sound : IsSource s
