-- Which code with invariants is printed as a source, with which comments, hints and notes, and which
-- source that is.
use Rattle.std.specs.Prelude.{◌≡◌, ℕ, ◌+◌, ◌≤◌, Bool, true, if◌then◌else◌, List, [], ◌∷◌, length}
use Rattle.std.specs.List.{AllByRecursion}
use Rattle.word_ops.specs.declared.Profile.{Profile}
use Rattle.word_ops.specs.Operators.{has_op}
use Rattle.formula_tree.specs.Formulas.{Form}
use Rattle.formula_tree.specs.Operators.{Uses}
use Rattle.formula_tree.specs.Scope.{IsWithin}
use Rattle.formula_text.specs.Printing.{form_text}
use Rattle.alpha_words.specs.declared.insn.Insn.{Insn}
use Rattle.alpha_cfg.specs.Flow.{IsCode, AreOfProfile}
use Rattle.asm_text.specs.declared.limits.TheConstants.{MAX_INVS}
use Rattle.asm_text.specs.Insns.{SourceInsn}
use Rattle.asm_text.specs.Statements.{are_printable}
use Rattle.asm_text.specs.Sources.{HaveInsns}
use Rattle.asm_print.specs.Printing.{label_text, source_insn}
use Rattle.asm_print.specs.declared.limits.TheConstants.{MAX_FORM_TEXT, MAX_COMMENT, MAX_HINT}
use Rattle.asm_print.specs.Listing.{ExtrasView}

-- The formula can stand in an invariant of the profile: its variables are bound, its registers are
-- below 32, its operators are the profile's, it names the steps that are left only where the flag
-- is true, and its text isn't too long for a line.
pub record IsInvOf (profile : Profile) (left : Bool) (F : Form) : Type 0 where
  pub within : IsWithin left 32 F []
  pub uses : Uses (λ o. has_op profile o ≡ true) F
  pub short : length (form_text 0 F) ≤ MAX_FORM_TEXT

-- code of the profile, and at most 256 invariants in the order of their instructions, no two of one
pub record IsSpellableCode (profile : Profile) (left : Bool) (code : List Insn)
    (invs : List (ℕ × Form)) : Type 0 where
  pub is_code : IsCode code
  pub of_profile : AreOfProfile profile code
  pub few : length invs ≤ MAX_INVS
  pub belong : HaveInsns 0 (length code) invs
  pub forms : AllByRecursion (λ v. IsInvOf profile left v.1) invs

-- the text can stand behind `#`: its bytes are printable, and there aren't too many
pub record IsComment (text : List ℕ) : Type 0 where
  pub printable : are_printable text ≡ true
  pub short : length text ≤ MAX_COMMENT

-- comments and notes can stand behind `#`, and hints in returns
pub record AreSpellableExtras (extras : ExtrasView) : Type 0 where
  pub comments : AllByRecursion IsComment extras.comments
  pub hints : AllByRecursion (λ h. h ≤ MAX_HINT) extras.hints
  pub notes : AllByRecursion IsComment extras.notes

-- the instructions from index i on as those of a source
abbrev pub source_insns_from : ℕ → List Insn → List SourceInsn
source_insns_from i [] = []
source_insns_from i (insn ∷ rest) = source_insn i insn ∷ source_insns_from (i + 1) rest

-- the labels of those indices from i on that pass the test, each with its index
abbrev pub labels_where : (ℕ → Bool) → ℕ → List Insn → List (List ℕ × ℕ)
labels_where goes i [] = []
labels_where goes i (insn ∷ rest) =
    if goes i then (label_text i, i) ∷ labels_where goes (i + 1) rest
    else labels_where goes (i + 1) rest
