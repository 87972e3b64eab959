-- A container as a source that is assembled into it, or the first reason why it isn't one.
use Rattle.std.specs.Prelude.{ℕ, nat_le, nat_lt, is_some, not, Bool, if◌then◌else◌, List, ◌++◌, length, map, Option, Result, Ok, Err}
use Rattle.std.specs.List.{list_all}
use Rattle.alpha_words.specs.declared.insn.Insn.{Insn}
use Rattle.alpha_cfg.specs.declared.fault.CodeFlaw.{CodeFlaw}
use Rattle.alpha_cfg.specs.CodeDecoding.{decoded_code}
use Rattle.term_table.specs.Tree.{Tree}
use Rattle.term_table.specs.Steps.{◌>>=◌}
use Rattle.formula_tree.specs.Formulas.{Form}
use Rattle.formula_text.specs.Printing.{form_text}
use Rattle.asm_text.specs.declared.limits.TheConstants.{MAX_SOURCE}
use Rattle.lf_signature.specs.declared.editions.WordSignature.{WordSignature}
use Rattle.proof_container.specs.Versions.{profile_of, signature_of}
use Rattle.proof_container.specs.Contents.{Contents, roots}
use Rattle.pcc_gate.specs.First.{too_high, formless, formulas}
use Rattle.asm_print.specs.declared.limits.TheConstants.{MAX_FORM_TEXT}
use Rattle.asm_print.specs.Listing.{ExtrasView, code_text}
use Rattle.view_container.specs.declared.stop.NoSource.{NoSource}
use Rattle.view_container.specs.declared.stop.NoSource.TheVariants.{NotCode, TooHigh, NotForm, LongInv, LongText}
use Rattle.view_container.specs.Words.{indices_of, word_comment, word_hint}
use Rattle.view_container.specs.Notes.{notes_of}
use Rattle.view_container.specs.Beside.{BesideView, notes_beside}

-- what is printed beside code and invariants: a comment and a hint for each word, and the notes
abbrev pub extras_with : List ℕ → List ℕ → List (List ℕ) → ExtrasView
extras_with code lines notes = record {
  comments = map (word_comment code lines) (indices_of code);
  hints = map (word_hint code) (indices_of code);
  notes = notes;
}

-- the same of contents, and what is noted of a source beside them
abbrev pub extras_of : Contents → BesideView → ExtrasView
extras_of c beside = extras_with c.code beside.lines (notes_of c ++ notes_beside c.code beside)

-- a value, unless a test says why there is none
abbrev pub unless : {A : Type 0} → Bool → NoSource → A → Result A NoSource
unless wrong why x = if wrong then Err why else Ok x

-- code that was read
abbrev pub if_code : Result (List Insn) CodeFlaw → Result (List Insn) NoSource
if_code (Ok code) = Ok code
if_code (Err flaw) = Err NotCode

-- the code, in the profile of the version
abbrev pub listed_code : Contents → Result (List Insn) NoSource
listed_code c = if_code (decoded_code (profile_of c.version) c.code)

-- no tree is too high
abbrev pub if_low : List Tree → Result Unit NoSource
if_low ts = unless (is_some (too_high ts)) TooHigh tt

-- the text of the formula isn't too long for a line
abbrev pub is_short : ℕ × Form → Bool
is_short v = nat_le (length (form_text 0 v.1)) MAX_FORM_TEXT

-- each invariant is a formula of the signature, with the bound
abbrev pub if_forms : WordSignature → Option ℕ → List (ℕ × Tree) → Result Unit NoSource
if_forms s bound invs = unless (is_some (formless s bound 0 invs)) NotForm tt

-- formulas with short texts
abbrev pub if_short : List (ℕ × Form) → Result (List (ℕ × Form)) NoSource
if_short forms = unless (not (list_all is_short forms)) LongInv forms

-- a text that isn't too long for a source
abbrev pub if_whole : List ℕ → Result (List ℕ) NoSource
if_whole text = unless (nat_lt MAX_SOURCE (length text)) LongText text

-- the contents as a source, whose comments name the lines of another
abbrev pub source_listing : Contents → BesideView → Result (List ℕ) NoSource
source_listing c beside = do
  code ← listed_code c
  _ ← if_low (roots c)
  _ ← if_forms (signature_of c.version) c.bound c.invs
  invs ← if_short (formulas c.invs)
  if_whole (code_text (extras_of c beside) code invs)
