-- What the code of a source's text is, and what is noted of it beside code.
use Rattle.std.proofs.Common.{◌≡◌, ◌↔◌, ℕ, List, [], map, Option, Some, None, is_some, Result, Ok, Err, refl, sym, ap, ◌∙◌}
use Rattle.std.specs.Prelude.{option_and_then}
use Rattle.word_ops.specs.declared.Profile.{Profile}
use Rattle.alpha_words.specs.declared.insn.Insn.{Insn}
use Rattle.asm_text.specs.declared.fault.LineFlaw.{LineFlaw}
use Rattle.asm_text.specs.Sources.{Source}
use Rattle.asm_text.specs.SourceParsing.{parsed_source}
use Rattle.pcc_asm.specs.declared.fault.AsmFlaw.{AsmFlaw}
use Rattle.pcc_asm.specs.Assembling.{assembled_code}
use Rattle.pcc_asm.specs.Words.{code_bytes}
use Rattle.proof_container.specs.Versions.{profile_of}
use Rattle.view_container.specs.Beside.{BesideView, first_other, difference_notes, notes_beside}
use Rattle.view_source_faults.specs.SourceCode.{LinesAndCode, lines_and_code, code_of_parsed, source_code}

-- the lines and the code are those of a source that was parsed and assembled
pub record AreOfSource (p : Profile) (parsed : Result Source (ℕ × LineFlaw)) (x : LinesAndCode) : Type 0 where
  pub source : Source
  pub code : List Insn
  pub parsed_is : parsed ≡ Ok source
  pub assembled : assembled_code p source ≡ Ok code
  pub lines : x.0 ≡ map (λ insn. insn.0) source.insns
  pub bytes : x.1 ≡ code_bytes code

of_code : (p : Profile) (s : Source) (x : LinesAndCode) (made : Result (List Insn) AsmFlaw)
    → assembled_code p s ≡ made → lines_and_code s made ≡ Ok x → AreOfSource p (Ok s) x
of_code p s x (Ok insns) is e =
    let same : ◌≡◌ {A = LinesAndCode} (map (λ insn. insn.0) s.insns, code_bytes insns) x = cc in record {
      source = s;
      code = insns;
      parsed_is = refl;
      assembled = is;
      lines = sym (ap (λ (y : LinesAndCode). y.0) same);
      bytes = sym (ap (λ (y : LinesAndCode). y.1) same);
    }
of_code p s x (Err flaw) is e = absurd cc

of_parsed : (p : Profile) (r : Result Source (ℕ × LineFlaw)) (x : LinesAndCode)
    → code_of_parsed p r ≡ Ok x → AreOfSource p r x
of_parsed p (Ok s) x e = of_code p s x (assembled_code p s) refl e
of_parsed p (Err fault) x e = absurd cc

-- the same of a text's
pub of_source : (version : ℕ) (bound : Option ℕ) (text : List ℕ) (x : LinesAndCode)
    → source_code version bound text ≡ Ok x
    → AreOfSource (profile_of version) (parsed_source (profile_of version) (is_some bound) text) x
unfolding source_code
of_source version bound text x e =
    of_parsed (profile_of version) (parsed_source (profile_of version) (is_some bound) text) x e

no_notes : (lines : List ℕ) (o : Option ℕ) → (difference_notes lines o ≡ []) ↔ (o ≡ None)
no_notes lines None = (λ e. refl, λ e. refl)
no_notes lines (Some i) = (λ e. absurd cc, λ e. absurd cc)

-- nothing is noted of a source exactly where its code is this code
pub none_noted : ((code other : List ℕ) → (first_other code other ≡ None) ↔ (code ≡ other))
    → (code : List ℕ) (beside : BesideView) (other : List ℕ) → beside.code ≡ Some other
    → (notes_beside code beside ≡ []) ↔ (code ≡ other)
none_noted same code beside other is =
    let told = no_notes beside.lines (option_and_then (first_other code) beside.code) in
    let found : option_and_then (first_other code) beside.code ≡ first_other code other =
    ap (option_and_then (first_other code)) is in (
      λ none. (same code other).0 (sym found ∙ told.0 none),
      λ equal. told.1 (found ∙ (same code other).1 equal),
    )
