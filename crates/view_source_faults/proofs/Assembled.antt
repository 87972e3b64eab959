-- What assembling says of a source's code.
use Rattle.std.proofs.Common.{◌≡◌, ℕ, List, Bool, true, false, Option, Result, Ok, Err, refl, sym, ap, ◌∙◌}
use Rattle.alpha_words.specs.declared.insn.Insn.{Insn}
use Rattle.formula_tree.specs.Formulas.{Form}
use Rattle.policy_set.specs.Views.{PolicyView}
use Rattle.proof_container.specs.Contents.{Contents}
use Rattle.proof_container.specs.Versions.{profile_of}
use Rattle.asm_text.specs.Sources.{Source}
use Rattle.pcc_asm.specs.declared.fault.AsmFlaw.{AsmFlaw}
use Rattle.pcc_asm.specs.Names.{asm_flaw_line, asm_flaw_name}
use Rattle.view_source_faults.specs.Spans.{asm_flaw_span}
use Rattle.view_source_faults.specs.SourceReports.{source_line, source_fault_text, report_of_code}
use Rattle.view_faults.specs.Marking.{no_limits}
use Rattle.pcc_asm.specs.Assembling.{with_code, assembled_code, assembled_contents}

made_by : (v : ℕ) (bound : Option ℕ) (policy : PolicyView) (invs : List (ℕ × Form)) (r : Result (List Insn) AsmFlaw) (c : Contents) →
    with_code v bound policy invs r ≡ Ok c → (insns : List Insn) × (r ≡ Ok insns)
made_by v bound policy invs (Ok insns) c e = (insns, refl)
made_by v bound policy invs (Err k) c e = cc

-- where contents are made, the code is
pub code_made : (v : ℕ) (bound : Option ℕ) (policy : PolicyView) (s : Source) (c : Contents) → assembled_contents v bound policy s ≡ Ok c →
    (insns : List Insn) × (assembled_code (profile_of v) s ≡ Ok insns)
unfolding assembled_contents
code_made v bound policy s c e = made_by v bound policy s.invs (assembled_code (profile_of v) s) c e

refused_by : (v : ℕ) (bound : Option ℕ) (policy : PolicyView) (invs : List (ℕ × Form)) (r : Result (List Insn) AsmFlaw) (flaw : AsmFlaw) →
    with_code v bound policy invs r ≡ Err flaw → r ≡ Err flaw
refused_by v bound policy invs (Ok insns) flaw e = cc
refused_by v bound policy invs (Err k) flaw e = let s : k ≡ flaw = cc in ap Err s

-- where they aren't, the flaw is the code's
pub code_refused : (v : ℕ) (bound : Option ℕ) (policy : PolicyView) (s : Source) (flaw : AsmFlaw) → assembled_contents v bound policy s ≡ Err flaw →
    assembled_code (profile_of v) s ≡ Err flaw
unfolding assembled_contents
code_refused v bound policy s flaw e = refused_by v bound policy s.invs (assembled_code (profile_of v) s) flaw e

-- what is said of code that is made
pub right_report : (text v : List ℕ) (s : Source) (made : Result (List Insn) AsmFlaw) (insns : List Insn) → made ≡ Ok insns → v ≡ source_line s →
    ◌≡◌ {A = Bool × List ℕ} (true, v) (report_of_code text s made)
right_report text v s made insns e f = ap (λ l. (true, l)) f ∙ ap (report_of_code text s) (sym e)

-- and of code that isn't
pub wrong_report : (text v : List ℕ) (s : Source) (made : Result (List Insn) AsmFlaw) (flaw : AsmFlaw) → made ≡ Err flaw →
    v ≡ source_fault_text text (asm_flaw_line flaw) (asm_flaw_name flaw) (asm_flaw_span flaw) no_limits →
    ◌≡◌ {A = Bool × List ℕ} (false, v) (report_of_code text s made)
wrong_report text v s made flaw e f = ap (λ l. (false, l)) f ∙ ap (report_of_code text s) (sym e)
