-- The lines and the code of a source.
use Rattle.std.proofs.Common.{◌≡◌, ℕ, List, [], ◌∷◌, map, Option, Result, Ok, Err, refl, sym, ap, ◌∙◌}
use Rattle.alpha_words.specs.declared.insn.Insn.{Insn}
use Rattle.asm_text.specs.declared.insns.SrcInsn.{SrcInsn}
use Rattle.asm_text.specs.declared.sources.Source as source
use Rattle.asm_text.specs.Insns.{SourceInsn}
use Rattle.asm_text.specs.Sources.{Source}
use Rattle.asm_text.specs.Views.{source_insn_view, source_view}
use Rattle.formula_tree.specs.Formulas.{Form}
use Rattle.policy_set.specs.Views.{PolicyView}
use Rattle.proof_container.specs.Contents.{Contents}
use Rattle.proof_container.specs.Versions.{profile_of}
use Rattle.pcc_asm.specs.declared.fault.AsmFlaw.{AsmFlaw}
use Rattle.pcc_asm.specs.Assembling.{with_code, assembled_code, assembled_contents}
use Rattle.pcc_asm.specs.Names.{asm_flaw_line, asm_flaw_name}
use Rattle.pcc_asm.specs.Words.{code_bytes}
use Rattle.view_source_faults.proofs.Assembled.{code_refused}
use Rattle.view_source_faults.specs.SourceCode.{lines_and_code}

-- instructions without addresses have the numbers of the same lines
same-lines : (insns : List (ℕ × SrcInsn))
    → map (λ (i : ℕ × SourceInsn). i.0)
    (map (λ (p : ℕ × SrcInsn). (p.0, source_insn_view p.1)) insns)
    ≡ map (λ (i : ℕ × SrcInsn). i.0) insns
same-lines [] = refl
same-lines (x ∷ xs) = ap (λ (r : List ℕ). x.0 ∷ r) (same-lines xs)

viewed-lines : (s : source.Source)
    → map (λ (i : ℕ × SourceInsn). i.0) (source_view s).insns
    ≡ map (λ (i : ℕ × SrcInsn). i.0) s.insns.items
unfolding source_view
viewed-lines s = same-lines s.insns.items

made_by : (v : ℕ) (bound : Option ℕ) (policy : PolicyView) (invs : List (ℕ × Form)) (t : Source)
    (r : Result (List Insn) AsmFlaw) (c : Contents) → with_code v bound policy invs r ≡ Ok c
    → lines_and_code t r ≡ Ok (map (λ insn. insn.0) t.insns, c.code)
made_by v bound policy invs t (Ok insns) c e =
    let same : code_bytes insns ≡ c.code = ap code_of_result e in
    ap (λ (l : List ℕ). Ok (map (λ insn. insn.0) t.insns, l)) same where
      code_of_result : Result Contents AsmFlaw → List ℕ
      code_of_result (Ok d) = d.code
      code_of_result (Err flaw) = []
made_by v bound policy invs t (Err flaw) c e = absurd cc

-- where contents are assembled, their code is the source's
pub code_told : (v : ℕ) (bound : Option ℕ) (policy : PolicyView) (s : source.Source) (c : Contents)
    (lines code : List ℕ) → assembled_contents v bound policy (source_view s) ≡ Ok c
    → lines ≡ map (λ (i : ℕ × SrcInsn). i.0) s.insns.items → code ≡ c.code
    → lines_and_code (source_view s) (assembled_code (profile_of v) (source_view s)) ≡ Ok (lines, code)
unfolding assembled_contents
code_told v bound policy s c lines code made lines_are code_is =
    let t = source_view s in
    made_by v bound policy t.invs t (assembled_code (profile_of v) t) c made
    ∙ (λ i. Ok ((viewed-lines s ∙ sym lines_are) i, sym code_is i))

-- and where they aren't, so is the line that is wrong
pub flaw_told : (v : ℕ) (bound : Option ℕ) (policy : PolicyView) (s : Source) (flaw : AsmFlaw)
    → assembled_contents v bound policy s ≡ Err flaw
    → lines_and_code s (assembled_code (profile_of v) s) ≡ Err (asm_flaw_line flaw, asm_flaw_name flaw)
flaw_told v bound policy s flaw e = ap (lines_and_code s) (code_refused v bound policy s flaw e)
