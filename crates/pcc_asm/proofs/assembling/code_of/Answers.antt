use Rattle.std.proofs.Common.{◌≡◌, Vec, Global, ℕ, ◌<◌, ◌≤◌, length, Ok, Err, sym, ap, ◌∙◌, subst}
use Rattle.std.specs.List.{AllByRecursion}
use Rattle.alpha_words.specs.declared.insn.Insn.{Insn}
use Rattle.asm_text.specs.declared.limits.TheConstants.{MAX_INSNS}
use Rattle.asm_text.specs.Views.{source_view}
use Rattle.pcc_asm.specs.declared.fault.AsmFault.TheVariants as F
use Rattle.pcc_asm.specs.Words.{code_bytes}
use Rattle.pcc_asm.specs.Assembling.{resolved_insns, as_code, assembled_code}
use Rattle.pcc_asm.specs.Inside.Views.{insn_views, label_views, IsStepAnswer, AreLabelIndices, IsEncodable, bytes_or_flaw}
use Rattle.pcc_asm.proofs.Answering.{carries, labels_short, insns_few, insns_some, insns_encodable, gives_no_label, gives_flaw, gives_bytes}
use Rattle.pcc_asm.proofs.assembling.code_of.Goals as goal

pub index_labels-requires : goal.index_labels-requires
index_labels-requires c =
    record {
      short = subst AreLabelIndices (sym c.deref.ensures.value)
          (labels_short c.args.profile c.args.left c.args.source.now c.requires.spelled);
    }

pub resolve_all-requires-clause-short : goal.resolve_all-requires-clause-short
resolve_all-requires-clause-short c =
    subst (λ l. length l ≤ MAX_INSNS) (sym c.deref-2.ensures.value)
    (insns_few c.args.profile c.args.left c.args.source.now c.requires.spelled)

pub returns-in_err-code : goal.returns-in_err-code
returns-in_err-code c =
    let s = c.args.source.now in
    let e = c.in_err-code.field-0.0 in
    let labels = c.in_ok-labels.ensures.list ∙ c.deref.ensures.value in
    let given = subst (λ l. IsStepAnswer (λ (v : Vec Insn Global). v.items) (resolved_insns (label_views l) 0 (insn_views c.deref-2.result.now)) (Err e)) labels c.in_err-code.ensures.exact in
    let held = subst (λ l. IsStepAnswer (λ (v : Vec Insn Global). v.items) (resolved_insns (label_views s.labels.items) 0 (insn_views l)) (Err e)) c.deref-2.ensures.value given in
    record {
      exact = carries (IsStepAnswer (λ (v : Vec ℕ Global). v.items)
          (bytes_or_flaw (assembled_code c.args.profile (source_view s)))) e
          (gives_no_label c.args.profile s (λ (v : Vec Insn Global). v.items)
          (λ (v : Vec ℕ Global). v.items) e held) c.from_residual-in_err-code.result
          c.from_residual-in_err-code.ensures.1;
    }

pub check-requires-clause-some : goal.check-requires-clause-some
check-requires-clause-some c =
    subst (λ l. 0 < length l) (sym c.deref-3.ensures.value)
    (insns_some c.args.profile c.args.left c.args.source.now c.requires.spelled)

pub check-requires-clause-short : goal.check-requires-clause-short
check-requires-clause-short c =
    subst (λ l. length l ≤ MAX_INSNS) (sym c.deref-3.ensures.value)
    (insns_few c.args.profile c.args.left c.args.source.now c.requires.spelled)

pub returns-in_err-check : goal.returns-in_err-check
returns-in_err-check c =
    let s = c.args.source.now in
    let code = c.in_ok-code.code.items in
    let flaw = c.in_err-check.field-0.0 in
    let labels = c.in_ok-labels.ensures.list ∙ c.deref.ensures.value in
    let insns = c.deref-2.ensures.value in
    let resolved : resolved_insns (label_views s.labels.items) 0 (insn_views s.insns.items) ≡ Ok code = sym (λ i. resolved_insns (label_views (labels i)) 0 (insn_views (insns i))) ∙ c.in_ok-code.ensures.exact in
    let said = c.deref-3.ensures.value in
    let same = c.deref-4.ensures.value in
    let checked : as_code c.args.profile (insn_views s.insns.items) (Ok code)
    ≡ Err flaw = sym (λ i. as_code c.args.profile (insn_views (said i)) (Ok (same i)))
    ∙ c.in_err-check.ensures in
    record {
      exact = carries (IsStepAnswer (λ (v : Vec ℕ Global). v.items)
          (bytes_or_flaw (assembled_code c.args.profile (source_view s)))) (F.At flaw)
          (gives_flaw c.args.profile s code flaw resolved checked) c.from_residual-in_err-check.result
          c.from_residual-in_err-check.ensures.1;
    }

pub bytes_of-requires : goal.bytes_of-requires
bytes_of-requires c =
    let s = c.args.source.now in
    let code = c.in_ok-code.code.items in
    let labels = c.in_ok-labels.ensures.list ∙ c.deref.ensures.value in
    let insns = c.deref-2.ensures.value in
    let resolved : resolved_insns (label_views s.labels.items) 0 (insn_views s.insns.items) ≡ Ok code = sym (λ i. resolved_insns (label_views (labels i)) 0 (insn_views (insns i))) ∙ c.in_ok-code.ensures.exact in
    let said = c.deref-3.ensures.value in
    let same = c.deref-4.ensures.value in
    let checked : as_code c.args.profile (insn_views s.insns.items) (Ok code)
    ≡ Ok code = sym (λ i. as_code c.args.profile (insn_views (said i)) (Ok (same i)))
    ∙ c.in_ok-check.ensures ∙ ap Ok same in
    subst (AllByRecursion (IsEncodable c.args.profile)) (sym c.deref-5.ensures.value)
    (insns_encodable c.args.profile c.args.left s c.requires.spelled code resolved checked)

pub returns : goal.returns
returns c =
    let s = c.args.source.now in
    let code = c.in_ok-code.code.items in
    let labels = c.in_ok-labels.ensures.list ∙ c.deref.ensures.value in
    let insns = c.deref-2.ensures.value in
    let resolved : resolved_insns (label_views s.labels.items) 0 (insn_views s.insns.items) ≡ Ok code = sym (λ i. resolved_insns (label_views (labels i)) 0 (insn_views (insns i))) ∙ c.in_ok-code.ensures.exact in
    let said = c.deref-3.ensures.value in
    let same = c.deref-4.ensures.value in
    let checked : as_code c.args.profile (insn_views s.insns.items) (Ok code)
    ≡ Ok code = sym (λ i. as_code c.args.profile (insn_views (said i)) (Ok (same i)))
    ∙ c.in_ok-check.ensures ∙ ap Ok same in
    record {
      exact = gives_bytes c.args.profile s code c.in_ok-bytes.bytes.items resolved checked
          (c.in_ok-bytes.ensures ∙ ap code_bytes c.deref-5.ensures.value);
    }
