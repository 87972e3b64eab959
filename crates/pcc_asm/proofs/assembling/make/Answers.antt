use Rattle.std.proofs.Common.{◌≡◌, ℕ, Bool, is_some, Vec, Global, Ok, Err, sym, subst}
use Rattle.std.specs.List.{AllByRecursion}
use Rattle.word_ops.specs.declared.Profile.{Profile}
use Rattle.formula_tree.specs.Formulas.{Form}
use Rattle.proof_container.specs.Versions.{profile_of}
use Rattle.asm_text.specs.Views.{source_view}
use Rattle.pcc_asm.specs.Assembling.{assembled_code}
use Rattle.pcc_asm.specs.Views.{IsSpelled, IsAsmAnswer}
use Rattle.pcc_asm.specs.Inside.Views.{inv_views, IsStepAnswer, bytes_or_flaw, IsEncodableForm}
use Rattle.pcc_asm.proofs.Answering.{carries, invs_closed, err_answer, encoded_source, ok_answer, is_held}
use Rattle.pcc_asm.proofs.assembling.make.Goals as goal

pub code_of-requires : goal.code_of-requires
code_of-requires c = record {
  spelled = subst (λ (l : Bool). IsSpelled c.profile_of.result l (source_view c.args.source.now))
      (sym c.is_some-left.ensures)
      (subst (λ (q : Profile). IsSpelled q (is_some c.args.bound) (source_view c.args.source.now))
      (sym c.profile_of.ensures.exact) c.requires.spelled);
}

pub returns-in_err-code : goal.returns-in_err-code
returns-in_err-code c =
    let s = source_view c.args.source.now in
    let v = c.args.version in
    let e = c.in_err-code.field-0.0 in
    let view = λ (w : Vec ℕ Global). w.items in
    let here = subst (λ (q : Profile). IsStepAnswer view (bytes_or_flaw (assembled_code q s))
    (Err e))
    c.profile_of.ensures.exact c.in_err-code.ensures.exact in
    carries (IsAsmAnswer v c.args.bound c.args.policy.now s) e
    (err_answer v c.args.bound c.args.policy.now s view e here)
    c.from_residual.result c.from_residual.ensures.1

pub encode_invs-requires : goal.encode_invs-requires
encode_invs-requires c =
    subst (λ (b : Bool). AllByRecursion (λ (p : ℕ × Form). IsEncodableForm b p.1)
    (inv_views c.deref.result.now)) (sym c.is_some-left.ensures)
    (subst (λ l. AllByRecursion (λ (p : ℕ × Form). IsEncodableForm (is_some c.args.bound) p.1)
    (inv_views l)) (sym c.deref.ensures.value)
    (invs_closed (profile_of c.args.version) (is_some c.args.bound) c.args.source.now
    c.requires.spelled))

pub invariant_of-result : goal.invariant_of-result
invariant_of-result c =
    let s = source_view c.args.source.now in
    let t = c.encode_invs.new.table in
    let ids = c.in_ok-invs.invs.items in
    let bytes = c.in_ok-code.code.items in
    let read = subst (λ (q : Profile). bytes_or_flaw (assembled_code q s) ≡ Ok bytes)
    c.profile_of.ensures.exact c.in_ok-code.ensures.exact in
    is_held c.args.version c.args.bound s c.in_ok-head.head bytes t ids c.requires.version
    c.in_ok-head.ensures.lawful c.requires.bound c.requires.spelled read
    (encoded_source c.args.source.now t ids c.deref.result.now c.deref.ensures.value
    c.in_ok-invs.ensures)

pub returns : goal.returns
returns c =
    let s = source_view c.args.source.now in
    let t = c.encode_invs.new.table in
    let ids = c.in_ok-invs.invs.items in
    let bytes = c.in_ok-code.code.items in
    let read = subst (λ (q : Profile). bytes_or_flaw (assembled_code q s) ≡ Ok bytes)
    c.profile_of.ensures.exact c.in_ok-code.ensures.exact in
    ok_answer c.args.version c.args.bound c.args.policy.now s c.in_ok-head.head bytes t ids read
    c.in_ok-head.ensures.exact
    (encoded_source c.args.source.now t ids c.deref.result.now c.deref.ensures.value
    c.in_ok-invs.ensures)
