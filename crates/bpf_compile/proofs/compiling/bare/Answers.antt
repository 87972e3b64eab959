use Rattle.std.proofs.Common.{refl, sym, ap, ◌∙◌, subst}
use Rattle.policy_set.specs.Names.{policy_number}
use Rattle.proof_container.specs.Encoding.{encoding_of}
use Rattle.pcc_asm.specs.Words.{code_bytes}
use Rattle.bpf_compile.specs.Inside.Ids.{AreInvIds}
use Rattle.bpf_compile.specs.Inside.Insns.{AreOneInsns}
use Rattle.bpf_compile.proofs.Made.{code-bytes, contents-are, view-writable}
use Rattle.bpf_compile.proofs.compiling.bare.Goals as goal
use Rattle.bpf_code.specs.Blocks.{bpf_code}
use Rattle.word_ops.specs.declared.Profile.TheVariants.{One}

pub bytes_of-requires : goal.bytes_of-requires
bytes_of-requires c =
    let program = c.args.program.now in
    let code = c.code_laws.ensures.code program c.requires.program in
    let has = c.code_laws.ensures.profile program c.requires.program in
    let one : AreOneInsns (bpf_code program) =
    λ i x e. let word = code.encoded i x e in (word.0, (has i x e, word.1)) in
    subst AreOneInsns (sym (c.deref.ensures.value ∙ c.in_ok-insns.ensures.exact)) one

pub write-requires : goal.write-requires
write-requires c =
    let program = c.args.program.now in
    let written = c.deref-2.ensures.value ∙ c.in_ok-code.ensures ∙ ap code_bytes (c.deref.ensures.value ∙ c.in_ok-insns.ensures.exact) in
    let ids = subst (AreInvIds c.encode_invs.new.table program) (sym c.deref-3.ensures.value) c.in_ok-invs.ensures in
    let policy = c.number.ensures.exact ∙ ap policy_number c.requires.policy in
    let holds = code-bytes program c.written_laws.ensures.bytes (c.written_laws.ensures.encode One) (c.code_laws.ensures.code program c.requires.program) (c.code_laws.ensures.profile program c.requires.program) in
    view-writable program _ (c.laws.ensures.contents program _ c.requires.program holds)
    (contents-are program c.number.result c.deref-2.result.now c.encode_invs.new.table
    c.deref-3.result.now policy written ids)
    refl refl ids

pub returns : goal.returns
returns c =
    let program = c.args.program.now in
    let written = c.deref-2.ensures.value ∙ c.in_ok-code.ensures ∙ ap code_bytes (c.deref.ensures.value ∙ c.in_ok-insns.ensures.exact) in
    let ids = subst (AreInvIds c.encode_invs.new.table program) (sym c.deref-3.ensures.value) c.in_ok-invs.ensures in
    let policy = c.number.ensures.exact ∙ ap policy_number c.requires.policy in
    c.in_ok-bytes.ensures.encodes.encoded
    ∙ ap encoding_of (contents-are program c.number.result c.deref-2.result.now c.encode_invs.new.table c.deref-3.result.now policy written ids)
