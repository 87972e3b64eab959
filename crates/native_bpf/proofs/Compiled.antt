-- The container that a program is compiled to is accepted with no other code than the program's.
use Rattle.std.proofs.Common.{◌≡◌, ℕ, ◌*◌, ◌/◌, List, length, ◌+◌, Result, Ok, refl, sym, ap, ◌∙◌, subst, arith}
use Rattle.std.specs.Prelude.{◌≤◌, ◌<◌}
use Rattle.alpha_words.specs.declared.insn.Insn.{Insn}
use Rattle.alpha_cfg.specs.CodeBytes.{EncodesCode}
use Rattle.alpha_cfg.specs.CodeDecoding.{decoded_code}
use Rattle.alpha_cfg.specs.declared.fault.CodeFlaw.{CodeFlaw}
use Rattle.alpha_cfg.specs.Flow.{IsCode, AreOfProfile}
use Rattle.alpha_cfg.proofs.Readings.{decoded_code-ok}
use Rattle.word_ops.specs.declared.Profile.{Profile}
use Rattle.word_ops.specs.declared.Profile.TheVariants.{One}
use Rattle.policy_set.specs.declared.kind.PolicyKind.TheVariants.{Filter}
use Rattle.policy_set.specs.Views.{built_in}
use Rattle.term_table.specs.Tree.{Tree}
use Rattle.pcc_asm.specs.Words.{code_bytes}
use Rattle.proof_container.specs.Contents.{Contents, roots}
use Rattle.proof_container.specs.Decoding.{Front, decoded_head}
use Rattle.proof_container.specs.Encoding.{field_bytes, tail_fields, encoding_of, IsContents}
use Rattle.proof_container.specs.Postorder.{entries}
use Rattle.proof_container.specs.Versions.{code_field, profile_of, IsVersion, IsHead, IsBoundOf}
use Rattle.proof_container.proofs.Counted.{front_with, start_again}
use Rattle.proof_container.proofs.FieldLaws.{ok_is}
use Rattle.pcc_gate.specs.Accepted.{IsAccepted}
use Rattle.bounds_prover.specs.Proving.{with_proof}
use Rattle.bpf_words.specs.declared.insn.Bpf.{Bpf}
use Rattle.bpf_words.specs.Programs.{IsProgram}
use Rattle.bpf_code.specs.Blocks.{bpf_code}
use Rattle.bpf_compile.specs.Compilation.{IsCompilation, bare_contents}
use Rattle.bpf_compile.proofs.Passing.{head-is}
use Rattle.native_translator.specs.Translation.{IsTranslation}
use Rattle.native_bpf.specs.Returns.{ProgramsAnswer, CompiledAnswer}

-- ---- the front of a container

-- what is asked of contents before their terms
record HasFront (c : Contents) : Type 0 where
  version : IsVersion c.version
  head : IsHead c.version c.head
  bound : IsBoundOf c.version c.bound
  whole : 4 * (length c.code / 4) ≡ length c.code
  some : 0 < length c.code
  short : length c.code ≤ 4096

-- it is read from their encoding
front-read : (bytes : List ℕ) (c : Contents) → HasFront c → bytes ≡ encoding_of c
    → decoded_head bytes ≡ Ok (front_with c (code_field c.version + length c.code / 4))
unfolding encoding_of
front-read bytes c h e =
    let whole = h.whole in
    let some = h.some in
    let short = h.short in
    (start_again bytes c (length c.code / 4) (field_bytes (tail_fields (entries (roots c)) c)) h.version h.head h.bound (sym whole)
    (omega (arith, whole, some)) (omega (arith, short)) e).read

held-front : (c : Contents) → IsContents c → HasFront c
held-front c h = record { version = h.version; head = h.head; bound = h.bound; whole = h.whole; some = h.some; short = h.short }

-- one encoding has one front
one-front : (bytes : List ℕ) (c d : Contents) → HasFront c → HasFront d → bytes ≡ encoding_of c → bytes ≡ encoding_of d
    → (c.version ≡ d.version) × (c.code ≡ d.code)
one-front bytes c d h g e f =
    let same : front_with c (code_field c.version + length c.code / 4) ≡ front_with d (code_field d.version + length d.code / 4) =
    ok_is _ _ (sym (front-read bytes c h e) ∙ front-read bytes d g f) in
    (ap (λ (z : Front). z.version) same, ap (λ (z : Front). z.code) same)

-- ---- the program's

-- the bytes that the assembler writes for code encode it
abbrev pub WrittenEncode : Type 0
WrittenEncode = (p : Profile) (code : List Insn) → IsCode code → AreOfProfile p code → EncodesCode p (code_bytes code) code

ok_code : (c d : List Insn) → ◌≡◌ {A = Result (List Insn) CodeFlaw} (Ok c) (Ok d) → c ≡ d
ok_code c d e = cc

module _ (encode : WrittenEncode) (program : List Bpf) (coded : IsCode (bpf_code program)) (first : AreOfProfile One (bpf_code program)) where
  program-front : (proof : Tree) → HasFront (with_proof (bare_contents program) proof)
  program-front proof =
      let size = (encode One (bpf_code program) coded first).whole in
      let some = coded.nonempty in
      let short = coded.short in
      record {
        version = (omega arith, omega arith);
        head = head-is;
        bound = refl;
        whole = omega (arith, size);
        some = omega (arith, size, some);
        short = omega (arith, size, short);
      }

  code-one : (bytes : List ℕ) → IsCompilation program bytes → (a : IsAccepted (built_in Filter) bytes) → bpf_code program ≡ a.code
  code-one bytes made a =
      let c : Contents = with_proof (bare_contents program) made.proof in
      let container = a.accepts.passes.has.container in
      let same = one-front bytes c a.contents (program-front made.proof) (held-front a.contents container.contents) made.encoded container.encoded in
      let mine : Ok (bpf_code program) ≡ decoded_code One c.code =
      decoded_code-ok One c.code (bpf_code program) (encode One (bpf_code program) coded first) coded in
      let theirs : Ok a.code ≡ decoded_code (profile_of a.contents.version) a.contents.code =
      decoded_code-ok (profile_of a.contents.version) a.contents.code a.code a.accepts.passes.has.encoded a.accepts.passes.has.code in
      ok_code (bpf_code program) a.code (mine ∙ (λ j. decoded_code (profile_of (same.0 j)) (same.1 j)) ∙ sym theirs)

pub compiled-answer : WrittenEncode → ((program : List Bpf) → IsProgram program → IsCode (bpf_code program))
    → ((program : List Bpf) → IsProgram program → AreOfProfile One (bpf_code program)) → ProgramsAnswer → CompiledAnswer
compiled-answer encode coded first answer program bytes packet text metered call s x is packed made a t may =
    answer program packet text metered call s x is packed
    (subst (λ (code : List Insn). IsTranslation metered code text)
    (sym (code-one encode program (coded program is) (first program is) bytes made a)) t)
    may
