-- Whether bytes have code for a policy: the code, or the first clause that fails, as `ref` tells it.
use Rattle.std.proofs.Common.{◌≡◌, ◌≤◌, ℕ, true≢false, List, [], length, Result, Ok, Err, refl, sym, ap, ◌∙◌, subst, inl, inr}
use Rattle.std.proofs.lemmas.Bool.{cases_Bool}
use Rattle.alpha_words.specs.declared.insn.Insn.{Insn}
use Rattle.alpha_cfg.specs.declared.fault.CodeFlaw.{CodeFlaw}
use Rattle.alpha_cfg.specs.declared.fault.CodeFault.TheVariants as fault
use Rattle.alpha_cfg.specs.CodeBytes.{IsFlaw}
use Rattle.alpha_cfg.specs.CodeDecoding.{decoded_code}
use Rattle.alpha_cfg.proofs.Readings.{decoded_code-ok, IsDecoded-IsCodeAnswer}
use Rattle.policy_set.specs.Views.{PolicyView}
use Rattle.term_table.specs.Bytes.{IsBytes}
use Rattle.proof_container.specs.Contents.{Contents}
use Rattle.proof_container.specs.Decoding.{Fault, decoded_container}
use Rattle.proof_container.specs.Encoding.{IsContents, EncodesContents}
use Rattle.proof_container.specs.Versions.{profile_of}
use Rattle.proof_container.specs.declared.limits.TheConstants.{MAX_BYTES}
use Rattle.proof_container.proofs.Whole.{container_takes, container_again, one_content}
use Rattle.proof_container.proofs.SharpTests.{fault-exactly}
use Rattle.pcc_gate.specs.declared.refusal.Refusal.{Refusal}
use Rattle.pcc_gate.specs.declared.refusal.Refusal.TheVariants as refusal
use Rattle.pcc_gate.specs.ForPolicy.{IsFor, is_for}
use Rattle.pcc_gate.specs.Clauses.{HasCode, IsFirstRefusal}
use Rattle.pcc_gate.specs.Passing.{PassesRead}
use Rattle.pcc_gate.proofs.ForPolicy.{for-true, for-is, for-not, for-false}
use Rattle.pcc_gate.proofs.CodeBytes.{code_decided}
use Rattle.pcc_gate.proofs.ByClause.{read-all}
use Rattle.pcc_lines.specs.Refusals.{refusal_line}
use Rattle.pcc_stages.specs.Stage.{Stage, stops, gives, ◌>>=◌}
use Rattle.pcc_stages.specs.Stages.Common.{refused}
use Rattle.pcc_stages.specs.Stages.Containers.{container_for, container_in, code_found, code_in}
use Rattle.pcc_stages.proofs.RunLemmas.{is_stop}

-- the bytes have code for the policy, or the first clause that fails is one of those before it
pub data Coded (under : PolicyView) (b : List ℕ) : Type 0 where
  coded_as : (c : Contents) (code : List Insn) → PassesRead under b c code → Coded under b
  coded_not : (r : Refusal) → IsFirstRefusal under b r → ((c : Contents) (code : List Insn) → PassesRead under b c code → ⊥)
      → code_in under b ≡ stops (refused (refusal_line r)) → Coded under b

module _ (under : PolicyView) (b : List ℕ) where
  -- what the stage goes on with behind a container
  abbrev code_behind : Stage Contents → Stage (List Insn)
  code_behind s = s >>= λ container. code_found (decoded_code (profile_of container.version) container.code)

  container_has : (c : Contents) → EncodesContents b c → IsFor under c.head → container_in under b ≡ gives c
  unfolding container_in
  container_has c held named = rw (container_again b c held, for-true under c.head named) refl

  container_other : (c : Contents) → EncodesContents b c → (IsFor under c.head → ⊥)
      → container_in under b ≡ stops (refused (refusal_line (refusal.OtherPolicy c.head)))
  unfolding container_in
  container_other c held other = rw (container_again b c held, for-false under c.head other) refl

  container_none : (f : Fault) → decoded_container b ≡ Err f
      → container_in under b ≡ stops (refused (refusal_line (refusal.Malformed f.0 f.1)))
  unfolding container_in
  container_none f e = ap (container_for under) e

  -- the stage, by the container that the bytes are
  code_by : (s : Stage Contents) → container_in under b ≡ s → code_in under b ≡ code_behind s
  unfolding code_in
  code_by s e = ap code_behind e

  pub code_has : (c : Contents) (code : List Insn) → PassesRead under b c code → code_in under b ≡ gives code
  code_has c code h =
      let held : EncodesContents b c = h.has.container in
      code_by (gives c) (container_has c held (h.all.1.1.0 c held))
      ∙ ap code_found (sym (decoded_code-ok (profile_of c.version) c.code code h.has.encoded h.has.code))

  lacking : (r : Refusal) → IsFirstRefusal under b r → code_in under b ≡ stops (refused (refusal_line r)) → Coded under b
  lacking r first stop = coded_not r first (λ c code h. true≢false (ap is_stop (sym stop ∙ code_has c code h))) stop

  module _ (size : length b ≤ MAX_BYTES) where
    module _ (c : Contents) (held : EncodesContents b c) where
      code_bad : (flaw : CodeFlaw) → IsFor under c.head → IsFlaw (profile_of c.version) c.code flaw → Coded under b
      code_bad flaw named is =
          lacking (refusal.BadCode flaw)
          (inr (
            size,
            inr (
              (c, held),
              inr (
                λ d other. subst (λ (k : Contents). IsFor under k.head) (one_content b c d held other) named,
                inl (c, held, (flaw, is, refl)),
              ),
            ),
          ))
          (code_by (gives c) (container_has c held named)
          ∙ ap code_found (sym (IsDecoded-IsCodeAnswer (profile_of c.version) c.code (Err (fault.At flaw)) is)))

      code_of_policy : IsFor under c.head → Coded under b
      code_of_policy named =
          let s : IsContents c = held.contents in
          elim (code_decided (profile_of c.version) c.code s.whole s.some s.short) [
            | inl k ↦
                let has : HasCode b c k.insns = record { container = held; encoded = k.encoded; code = k.code } in
                coded_as c k.insns (record { all = read-all has under size named [] tt; has = has })
            | inr f ↦ code_bad f.which named f.is
          ]

      code_of_contents : Coded under b
      code_of_contents =
          elim (cases_Bool (is_for under c.head)) [
            | inl same ↦ code_of_policy (for-is under c.head same)
            | inr other ↦
                let not_for : IsFor under c.head → ⊥ = for-not under c.head other in
                lacking (refusal.OtherPolicy c.head) (inr (size, inr ((c, held), inl (c, held, (not_for, refl)))))
                (code_by _ (container_other c held not_for))
          ]

    code_of_read : IsBytes b → (r : Result Contents Fault) → decoded_container b ≡ r → Coded under b
    code_of_read fits (Ok c) e = code_of_contents c (container_takes b c fits e)
    code_of_read fits (Err f) e =
        lacking (refusal.Malformed f.0 f.1) (inr (size, inl (f, (fault-exactly b f.0 f.1).0 e, refl)))
        (code_by _ (container_none f e))

  pub coded : IsBytes b → length b ≤ MAX_BYTES → Coded under b
  coded fits size = code_of_read size fits (decoded_container b) refl
