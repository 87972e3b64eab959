-- The code of what is accepted.
use Rattle.std.proofs.Common.{◌≡◌, ℕ, Bool, List, None, Result, Ok, Err, IfOk, length, refl, sym, ap, ◌∙◌}
use Rattle.std.proofs.lemmas.List.{length-map}
use Rattle.alpha_cfg.specs.CodeDecoding.{decoded_code}
use Rattle.alpha_cfg.proofs.Readings.{decoded_code-ok}
use Rattle.policy_set.specs.Views.{PolicyView}
use Rattle.proof_container.proofs.Whole.{container_again}
use Rattle.alpha_words.specs.declared.insn.Insn.{Insn}
use Rattle.proof_container.specs.Contents.{Contents}
use Rattle.pcc_gate.specs.Passing.{Passes}
use Rattle.proof_container.specs.Versions.{profile_of}
use Rattle.pcc_gate.proofs.ForPolicy.{for-true}
use Rattle.pcc_gate.proofs.ByClause.{by-clause}
use Rattle.pcc_gate.specs.First.{first_refusal}
use Rattle.pcc_gate.specs.Answers.{IsAcceptedBy}
use Rattle.pcc_gate.specs.Views.{AcceptedView}
use Rattle.pcc_stages.specs.Stage.{gives, ◌>>=◌}
use Rattle.pcc_stages.specs.Stages.Containers.{container_in, code_found, code_in}
use Rattle.pcc_stages.specs.Answers.{GivesPure}
use Rattle.pcc_stages.specs.declared.stops.Stop.{Stop}
use Rattle.pcc_stages.proofs.StageLemmas.{pure_stops}
use Rattle.pcc_commands.specs.Stages.Judging.{stops_if_refused, accepted_in, accepted_code_in, Shown, shown_in}
use Rattle.pcc_commands.specs.Inside.Shows.{shown_by}
use Rattle.term_table.specs.Tree.{Tree}

module _ (policy : PolicyView) (bytes : List ℕ) (contents : Contents) (code : List Insn)
    (marks : List Bool) (passes : Passes policy bytes contents code marks) where
  container_given : container_in policy bytes ≡ gives contents
  unfolding container_in
  container_given =
      rw (
        container_again bytes contents passes.has.container,
        for-true policy contents.head (by-clause passes).named,
      ) refl

  pub code_given : code_in policy bytes ≡ gives code
  unfolding code_in
  code_given =
      ap
      (λ c. c >>= λ container. code_found
      (decoded_code (profile_of container.version) container.code)) container_given
      ∙ ap code_found
      (sym (decoded_code-ok (profile_of contents.version) contents.code code passes.has.encoded
      passes.has.code))

  -- what is accepted has the code that the bytes hold
  pub accepted_code_of_bytes : first_refusal policy bytes ≡ None → accepted_code_in policy bytes ≡ gives code
  unfolding accepted_code_in accepted_in
  accepted_code_of_bytes none = ap (λ r. stops_if_refused r >>= λ accepted. code_in policy bytes) none ∙ code_given

  -- and so many invariants
  pub shown_of_bytes : first_refusal policy bytes ≡ None → shown_in policy bytes ≡ gives (record { code = code; invariants = length contents.invs })
  unfolding shown_in accepted_in
  shown_of_bytes none =
      ap (λ r. stops_if_refused r >>= λ accepted. container_in policy bytes
      >>= λ container. code_in policy bytes >>= λ insns. gives (shown insns container)) none
      ∙ ap (λ c. c >>= λ container. code_in policy bytes >>= λ insns. gives (shown insns container)) container_given
      ∙ ap (λ c. c >>= λ insns. gives (shown insns contents)) code_given
    where
      shown : List Insn → Contents → Shown
      shown insns container = record { code = insns; invariants = length container.invs }

-- what the gate says of bytes, with the code
module _ (policy : PolicyView) (bytes : List ℕ) where
  pub code_gives : (r : Result AcceptedView Stop) → GivesPure (λ (a : AcceptedView). tt) (accepted_in policy bytes) r → IfOk r (λ a. IsAcceptedBy policy bytes a) → GivesPure (λ (a : AcceptedView). a.code) (accepted_code_in policy bytes) r
  unfolding accepted_code_in
  code_gives (Ok a) judged given = accepted_code_of_bytes policy bytes given.contents a.code a.marks given.accepts.passes given.first
  code_gives (Err why) judged given = pure_stops (λ accepted. code_in policy bytes) (accepted_in policy bytes) why judged

  -- and with the number of invariants
  pub shown_gives : (r : Result AcceptedView Stop) → GivesPure (λ (a : AcceptedView). tt) (accepted_in policy bytes) r → IfOk r (λ a. IsAcceptedBy policy bytes a) → GivesPure shown_by (shown_in policy bytes) r
  unfolding shown_in
  shown_gives (Ok a) judged given =
      let count : length given.contents.invs ≡ length a.invs = ap (λ (l : List (ℕ × Tree)). length l) given.invs_are ∙ length-map a.invs _ in
      shown_of_bytes policy bytes given.contents a.code a.marks given.accepts.passes given.first
      ∙ ap (λ (n : ℕ). gives (record { code = a.code; invariants = n })) count
  shown_gives (Err why) judged given =
      pure_stops (λ accepted. container_in policy bytes >>= λ container. code_in policy bytes >>= λ insns. gives (record { code = insns; invariants = length container.invs })) (accepted_in policy bytes) why judged

  pub policy_kept : (r : Result AcceptedView Stop) → IfOk r (λ a. IsAcceptedBy policy bytes a) → IfOk r (λ a. a.policy ≡ policy)
  policy_kept (Ok a) given = given.policy_is
  policy_kept (Err why) given = tt
