-- What `check` means under the policy that a file spells.
use Rattle.std.proofs.Common.{◌≡◌, ◌↔◌, ℕ, ◌⊎◌, inl, inr, true≢false, List, [], ◌∷◌, ◌++◌, None, Some, is_some, Result, Ok, Err, refl, sym, ap, ◌∙◌, subst}
use Rattle.file_port.specs.Events.{Given, whole, missing, too_long, failed, no_memory, Event, was_read, was_written}
use Rattle.file_port.specs.Files.{FilesState}
use Rattle.file_port.specs.declared.Put.{Put}
use Rattle.policy_set.specs.Views.{PolicyView, IsPolicy}
use Rattle.policy_set.specs.declared.fault.PolicyFlaw.{PolicyFlaw}
use Rattle.policy_set.specs.PolicyText.{SpellsPolicy, IsPolicyFlaw, policy_read}
use Rattle.pcc_gate.specs.First.{first_refusal}
use Rattle.pcc_lines.specs.Fixed.{container_too_long_line, policy_too_long_line}
use Rattle.pcc_stages.specs.Exits.{Exit}
use Rattle.pcc_stages.specs.Requests.{missing_exit, read_fault_exit, no_memory_exit}
use Rattle.pcc_stages.specs.Stage.{Stage, stops, gives, reads, ◌>>=◌, went_on, Follows}
use Rattle.pcc_stages.specs.Runs.{Effect, Happens, written_exit}
use Rattle.pcc_stages.specs.declared.files.TheConstants.{MAX_FILE, MAX_POLICY_FILE}
use Rattle.pcc_stages.specs.Texts.{texts}
use Rattle.pcc_stages.specs.Stages.Common.{refused}
use Rattle.pcc_stages.specs.Stages.Policies.{no_policy_spelled, policy_spelled, policy_in}
use Rattle.pcc_cli.specs.Headline.{IsFirstVerdict, IsNoPolicy, ChecksFrom, without_policy, with_policy}
use Rattle.pcc_cli.proofs.EndLemmas.{GateLaws, Ended, change_at, checks, end_at, first_read, judged_by, judged_by-ended, judged_by-silent, read_once}
use Rattle.pcc_cli.proofs.EndLemmas.{stopped_there, went_on-silent}

-- what policies from files are, by the laws
pub record ReadsPolicies : Type 0 where
  pub spelled : (text : List ℕ) (policy : PolicyView) → SpellsPolicy text policy ↔ (policy_read text ≡ Ok policy)
  pub flawed : (text : List ℕ) (flaw : PolicyFlaw) → policy_read text ≡ Err flaw → IsPolicyFlaw text flaw
  pub kept : (text : List ℕ) (policy : PolicyView) → SpellsPolicy text policy → IsPolicy policy

module _ (gate : GateLaws) (policies : ReadsPolicies) (name file : List ℕ) where
  -- what `check` goes on with behind its policy
  abbrev pub judged_behind : PolicyView → Stage Effect
  judged_behind under =
      reads file MAX_FILE (refused container_too_long_line)
      (λ b. judged_by gate under (first_refusal under b))

  -- what it goes on with behind the policy's file
  abbrev pub checked_by : List ℕ → Stage Effect
  checked_by text = policy_in text >>= judged_behind

  pub checked-spelled : (text : List ℕ) (policy : PolicyView) → policy_read text ≡ Ok policy
      → checked_by text ≡ judged_behind policy
  unfolding policy_in
  checked-spelled text policy is = ap (λ r. policy_spelled r >>= judged_behind) is

  pub checked-unspelled : (text : List ℕ) (flaw : PolicyFlaw) → policy_read text ≡ Err flaw
      → checked_by text ≡ stops (no_policy_spelled flaw)
  unfolding policy_in
  checked-unspelled text flaw is = ap (λ r. policy_spelled r >>= judged_behind) is

  module _
      (events : List Event)
      (exit : Exit)
      (f g : FilesState)
      (happened : Happens events f g)
      (e : Ended (reads name MAX_POLICY_FILE (refused policy_too_long_line) checked_by) events exit)
    where
      -- where the policy's file gives none
      no_policy : (given : Given) (exit' : Exit) (rest : List Event)
          → e.asked ≡ was_read name MAX_POLICY_FILE given ∷ rest
          → went_on texts name (refused policy_too_long_line) checked_by given ≡ stops exit'
          → Follows texts rest (went_on texts name (refused policy_too_long_line) checked_by given)
          e.later → IsNoPolicy name given exit' → ChecksFrom IsFirstVerdict name file events exit
      no_policy given exit' rest is stop follows told =
          let there = stopped_there exit' rest e.later (was_read name MAX_POLICY_FILE given) events
          e.asked exit is
          (went_on texts name (refused policy_too_long_line) checked_by given) stop follows
          e.does in
          without_policy given there.0 (subst (IsNoPolicy name given) (sym there.1) told)

      -- where it spells one, the rest is what `check` does under it
      checked : (text : List ℕ) (policy : PolicyView) (rest : List Event)
          → policy_read text ≡ Ok policy
          → e.asked ≡ was_read name MAX_POLICY_FILE (whole text) ∷ rest
          → Follows texts rest (checked_by text) e.later → ChecksFrom IsFirstVerdict name file events exit
      checked text policy rest read is follows = by e.does
        where
          behind : Follows texts rest (judged_behind policy) e.later
          behind =
              subst (λ s. Follows texts rest s e.later) (checked-spelled text policy read) follows

          spells : SpellsPolicy text policy
          spells = (policies.spelled text policy).1 read

          by : ((events ≡ e.asked) × (exit ≡ end_at e.later) × (change_at e.later ≡ None))
              ⊎ ((text : List ℕ) × (to : List ℕ) × (bytes : List ℕ) × (answer : Put)
              × (e.later ≡ gives (record { text = text; change = Some (to, bytes) }))
              × (events ≡ e.asked ++ was_written to bytes answer ∷ [])
              × (exit ≡ written_exit texts to text answer)) → ChecksFrom IsFirstVerdict name file events exit
          by (inl d) =
              let split : events ≡ was_read name MAX_POLICY_FILE (whole text) ∷ rest = d.0 ∙ is in
              let at : Happens (was_read name MAX_POLICY_FILE (whole text) ∷ rest) f g =
              subst (λ es. Happens es f g) split happened in
              let c = checks gate policy file rest exit at.0 g at.3 (record {
                asked = rest;
                later = e.later;
                follows = behind;
                ended = e.ended;
                does = inl (refl, d.1, d.2);
              }) in
              with_policy text policy c.given spells (policies.kept text policy spells)
              (split ∙ ap (λ es. was_read name MAX_POLICY_FILE (whole text) ∷ es) c.one_read)
              c.judged
          by (inr d) =
              let on : List ℕ → Stage Effect =
              λ b. judged_by gate policy (first_refusal policy b) in
              let r = read_once file MAX_FILE (refused container_too_long_line) on
              (λ b. judged_by-ended gate policy (first_refusal policy b)) rest e.later
              e.ended behind in
              let none : None ≡ Some (d.1, d.2) =
              sym
              (went_on-silent file MAX_FILE (refused container_too_long_line) on
              (λ b. judged_by-ended gate policy (first_refusal policy b))
              (λ b. judged_by-silent gate policy (first_refusal policy b)) r.given)
              ∙ ap change_at (sym r.goes) ∙ ap change_at d.4 in
              absurd (true≢false (sym (ap is_some none)))

      checked_whole : (text : List ℕ) (rest : List Event) (r : Result PolicyView PolicyFlaw)
          → policy_read text ≡ r → e.asked ≡ was_read name MAX_POLICY_FILE (whole text) ∷ rest
          → Follows texts rest (checked_by text) e.later → ChecksFrom IsFirstVerdict name file events exit
      checked_whole text rest (Ok policy) read is follows =
          checked text policy rest read is follows
      checked_whole text rest (Err flaw) read is follows =
          no_policy (whole text) (no_policy_spelled flaw) rest is
          (checked-unspelled text flaw read) follows (flaw, policies.flawed text flaw read, refl)

      checked_given : (given : Given) (rest : List Event)
          → e.asked ≡ was_read name MAX_POLICY_FILE given ∷ rest
          → Follows texts rest (went_on texts name (refused policy_too_long_line) checked_by given)
          e.later → ChecksFrom IsFirstVerdict name file events exit
      checked_given (whole text) rest is follows =
          checked_whole text rest (policy_read text) refl is follows
      checked_given missing rest is follows =
          no_policy missing (missing_exit texts name) rest is refl follows refl
      checked_given too_long rest is follows =
          no_policy too_long (refused policy_too_long_line) rest is refl follows refl
      checked_given failed rest is follows =
          no_policy failed (read_fault_exit texts name) rest is refl follows refl
      checked_given no_memory rest is follows =
          no_policy no_memory no_memory_exit rest is refl follows refl

      pub checks_from : ChecksFrom IsFirstVerdict name file events exit
      checks_from =
          let r = first_read name MAX_POLICY_FILE (refused policy_too_long_line) checked_by e.asked
          e.later e.ended e.follows in
          checked_given r.given r.rest r.is r.follows
