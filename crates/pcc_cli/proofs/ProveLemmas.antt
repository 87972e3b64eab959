-- What the prover makes of bytes, or why it makes nothing, by the clauses before the proof and by the class.
use Rattle.std.proofs.Common.{◌≡◌, ℕ, Bool, true≢false, List, Option, Some, None, is_some, Result, Ok, Err, refl, sym, ap, ◌∙◌, subst}
use Rattle.alpha_words.specs.declared.insn.Insn.{Insn}
use Rattle.formula_tree.specs.Formulas.{Form}
use Rattle.policy_set.specs.Views.{PolicyView, IsPolicy}
use Rattle.term_table.specs.Bytes.{IsBytes}
use Rattle.term_table.specs.Tree.{Tree}
use Rattle.proof_container.specs.Contents.{Contents}
use Rattle.proof_container.specs.Encoding.{encoding_of}
use Rattle.proof_container.specs.Decoding.{decoded_container}
use Rattle.proof_container.specs.Versions.{profile_of}
use Rattle.proof_container.proofs.Whole.{container_again}
use Rattle.alpha_cfg.proofs.Readings.{decoded_code-ok}
use Rattle.pcc_gate.specs.declared.refusal.Refusal.{Refusal}
use Rattle.pcc_gate.specs.Passing.{Passes}
use Rattle.pcc_gate.specs.First.{lemma_refusal}
use Rattle.pcc_gate.specs.Clauses.{IsLemmaRefusal}
use Rattle.pcc_gate.proofs.Exactly.{good-none, none-good, lemma-is}
use Rattle.prover_class.specs.Parts.{condition_proof, first_not_easy}
use Rattle.prover_conditions.specs.Conditions.{condition_parts}
use Rattle.bounds_prover.specs.declared.fault.ProveFlaw.{ProveFlaw}
use Rattle.bounds_prover.specs.declared.fault.ProveFlaw.TheVariants.{Refused}
use Rattle.bounds_prover.specs.Proving.{with_proof, excess, encoded_unless, with_parts_proof, proved_contents}
use Rattle.bounds_prover.specs.Proving.{proved_code, proved_read, made_unless, proved_container}
use Rattle.bounds_prover.specs.ProvedLaws.{ProvedAccepted}
use Rattle.pcc_stages.specs.Exits.{Exit}
use Rattle.pcc_stages.specs.Stage.{stops, gives}
use Rattle.pcc_stages.proofs.RunLemmas.{is_stop, exit_at}
use Rattle.pcc_commands.specs.Stages.Proving.{no_container, container_proved, proved_in}
use Rattle.pcc_cli.specs.Headline.{Proves, ClassMakes, ProvesExactly, IsUnproved, IsUnprovedExactly, not_checked, not_in_class}

-- ---- a proof in contents

-- the proof in contents that are made
record HasProof (c : Contents) (out : List ℕ) : Type 0 where
  proof : Tree
  out_is : out ≡ encoding_of (with_proof c proof)

encoded_of : (o : Option ProveFlaw) (d : Contents) (out : List ℕ) → encoded_unless o d ≡ Ok out → out ≡ encoding_of d
encoded_of None d out e = cc
encoded_of (Some flaw) d out e = absurd cc

has_proof : (c : Contents) (parts : List Form) (out : List ℕ) → proved_contents c parts ≡ Ok out → HasProof c out
unfolding proved_contents
has_proof c parts out e = go (first_not_easy (is_some c.bound) 0 parts) (condition_proof (is_some c.bound) parts) e
  where
    go : (k : Option ℕ) (o : Option Tree) → with_parts_proof c k o ≡ Ok out → HasProof c out
    go (Some k) o e = absurd cc
    go None None e = absurd cc
    go None (Some p) e = record { proof = p; out_is = encoded_of (excess (with_proof c p) p) (with_proof c p) out e }

-- ---- what is made of bytes

module _ (under : PolicyView) (b : List ℕ) where
  -- where none of the clauses tried fails, it is made of their contents
  contents-made : (c : Contents) (code : List Insn) (marks : List Bool) → Passes under b c code marks → lemma_refusal under b ≡ None
      → proved_container under b ≡ proved_contents c (condition_parts under c.bound code c.invs)
  unfolding proved_container
  contents-made c code marks passes none =
      (λ i. made_unless (none i) (proved_read under (container_again b c passes.has.container i)))
      ∙ ap (proved_code under c)
      (sym (decoded_code-ok (profile_of c.version) c.code code passes.has.encoded passes.has.code))

  -- else it is refused
  refused-made : (r : Refusal) → lemma_refusal under b ≡ Some r → proved_container under b ≡ Err (Refused r)
  unfolding proved_container
  refused-made r e = ap (λ o. made_unless o (proved_read under (decoded_container b))) e

-- ---- the answer

-- the prover's answer is the first of the clauses that fails, or what the class makes
pub data Answered (under : PolicyView) (b : List ℕ) (made : Result (List ℕ) ProveFlaw) : Type 0 where
  refuses : (r : Refusal) → IsLemmaRefusal under b r → made ≡ Err (Refused r) → Answered under b made
  searches : ClassMakes under b made → Answered under b made

module _ (under : PolicyView) (b : List ℕ) where
  module _ (fits : IsBytes b) where
    answered_by : (o : Option Refusal) → lemma_refusal under b ≡ o → Answered under b (proved_container under b)
    answered_by (Some r) e = refuses r ((lemma-is under b r fits).0 e) (refused-made under b r e)
    answered_by None e =
        let h = none-good under b fits e in
        searches (record {
          contents = h.contents;
          code = h.code;
          marks = h.marks;
          passes = h.passes;
          lemmas = h.good;
          parts = sym (contents-made under b h.contents h.code h.marks h.passes e);
        })

    pub answered : Answered under b (proved_container under b)
    answered = answered_by (lemma_refusal under b) refl

  -- the class's answer is the prover's
  pub class_answers : (made : Result (List ℕ) ProveFlaw) → ClassMakes under b made → proved_container under b ≡ made
  class_answers made c =
      contents-made under b c.contents c.code c.marks c.passes (good-none under b c.contents c.code c.marks c.passes c.lemmas)
      ∙ c.parts

  -- so is a refusal
  pub refusal_answers : (r : Refusal) → IsBytes b → IsLemmaRefusal under b r → proved_container under b ≡ Err (Refused r)
  refusal_answers r fits is = refused-made under b r ((lemma-is under b r fits).1 is)

-- ---- what is made

module _ (under : PolicyView) (b out : List ℕ) where
  class_by : (made : Result (List ℕ) ProveFlaw) → Answered under b made → made ≡ Ok out → ClassMakes under b (Ok out)
  class_by made (refuses r first e) at = let wrong : Err (Refused r) ≡ Ok out = sym e ∙ at in absurd cc
  class_by made (searches c) at = subst (ClassMakes under b) at c

  pub class_of : IsBytes b → proved_container under b ≡ Ok out → ClassMakes under b (Ok out)
  class_of fits e = class_by (proved_container under b) (answered under b fits) e

module _ (accepted : ProvedAccepted) (under : PolicyView) (kept : IsPolicy under) (b out : List ℕ) (fits : IsBytes b) where
  made_proves : proved_container under b ≡ Ok out → ClassMakes under b (Ok out) → Proves under b out
  made_proves e c =
      let m = has_proof c.contents (condition_parts under c.contents.bound c.code c.contents.invs) out c.parts in
      record {
        contents = c.contents;
        proof = m.proof;
        given = c.passes.has.container;
        made = m.out_is;
        accepted = accepted under b out kept fits e;
      }

  pub proves_by : proved_container under b ≡ Ok out → ProvesExactly under b out
  proves_by e =
      let class : ClassMakes under b (Ok out) = class_of under b out fits e in
      record { proves = made_proves e class; exactly = class }

  proved_value : (r : Result (List ℕ) ProveFlaw) → container_proved r ≡ gives out → r ≡ Ok out
  proved_value (Ok bytes) e = cc
  proved_value (Err flaw) e = absurd (true≢false (ap is_stop e))

  pub proves_of_stage : proved_in under b ≡ gives out → ProvesExactly under b out
  unfolding proved_in
  proves_of_stage e = proves_by (proved_value (proved_container under b) e)

-- ---- why nothing is made

module _ (under : PolicyView) (b : List ℕ) (exit : Exit) (fits : IsBytes b) where
  unproved_flaw : (r : Result (List ℕ) ProveFlaw) → container_proved r ≡ stops exit → (flaw : ProveFlaw) × (r ≡ Err flaw) × (exit ≡ no_container flaw)
  unproved_flaw (Ok bytes) e = absurd (true≢false (sym (ap is_stop e)))
  unproved_flaw (Err flaw) e = (flaw, refl, sym (ap exit_at e))

  unproved_by : (made : Result (List ℕ) ProveFlaw) → Answered under b made
      → (flaw : ProveFlaw) → made ≡ Err flaw → exit ≡ no_container flaw → IsUnprovedExactly under b exit
  unproved_by made (refuses r first e) flaw at told =
      let both : Err (Refused r) ≡ Err flaw = sym e ∙ at in
      let same : flaw ≡ Refused r = cc in
      not_checked r first (told ∙ ap no_container same)
  unproved_by made (searches c) flaw at told = not_in_class flaw (subst (ClassMakes under b) at c) told

  pub unproved_of_stage : proved_in under b ≡ stops exit → IsUnprovedExactly under b exit
  unfolding proved_in
  unproved_of_stage e =
      let f = unproved_flaw (proved_container under b) e in
      unproved_by (proved_container under b) (answered under b fits) f.0 f.1 f.2

-- it is some flaw
pub unproved_some : (under : PolicyView) (b : List ℕ) (exit : Exit) → IsUnprovedExactly under b exit → IsUnproved b exit
unproved_some under b exit (not_checked r first told) = (Refused r, told)
unproved_some under b exit (not_in_class flaw class told) = (flaw, told)

-- ---- back to the stage

module _ (under : PolicyView) (b : List ℕ) where
  pub proves_back : (out : List ℕ) → ClassMakes under b (Ok out) → proved_in under b ≡ gives out
  unfolding proved_in
  proves_back out c = ap container_proved (class_answers under b (Ok out) c)

  pub unproved_back : (exit : Exit) → IsBytes b → IsUnprovedExactly under b exit → proved_in under b ≡ stops exit
  unfolding proved_in
  unproved_back exit fits (not_checked r first told) =
      ap container_proved (refusal_answers under b r fits first) ∙ ap stops (sym told)
  unproved_back exit fits (not_in_class flaw class told) =
      ap container_proved (class_answers under b (Err flaw) class) ∙ ap stops (sym told)
