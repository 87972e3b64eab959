-- The worked container in version 2 is accepted, clause by clause: the policy's digest stands in
-- place of its number, and what it holds else is the same.
use Rattle.std.proofs.Common.{◌≡◌, ◌≤◌, true, [], ◌∷◌, length, Some, None, refl, sym, subst, arith}
use Rattle.std.specs.Prelude.{nat_le}
use Rattle.std.proofs.lemmas.Bool.{leb-true}
use Rattle.std.proofs.lemmas.Option.{none-some}
use Rattle.alpha_cfg.specs.CodeBytes.{EncodesCode}
use Rattle.alpha_cfg.specs.CodeDecoding.{decoded_code}
use Rattle.alpha_cfg.specs.Flow.{IsCode}
use Rattle.lf_terms.specs.Encoding.{form_encoding}
use Rattle.lf_encode.specs.Contexts.{machine_context, machine_names}
use Rattle.lf_signature.specs.Constants.{declared, constant_types, the_rules}
use Rattle.lf_signature.specs.declared.editions.WordSignature.TheVariants.{Sigma2}
use Rattle.lf_signature.specs.Terms.{pf}
use Rattle.lf_signature.specs.Typing.{Checks}
use Rattle.lf_signature.specs.Decide.{checks_of}
use Rattle.lf_signature.specs.Laws.Decided.{checks_follows}
use Rattle.policy_set.specs.declared.kind.PolicyKind.TheVariants.{Tag}
use Rattle.policy_set.specs.Digest.{digest_of}
use Rattle.policy_set.specs.Views.{built_in}
use Rattle.proof_container.specs.Contents.{Contents, roots}
use Rattle.proof_container.specs.declared.container.Head.TheVariants.{Digest}
use Rattle.proof_container.specs.Encoding.{IsContents, policy_bytes, bound_fields, encoding_of}
use Rattle.proof_container.specs.Postorder.{entries}
use Rattle.proof_container.proofs.Written.{length-encoding_of}
use Rattle.word_ops.specs.declared.Profile.TheVariants.{Two}
use Rattle.pcc_gate.specs.First.{first_some, shape_found}
use Rattle.pcc_gate.specs.Clauses.{HasCode}
use Rattle.pcc_gate.specs.Passing.{Passes}
use Rattle.pcc_gate.specs.Weights.{proof_weight}
use Rattle.pcc_gate.specs.Witness.{loop_code, DigestIsAccepted}
use Rattle.pcc_gate.proofs.Digests.{digest-head}
use Rattle.pcc_gate.proofs.Ready.{are_ready, all_ready, all_nodes, few_of, all_fields_few}
use Rattle.pcc_gate.proofs.Flags.{annotated_flags}
use Rattle.pcc_gate.proofs.ByClause.{from-proof}
use Rattle.pcc_gate.proofs.Exactly.{passes-by}
use Rattle.pcc_gate.proofs.Witness.{whole_proof, code_bytes, code_is_bytes, marks, inv_term, invariant, said, is_said, over, told, encoded_in, none_added}

abbrev contents : Contents
contents =
    record {
      version = 2;
      head = Digest (digest_of (built_in Tag));
      bound = None;
      code = code_bytes;
      invs = (2, inv_term) ∷ [];
      lemmas = [];
      proof = Some whole_proof;
    }

-- ---- clause by clause

nodes_few : nat_le (all_nodes (roots contents)) 100000 ≡ true
unfolding whole_proof
nodes_few = refl

entries_few : length (entries (roots contents)) ≤ 100000
entries_few =
    omega (arith, few_of (roots contents), leb-true (all_nodes (roots contents)) 100000 nodes_few)

terms_ready : are_ready 2 (roots contents) ≡ true
unfolding whole_proof
terms_ready = refl

is_contents : IsContents contents
is_contents = record {
  version = (omega arith, omega arith);
  head = digest-head (built_in Tag) 2 refl;
  bound = refl;
  bytes = code_is_bytes;
  whole = refl;
  some = omega arith;
  short = omega arith;
  terms = all_ready 2 (roots contents) terms_ready;
  entries = omega (arith, entries_few);
  invs = omega arith;
  rising = (omega arith, omega arith, tt);
  lemmas = tt;
}

head_size : length (policy_bytes contents.head) ≡ 32
head_size = (digest-head (built_in Tag) 2 refl).1

no_bound : length (bound_fields contents.bound) ≡ 0
no_bound = refl

size : length (encoding_of contents) ≤ 4194304
size =
    omega (
      arith,
      head_size,
      no_bound,
      length-encoding_of contents,
      all_fields_few (entries (roots contents)),
      entries_few,
    )

decoded : decoded_code Two code_bytes ≡ told loop_code
unfolding decoded_code
decoded = refl

encoded : EncodesCode Two code_bytes loop_code × IsCode loop_code
encoded = encoded_in Two decoded

checked : checks_of (declared Sigma2) whole_proof [] (pf (form_encoding said)) ≡ true
unfolding whole_proof constant_types the_rules
checked = refl

light : nat_le (proof_weight Sigma2 [] whole_proof) 1048576 ≡ true
unfolding whole_proof
light = refl

-- nothing is found of them
none : first_some (shape_found Sigma2 contents loop_code) ≡ None
unfolding whole_proof constant_types the_rules machine_context
none = refl

held : HasCode (encoding_of contents) contents loop_code
held = record {
  container = record { contents = is_contents; encoded = refl };
  encoded = encoded.0;
  code = encoded.1;
}

passes : Passes (built_in Tag) (encoding_of contents) contents loop_code marks
passes =
    passes-by (built_in Tag) (encoding_of contents) contents loop_code marks size refl held
    (annotated_flags Two contents loop_code is_contents encoded.0) none

pub digest_is_accepted : DigestIsAccepted
unfolding machine_names machine_context
digest_is_accepted = record {
  bytes = encoding_of contents;
  contents = contents;
  marks = marks;
  version = refl;
  accepts = from-proof passes (record {
    proof = whole_proof;
    vc = form_encoding said;
    given = refl;
    weight = leb-true (proof_weight Sigma2 [] whole_proof) 1048576 light;
    lemmas = λ n l e. absurd (none-some l e);
    condition = record {
      formulas = (2, invariant) ∷ [];
      encoded = (refl, record { over = over; is = refl }, tt);
      is = is_said;
    };
    proved =
        subst (λ sig. Checks sig [] whole_proof (pf (form_encoding said))) (sym (none_added Sigma2))
        (checks_follows (declared Sigma2) whole_proof [] (pf (form_encoding said)) checked);
  });
}
