-- A worked container with a lemma, which the proof cites, is accepted, clause by clause: the code is
-- that of the container without, and what its proof says of the loop is the lemma.
use Rattle.std.proofs.Common.{◌≡◌, zero, suc, ◌≤◌, true, false, List, [], ◌∷◌, length, Some, None, refl, subst, arith}
use Rattle.std.specs.Prelude.{nat_le}
use Rattle.std.proofs.lemmas.Bool.{leb-true}
use Rattle.std.proofs.lemmas.Option.{none-some}
use Rattle.alpha_cfg.specs.CodeBytes.{EncodesCode}
use Rattle.alpha_cfg.specs.CodeDecoding.{decoded_code}
use Rattle.alpha_cfg.specs.Flow.{IsCode}
use Rattle.formula_tree.specs.Formulas.{FTrue, FAnd}
use Rattle.lf_terms.specs.Encoding.{form_encoding}
use Rattle.lf_terms.specs.ProofTerms.{tt_i, and_i}
use Rattle.lf_encode.specs.Contexts.{machine_context, machine_names}
use Rattle.lf_signature.specs.Constants.{declared, constant_types, the_rules}
use Rattle.lf_signature.specs.declared.editions.WordSignature.TheVariants.{Sigma2}
use Rattle.lf_signature.specs.Terms.{pf}
use Rattle.lf_signature.specs.Typing.{Checks}
use Rattle.lf_signature.specs.Decide.{checks_of}
use Rattle.lf_signature.specs.Laws.Decided.{checks_follows}
use Rattle.lf_lemmas.specs.Lemmas.{formulas_of, with_lemmas}
use Rattle.lf_lemmas.specs.Checking.{LemmasCheck}
use Rattle.lf_lemmas.specs.WrittenOut.{cites_below}
use Rattle.policy_set.specs.declared.kind.PolicyKind.TheVariants.{Tag}
use Rattle.policy_set.specs.Digest.{digest_of}
use Rattle.policy_set.specs.Views.{built_in}
use Rattle.proof_container.specs.Contents.{Contents, roots}
use Rattle.proof_container.specs.declared.container.Head.TheVariants.{Digest}
use Rattle.proof_container.specs.Encoding.{IsContents, policy_bytes, bound_fields, encoding_of}
use Rattle.proof_container.specs.Postorder.{entries}
use Rattle.proof_container.proofs.Written.{length-encoding_of}
use Rattle.term_table.proofs.Options.{some_injective}
use Rattle.term_table.specs.Tree.{Tree, Con, Lemma}
use Rattle.word_ops.specs.declared.Profile.TheVariants.{Two}
use Rattle.pcc_gate.specs.First.{first_some, shape_found}
use Rattle.pcc_gate.specs.Clauses.{HasCode}
use Rattle.pcc_gate.specs.Passing.{Passes}
use Rattle.pcc_gate.specs.Weights.{proof_weight}
use Rattle.pcc_gate.specs.Witness.{loop_code, LemmaIsAccepted}
use Rattle.pcc_gate.proofs.Digests.{digest-head}
use Rattle.pcc_gate.proofs.Ready.{are_ready, all_ready, all_nodes, few_of, all_fields_few}
use Rattle.pcc_gate.proofs.Flags.{annotated_flags}
use Rattle.pcc_gate.proofs.ByClause.{from-proof}
use Rattle.pcc_gate.proofs.Exactly.{passes-by}
use Rattle.pcc_gate.proofs.Witness.{closing, closed, entry_proof, loop_proof, entry_part, loop_part, code_bytes, code_is_bytes, marks, inv_term, invariant, said, is_said, over, told, encoded_in}

-- ---- the container

-- the lemma's formula
abbrev lemma_form : Tree
lemma_form = form_encoding (closed loop_part)

-- its proof
unfoldable lemma_proof : Tree
lemma_proof = closing loop_part loop_proof

-- a proof that cites it
unfoldable citing_proof : Tree
citing_proof =
    and_i (closed entry_part) (FAnd (closed loop_part) FTrue) (closing entry_part entry_proof)
    (and_i (closed loop_part) FTrue (Con (Lemma 0)) tt_i)

abbrev lemmas : List (Tree × Tree)
lemmas = (lemma_form, lemma_proof) ∷ []

abbrev contents : Contents
contents =
    record {
      version = 4;
      head = Digest (digest_of (built_in Tag));
      bound = None;
      code = code_bytes;
      invs = (2, inv_term) ∷ [];
      lemmas = lemmas;
      proof = Some citing_proof;
    }

-- ---- clause by clause

nodes_few : nat_le (all_nodes (roots contents)) 100000 ≡ true
unfolding lemma_proof citing_proof
nodes_few = refl

entries_few : length (entries (roots contents)) ≤ 100000
entries_few =
    omega (arith, few_of (roots contents), leb-true (all_nodes (roots contents)) 100000 nodes_few)

terms_ready : are_ready 4 (roots contents) ≡ true
unfolding lemma_proof citing_proof
terms_ready = refl

is_contents : IsContents contents
is_contents = record {
  version = (omega arith, omega arith);
  head = digest-head (built_in Tag) 4 refl;
  bound = refl;
  bytes = code_is_bytes;
  whole = refl;
  some = omega arith;
  short = omega arith;
  terms = all_ready 4 (roots contents) terms_ready;
  entries = omega (arith, entries_few);
  invs = omega arith;
  rising = (omega arith, omega arith, tt);
  lemmas = (refl, omega arith);
}

head_size : length (policy_bytes contents.head) ≡ 32
head_size = (digest-head (built_in Tag) 4 refl).1

no_bound : length (bound_fields contents.bound) ≡ 0
no_bound = refl

size : length (encoding_of contents) ≤ 4194304
size =
    omega (
      arith,
      head_size,
      no_bound,
      length-encoding_of contents,
      all_fields_few (entries (roots contents)),
      entries_few,
    )

decoded : decoded_code Two code_bytes ≡ told loop_code
unfolding decoded_code
decoded = refl

encoded : EncodesCode Two code_bytes loop_code × IsCode loop_code
encoded = encoded_in Two decoded

lemma_checked : checks_of (with_lemmas (declared Sigma2) []) lemma_proof [] (pf lemma_form) ≡ true
unfolding lemma_proof constant_types the_rules
lemma_checked = refl

lemmas_check : LemmasCheck (declared Sigma2) lemmas
lemmas_check zero l e =
    subst (λ (x : Tree × Tree). Checks (with_lemmas (declared Sigma2) []) [] x.1 (pf x.0))
    (some_injective e)
    (checks_follows (with_lemmas (declared Sigma2) []) lemma_proof [] (pf lemma_form) lemma_checked)
lemmas_check (suc n) l e = absurd (none-some l e)

checked : checks_of (with_lemmas (declared Sigma2) (formulas_of lemmas)) citing_proof []
    (pf (form_encoding said)) ≡ true
unfolding citing_proof constant_types the_rules
checked = refl

cites : cites_below 0 citing_proof ≡ false
unfolding citing_proof
cites = refl

light : nat_le (proof_weight Sigma2 lemmas citing_proof) 1048576 ≡ true
unfolding lemma_proof citing_proof
light = refl

-- nothing is found of them
none : first_some (shape_found Sigma2 contents loop_code) ≡ None
unfolding lemma_proof citing_proof constant_types the_rules machine_context
none = refl

held : HasCode (encoding_of contents) contents loop_code
held = record {
  container = record { contents = is_contents; encoded = refl };
  encoded = encoded.0;
  code = encoded.1;
}

passes : Passes (built_in Tag) (encoding_of contents) contents loop_code marks
passes =
    passes-by (built_in Tag) (encoding_of contents) contents loop_code marks size refl held
    (annotated_flags Two contents loop_code is_contents encoded.0) none

pub lemma_is_accepted : LemmaIsAccepted
unfolding machine_names machine_context
lemma_is_accepted = record {
  bytes = encoding_of contents;
  contents = contents;
  marks = marks;
  lemma = (lemma_form, lemma_proof);
  proof = citing_proof;
  lemmas = refl;
  given = refl;
  cites = cites;
  accepts = from-proof passes (record {
    proof = citing_proof;
    vc = form_encoding said;
    given = refl;
    weight = leb-true (proof_weight Sigma2 lemmas citing_proof) 1048576 light;
    lemmas = lemmas_check;
    condition = record {
      formulas = (2, invariant) ∷ [];
      encoded = (refl, record { over = over; is = refl }, tt);
      is = is_said;
    };
    proved =
        checks_follows (with_lemmas (declared Sigma2) (formulas_of lemmas)) citing_proof []
        (pf (form_encoding said)) checked;
  });
}
