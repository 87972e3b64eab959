-- A worked container with a bound on its steps is accepted, clause by clause: its code is a load and
-- a return, and its bound the two steps that they are.
use Rattle.std.proofs.Common.{◌≡◌, ℕ, ◌≤◌, Bool, true, List, [], ◌∷◌, length, Some, None, refl, sym, subst, arith}
use Rattle.std.specs.Prelude.{nat_le}
use Rattle.std.proofs.lemmas.Bool.{leb-true}
use Rattle.std.proofs.lemmas.Option.{none-some}
use Rattle.word_ops.specs.declared.Op.TheVariants.{Sub}
use Rattle.word_ops.specs.declared.Rel.TheVariants.{Ult}
use Rattle.alpha_cfg.specs.CodeBytes.{EncodesCode}
use Rattle.alpha_cfg.specs.CodeDecoding.{decoded_code}
use Rattle.alpha_cfg.specs.Deciding.{flags_of}
use Rattle.alpha_cfg.specs.Flow.{IsCode}
use Rattle.formula_tree.specs.Formulas.{Exp, EVar, ELit, EOp, Form, FTrue, FRel, FAnd, FImp, FAll}
use Rattle.lf_terms.specs.Encoding.{form_encoding}
use Rattle.lf_terms.specs.ProofTerms.{tt_i, and_i, and_l, imp_i, all_i, move, swap, calc, fact}
use Rattle.lf_encode.specs.Contexts.{machine_names}
use Rattle.lf_signature.specs.Constants.{declared, constant_types, the_rules}
use Rattle.lf_signature.specs.declared.editions.WordSignature.TheVariants.{Sigma3}
use Rattle.lf_signature.specs.Terms.{pf}
use Rattle.lf_signature.specs.Typing.{Checks}
use Rattle.lf_signature.specs.Decide.{checks_of}
use Rattle.lf_signature.specs.Laws.Decided.{checks_follows}
use Rattle.policy_set.specs.declared.kind.PolicyKind.TheVariants.{Tag}
use Rattle.policy_set.specs.Digest.{digest_of}
use Rattle.policy_set.specs.Views.{built_in}
use Rattle.proof_container.specs.Contents.{Contents, roots}
use Rattle.proof_container.specs.declared.container.Head.TheVariants.{Digest}
use Rattle.proof_container.specs.Encoding.{IsContents, policy_bytes, bound_fields, encoding_of}
use Rattle.proof_container.specs.Postorder.{entries}
use Rattle.proof_container.proofs.Written.{length-encoding_of}
use Rattle.term_table.specs.Tree.{Tree, Var}
use Rattle.vcgen.specs.Assignments.{unchanged}
use Rattle.vcgen.specs.Conditions.{condition}
use Rattle.vcgen.specs.Encoded.{annotated}
use Rattle.word_ops.specs.declared.Profile.TheVariants.{Two}
use Rattle.pcc_gate.specs.First.{first_some, shape_found}
use Rattle.pcc_gate.specs.Clauses.{HasCode}
use Rattle.pcc_gate.specs.Passing.{Passes}
use Rattle.pcc_gate.specs.Weights.{proof_weight}
use Rattle.pcc_gate.specs.Witness.{load_and_return, BoundIsAccepted}
use Rattle.pcc_gate.proofs.Digests.{digest-head}
use Rattle.pcc_gate.proofs.Ready.{are_ready, all_ready, bytes_from, all_nodes, few_of, all_fields_few}
use Rattle.pcc_gate.proofs.Flags.{annotated_flags}
use Rattle.pcc_gate.proofs.ByClause.{from-proof}
use Rattle.pcc_gate.proofs.Exactly.{passes-by}
use Rattle.pcc_gate.proofs.Witness.{first_read, asked_rest, asked, closing, closed, told, encoded_as, none_added}

-- ---- what has to be proved

-- (sub 2 1): what is left behind the load
abbrev one_left : Exp
one_left = EOp Sub (ELit 2) (ELit 1)

-- a step is left
abbrev some_left : Exp → Form
some_left e = FRel Ult (ELit 0) e

-- what has to hold behind the load, before it, and at the start
abbrev behind_load : Form
behind_load = FAnd (some_left one_left) FTrue

abbrev load_may : ℕ → Form
load_may d = FAnd (first_read d) behind_load

abbrev before_load : ℕ → Form
before_load d = FAnd (some_left (ELit 2)) (load_may d)

abbrev part : Form
part = FImp (asked 0) (before_load 0)

-- for all numbers of steps that are left, m and r0 to r30
abbrev said : Form
said = FAnd (FAll (closed part)) FTrue

-- ---- its proof

abbrev left_proof : Tree
left_proof =
    move (FRel Ult (ELit 0) (EVar 0)) (ELit 1) one_left (swap one_left (ELit 1) (calc Sub 2 1))
    (fact Ult 0 1)

abbrev part_proof : Tree
part_proof =
    imp_i (asked 0) (before_load 0)
    (and_i (some_left (ELit 2)) (load_may 1) (fact Ult 0 2)
    (and_i (first_read 1) behind_load (and_l (first_read 1) (asked_rest 1) (Var 0))
    (and_i (some_left one_left) FTrue left_proof tt_i)))

unfoldable whole_proof : Tree
whole_proof = and_i (FAll (closed part)) FTrue (all_i (closed part) (closing part part_proof)) tt_i

-- ---- the container

abbrev load_bytes : List ℕ
load_bytes = 0x00 ∷ 0x00 ∷ 0x10 ∷ 0xA4 ∷ 0x01 ∷ 0x80 ∷ 0xFA ∷ 0x6B ∷ []

abbrev contents : Contents
contents =
    record {
      version = 3;
      head = Digest (digest_of (built_in Tag));
      bound = Some 2;
      code = load_bytes;
      invs = [];
      lemmas = [];
      proof = Some whole_proof;
    }

abbrev marks : List Bool
marks = flags_of [] 2

-- ---- clause by clause

nodes_few : nat_le (all_nodes (roots contents)) 100000 ≡ true
unfolding whole_proof
nodes_few = refl

entries_few : length (entries (roots contents)) ≤ 100000
entries_few =
    omega (arith, few_of (roots contents), leb-true (all_nodes (roots contents)) 100000 nodes_few)

terms_ready : are_ready 3 (roots contents) ≡ true
unfolding whole_proof
terms_ready = refl

is_contents : IsContents contents
is_contents = record {
  version = (omega arith, omega arith);
  head = digest-head (built_in Tag) 3 refl;
  bound = (refl, omega arith, omega arith);
  bytes = bytes_from load_bytes refl;
  whole = refl;
  some = omega arith;
  short = omega arith;
  terms = all_ready 3 (roots contents) terms_ready;
  entries = omega (arith, entries_few);
  invs = omega arith;
  rising = tt;
  lemmas = tt;
}

head_size : length (policy_bytes contents.head) ≡ 32
head_size = (digest-head (built_in Tag) 3 refl).1

one_bound : length (bound_fields contents.bound) ≡ 1
one_bound = refl

size : length (encoding_of contents) ≤ 4194304
size =
    omega (
      arith,
      head_size,
      one_bound,
      length-encoding_of contents,
      all_fields_few (entries (roots contents)),
      entries_few,
    )

decoded : decoded_code Two load_bytes ≡ told load_and_return
unfolding decoded_code
decoded = refl

encoded : EncodesCode Two load_bytes load_and_return × IsCode load_and_return
encoded = encoded_as Two load_bytes load_and_return refl (omega arith) (omega arith) decoded

is_said : form_encoding (condition (annotated (built_in Tag) (Some 2) load_and_return []))
    ≡ form_encoding said
unfolding machine_names unchanged
is_said = refl

checked : checks_of (declared Sigma3) whole_proof [] (pf (form_encoding said)) ≡ true
unfolding whole_proof constant_types the_rules
checked = refl

light : nat_le (proof_weight Sigma3 [] whole_proof) 1048576 ≡ true
unfolding whole_proof
light = refl

-- nothing is found of them
none : first_some (shape_found Sigma3 contents load_and_return) ≡ None
unfolding whole_proof
none = refl

held : HasCode (encoding_of contents) contents load_and_return
held = record {
  container = record { contents = is_contents; encoded = refl };
  encoded = encoded.0;
  code = encoded.1;
}

passes : Passes (built_in Tag) (encoding_of contents) contents load_and_return marks
passes =
    passes-by (built_in Tag) (encoding_of contents) contents load_and_return marks size refl held
    (annotated_flags Two contents load_and_return is_contents encoded.0) none

pub bound_is_accepted : BoundIsAccepted
bound_is_accepted = record {
  bytes = encoding_of contents;
  contents = contents;
  marks = marks;
  bound = refl;
  accepts = from-proof passes (record {
    proof = whole_proof;
    vc = form_encoding said;
    given = refl;
    weight = leb-true (proof_weight Sigma3 [] whole_proof) 1048576 light;
    lemmas = λ n l e. absurd (none-some l e);
    condition = record { formulas = []; encoded = tt; is = is_said };
    proved =
        subst (λ sig. Checks sig [] whole_proof (pf (form_encoding said))) (sym (none_added Sigma3))
        (checks_follows (declared Sigma3) whole_proof [] (pf (form_encoding said)) checked);
  });
}
