-- The worked container with a load, a store and a loop is accepted, clause by clause.
use Rattle.std.proofs.Common.{◌≡◌, ℕ, zero, suc, ◌+◌, ◌*◌, ◌/◌, ◌<◌, ◌≤◌, inl, inr, Bool, true, List, [], ◌∷◌, length}
use Rattle.std.proofs.Common.{Some, None, Result, Ok, Err, refl, sym, ◌∙◌, subst, arith}
use Rattle.std.specs.Prelude.{nat_le}
use Rattle.std.proofs.lemmas.Bool.{leb-true}
use Rattle.std.proofs.lemmas.Option.{none-some}
use Rattle.word_ops.specs.declared.Op.TheVariants.{Add}
use Rattle.word_ops.specs.declared.Rel.TheVariants.{Eq}
use Rattle.alpha_words.specs.declared.insn.Insn.{Insn}
use Rattle.alpha_cfg.specs.declared.code.TheConstants.{MAX_WORDS}
use Rattle.alpha_cfg.specs.declared.fault.CodeFlaw.{CodeFlaw}
use Rattle.alpha_cfg.specs.declared.fault.CodeFault.TheVariants as fault
use Rattle.alpha_cfg.specs.CodeBytes.{EncodesCode}
use Rattle.alpha_cfg.specs.CodeDecoding.{decoded_code}
use Rattle.alpha_cfg.specs.Deciding.{flags_of}
use Rattle.alpha_cfg.specs.Flow.{IsCode}
use Rattle.alpha_cfg.proofs.Readings.{decoded_code-ok, IsDecoded-IsCodeAnswer}
use Rattle.formula_tree.specs.Formulas.{Exp, EReg, EVar, ELit, EOp, ESel, MVar, Form, FTrue, FFalse, FRel, FRd, FWr, FAnd, FImp, FAllm}
use Rattle.lf_terms.specs.Encoding.{form_encoding}
use Rattle.lf_terms.specs.ProofTerms.{tt_i, and_i, and_l, and_r, imp_i, imp_e, all_i, allm_i}
use Rattle.lf_encode.specs.Contexts.{machine_context, machine_names, IsFormIn}
use Rattle.lf_signature.specs.Constants.{declared, constant_types, the_rules}
use Rattle.lf_signature.specs.Terms.{pf}
use Rattle.lf_signature.specs.Decide.{checks_of}
use Rattle.lf_signature.specs.Laws.Decided.{checks_follows}
use Rattle.lf_signature.specs.Typing.{Checks}
use Rattle.lf_lemmas.specs.Lemmas.{with_lemmas}
use Rattle.policy_set.specs.declared.kind.PolicyKind.TheVariants.{Tag}
use Rattle.policy_set.specs.Views.{built_in}
use Rattle.proof_container.specs.Contents.{Contents, roots}
use Rattle.proof_container.specs.declared.container.Head.TheVariants.{Number}
use Rattle.term_table.specs.Bytes.{IsBytes}
use Rattle.proof_container.specs.Encoding.{IsContents, policy_bytes, bound_fields, encoding_of}
use Rattle.proof_container.specs.Postorder.{entries}
use Rattle.proof_container.proofs.Written.{length-encoding_of}
use Rattle.term_table.specs.Tree.{Tree, Const, Var, Lemma}
use Rattle.vcgen.specs.Assignments.{unchanged}
use Rattle.vcgen.specs.Conditions.{alls, condition}
use Rattle.vcgen.specs.Encoded.{annotated}
use Rattle.pcc_gate.specs.First.{first_some, shape_found}
use Rattle.pcc_gate.specs.Clauses.{HasCode}
use Rattle.pcc_gate.specs.Passing.{Passes}
use Rattle.pcc_gate.specs.Weights.{proof_weight}
use Rattle.pcc_gate.specs.Witness.{loop_code, LoopIsAccepted}
use Rattle.pcc_gate.proofs.Ready.{are_ready, all_ready, bytes_from, all_nodes, few_of, all_fields_few}
use Rattle.pcc_gate.proofs.CodeBytes.{code_decided}
use Rattle.pcc_gate.proofs.Flags.{annotated_flags}
use Rattle.pcc_gate.proofs.ByClause.{from-proof}
use Rattle.pcc_gate.proofs.Exactly.{passes-by}
use Rattle.lf_signature.specs.declared.editions.WordSignature.TheVariants.{Sigma1}
use Rattle.lf_signature.specs.declared.editions.WordSignature.{WordSignature}
use Rattle.word_ops.specs.declared.Profile.{Profile}
use Rattle.word_ops.specs.declared.Profile.TheVariants.{One}

-- ---- formulas, under so many binders besides those of m and r0 to r30

-- (add r16 n)
abbrev place : ℕ → ℕ → Exp
place d n = EOp Add (EVar (14 + d)) (ELit n)

abbrev pub first_read : ℕ → Form
first_read d = FRd (place d 0)

abbrev second_read : ℕ → Form
second_read d = FRd (place d 8)

abbrev second_written : ℕ → Form
second_written d = FWr (place d 8)

-- the first word is 0, and isn't
abbrev first_zero : ℕ → Form
first_zero d = FRel Eq (ESel (MVar (31 + d)) (place d 0)) (ELit 0)

abbrev first_set : ℕ → Form
first_set d = FImp (first_zero d) FFalse

-- what `tag` asks
abbrev pub asked_rest : ℕ → Form
asked_rest d = FAnd (second_read d) (FImp (first_set d) (second_written d))

abbrev pub asked : ℕ → Form
asked d = FAnd (first_read d) (asked_rest d)

-- the invariant of the store
abbrev pub kept : ℕ → Form
kept d = FAnd (first_read d) (second_written d)

-- what has to hold before the first instruction, and before the store
abbrev branches : ℕ → Form
branches d = FAnd (FImp (first_zero d) FTrue) (FImp (first_set d) (kept d))

abbrev before_load : ℕ → Form
before_load d = FAnd (first_read d) (branches d)

abbrev before_store : ℕ → Form
before_store d = FAnd (second_written d) (FAnd (first_read d) (kept d))

-- ---- proofs

-- of a formula under quantifiers over words
abbrev pub all_is : ℕ → Form → Tree → Tree
all_is zero F p = p
all_is (suc n) F p = all_i (alls n F) (all_is n F p)

-- and over m and the registers
abbrev pub closing : Form → Tree → Tree
closing F p = allm_i (alls 31 F) (all_is 31 F p)

-- the rights behind the branch, from what is asked and that the first word isn't 0
abbrev behind_branch : Tree
behind_branch =
    and_i (first_read 2) (second_written 2) (and_l (first_read 2) (asked_rest 2) (Var 1))
    (imp_e (first_set 2) (second_written 2) (and_r (second_read 2) (FImp (first_set 2) (second_written 2)) (and_r (first_read 2) (asked_rest 2) (Var 1))) (Var 0))

abbrev pub entry_proof : Tree
entry_proof =
    imp_i (asked 0) (before_load 0)
    (and_i (first_read 1) (branches 1) (and_l (first_read 1) (asked_rest 1) (Var 0))
    (and_i (FImp (first_zero 1) FTrue) (FImp (first_set 1) (kept 1)) (imp_i (first_zero 1) FTrue tt_i) (imp_i (first_set 1) (kept 1) behind_branch)))

abbrev pub loop_proof : Tree
loop_proof =
    imp_i (kept 0) (before_store 0)
    (and_i (second_written 1) (FAnd (first_read 1) (kept 1)) (and_r (first_read 1) (second_written 1) (Var 0))
    (and_i (first_read 1) (kept 1) (and_l (first_read 1) (second_written 1) (Var 0)) (Var 0)))

abbrev pub entry_part : Form
entry_part = FImp (asked 0) (before_load 0)

abbrev pub loop_part : Form
loop_part = FImp (kept 0) (before_store 0)

abbrev pub closed : Form → Form
closed F = FAllm (alls 31 F)

unfoldable pub whole_proof : Tree
whole_proof =
    and_i (closed entry_part) (FAnd (closed loop_part) FTrue) (closing entry_part entry_proof)
    (and_i (closed loop_part) FTrue (closing loop_part loop_proof) tt_i)

-- ---- the container

-- its code as bytes
abbrev pub code_bytes : List ℕ
code_bytes =
    0x00 ∷ 0x00 ∷ 0x10 ∷ 0xA4 ∷ 0x03 ∷ 0x00 ∷ 0x00 ∷ 0xE4 ∷ 0x08 ∷ 0x00 ∷ 0x10 ∷ 0xB4 ∷
    0x00 ∷ 0x00 ∷ 0x30 ∷ 0xA4 ∷ 0xFD ∷ 0xFF ∷ 0xFF ∷ 0xC3 ∷ 0x01 ∷ 0x80 ∷ 0xFA ∷ 0x6B ∷ []

-- the invariant, over registers and over variables
abbrev pub invariant : Form
invariant = FAnd (FRd (EOp Add (EReg 16) (ELit 0))) (FWr (EOp Add (EReg 16) (ELit 8)))

abbrev contents : Contents
contents =
    record {
      version = 1;
      head = Number 2;
      bound = None;
      code = code_bytes;
      invs = (2, form_encoding (kept 0))
          ∷ [];
      lemmas = [];
      proof = Some whole_proof;
    }

abbrev pub marks : List Bool
marks = flags_of (2 ∷ []) 6

-- ---- clause by clause

abbrev pub inv_term : Tree
inv_term = form_encoding (kept 0)

nodes_few : nat_le (all_nodes (roots contents)) 100000 ≡ true
unfolding whole_proof
nodes_few = refl

entries_few : length (entries (roots contents)) ≤ 100000
entries_few =
    omega (arith, few_of (roots contents), leb-true (all_nodes (roots contents)) 100000 nodes_few)

terms_ready : are_ready 1 (roots contents) ≡ true
unfolding whole_proof
terms_ready = refl

pub code_is_bytes : IsBytes code_bytes
code_is_bytes = bytes_from code_bytes refl

is_contents : IsContents contents
is_contents = record {
  version = (omega arith, omega arith);
  head = (refl, omega arith);
  bound = refl;
  bytes = code_is_bytes;
  whole = refl;
  some = omega arith;
  short = omega arith;
  terms = all_ready 1 (roots contents) terms_ready;
  entries = omega (arith, entries_few);
  invs = omega arith;
  rising = (omega arith, omega arith, tt);
  lemmas = tt;
}

-- its number is one field
head_size : length (policy_bytes (Number 2)) ≡ 4
head_size = refl

-- and it has no bound
no_bound : length (bound_fields contents.bound) ≡ 0
no_bound = refl

size : length (encoding_of contents) ≤ 4194304
size =
    omega (
      arith,
      head_size,
      no_bound,
      length-encoding_of contents,
      all_fields_few (entries (roots contents)),
      entries_few,
    )

abbrev pub told : List Insn → Result (List Insn) CodeFlaw
told code = Ok code

abbrev flawed : CodeFlaw → Result (List Insn) CodeFlaw
flawed f = Err f

decoded : decoded_code One code_bytes ≡ told loop_code
unfolding decoded_code
decoded = refl

same_code : (a b : List Insn) → told a ≡ told b → a ≡ b
same_code a b e = cc

-- bytes that decode to code are those of it, and it is code
pub encoded_as : (p : Profile) (bytes : List ℕ) (insns : List Insn)
    → 4 * (length bytes / 4) ≡ length bytes → 0 < length bytes → length bytes ≤ 4 * MAX_WORDS
    → decoded_code p bytes ≡ told insns → EncodesCode p bytes insns × IsCode insns
encoded_as p bytes insns whole some short decoded =
    elim (code_decided p bytes whole some short) [
      | inl e ↦
          let same : e.insns ≡ insns =
          same_code e.insns insns (decoded_code-ok p bytes e.insns e.encoded e.code ∙ decoded) in
          (subst (EncodesCode p bytes) same e.encoded, subst IsCode same e.code)
      | inr f ↦
          absurd
          (differ f.which
          (IsDecoded-IsCodeAnswer p bytes (Err (fault.At f.which)) f.is ∙ decoded))
    ]
  where
    differ : (f : CodeFlaw) → flawed f ≡ told insns → ⊥
    differ f e = cc

-- the loop's in any profile that decodes them to it
pub encoded_in : (p : Profile) → decoded_code p code_bytes ≡ told loop_code
    → EncodesCode p code_bytes loop_code × IsCode loop_code
encoded_in p decoded = encoded_as p code_bytes loop_code refl (omega arith) (omega arith) decoded

encoded : EncodesCode One code_bytes loop_code × IsCode loop_code
encoded = encoded_in One decoded

abbrev pub said : Form
said = FAnd (closed entry_part) (FAnd (closed loop_part) FTrue)

pub is_said : form_encoding (condition (annotated (built_in Tag) None loop_code ((2, invariant) ∷ [])))
    ≡ form_encoding said
unfolding machine_names unchanged
is_said = refl

checked : checks_of (declared Sigma1) whole_proof [] (pf (form_encoding said)) ≡ true
unfolding whole_proof constant_types the_rules
checked = refl

-- with no lemmas the signature is the same
pub none_added : (s : WordSignature) → with_lemmas (declared s) [] ≡ declared s
none_added s = λ i c. each c i
  where
    each : (c : Const) → with_lemmas (declared s) [] c ≡ declared s c
    each (Lemma n) = refl
    each c = refl

light : nat_le (proof_weight Sigma1 [] whole_proof) 1048576 ≡ true
unfolding whole_proof
light = refl

pub over : IsFormIn machine_context 31 invariant
unfolding machine_context
over = ((omega arith, omega arith), (omega arith, omega arith))

-- nothing is found of them
none : first_some (shape_found Sigma1 contents loop_code) ≡ None
unfolding whole_proof constant_types the_rules machine_context
none = refl

held : HasCode (encoding_of contents) contents loop_code
held = record {
  container = record { contents = is_contents; encoded = refl };
  encoded = encoded.0;
  code = encoded.1;
}

passes : Passes (built_in Tag) (encoding_of contents) contents loop_code marks
passes =
    passes-by (built_in Tag) (encoding_of contents) contents loop_code marks size (Tag, refl, refl) held
    (annotated_flags One contents loop_code is_contents encoded.0) none

pub loop_is_accepted : LoopIsAccepted
unfolding machine_names machine_context
loop_is_accepted = record {
  bytes = encoding_of contents;
  contents = contents;
  marks = marks;
  accepts = from-proof passes (record {
    proof = whole_proof;
    vc = form_encoding said;
    given = refl;
    weight = leb-true (proof_weight Sigma1 [] whole_proof) 1048576 light;
    lemmas = λ n l e. absurd (none-some l e);
    condition = record { formulas = (2, invariant) ∷ []; encoded = (refl, record { over = over; is = refl }, tt); is = is_said };
    proved =
        subst (λ sig. Checks sig [] whole_proof (pf (form_encoding said))) (sym (none_added Sigma1))
        (checks_follows (declared Sigma1) whole_proof [] (pf (form_encoding said)) checked);
  });
}
