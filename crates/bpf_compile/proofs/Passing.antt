-- The container of a program, with a proof or without one, passes the clauses of the gate before the proof.
use Rattle.std.proofs.Common.{◌≡◌, ℕ, zero, suc, ◌*◌, ◌/◌, ◌≤◌, List, [], ◌∷◌, ◌++◌, length, Option, None, refl, sym, subst, arith}
use Rattle.std.specs.List.{AllByRecursion}
use Rattle.std.proofs.lemmas.List.{length-map, append-nil}
use Rattle.alpha_cfg.specs.Cuts.{AreFlags}
use Rattle.formula_tree.specs.Formulas.{Form}
use Rattle.policy_set.specs.declared.kind.PolicyKind.TheVariants.{Filter}
use Rattle.policy_set.specs.Views.{built_in}
use Rattle.policy_set.specs.Names.{policy_number}
use Rattle.term_table.specs.Tree.{Tree}
use Rattle.term_table.specs.Measures.{height_of}
use Rattle.lf_encode.specs.Contexts.{machine_context, encoding_in}
use Rattle.proof_container.specs.declared.container.Head.TheVariants.{Number}
use Rattle.proof_container.specs.Versions.{IsHead}
use Rattle.proof_container.specs.Contents.{Contents, one_or_none, roots}
use Rattle.proof_container.specs.Encoding.{AreTerms, AreRising, IsContents, encoding_of}
use Rattle.proof_container.specs.Postorder.{entries}
use Rattle.vcgen.specs.Conditions.{inv_part}
use Rattle.pcc_gate.specs.Refusals.{AreLow}
use Rattle.pcc_gate.specs.Passing.{Passes}
use Rattle.pcc_gate.proofs.ByClause.{from-clauses}
use Rattle.bpf_words.specs.declared.insn.Bpf.{Bpf}
use Rattle.bpf_words.specs.Programs.{IsProgram}
use Rattle.bpf_code.specs.Blocks.{bpf_code}
use Rattle.bpf_code.proofs.Places.{length-blocks_from}
use Rattle.bpf_code.proofs.Shapes.{code-is}
use Rattle.bpf_condition.specs.Invariants.{bpf_invariants}
use Rattle.bpf_condition.specs.Condition.{annotated_bpf, bpf_flags}
use Rattle.bpf_condition.proofs.Whole.{program-flags, program-cut, program-unfolded, program-count}
use Rattle.bpf_compile.specs.Contents.{AreCodeBytes, bpf_contents}
use Rattle.bpf_compile.proofs.Known.{inv_encodings, all-invariants, are-forms, are-low, are-terms, places-again, terms_of}
use Rattle.bpf_compile.proofs.Rising.{blocks-rising}
use Rattle.bpf_compile.proofs.Sizes.{terms-few, bytes-few}

-- ---- roots

terms-and : (ts more : List Tree) → AreTerms 1 ts → AreTerms 1 more → AreTerms 1 (ts ++ more)
terms-and [] more h g = g
terms-and (t ∷ ts) more h g = (h.0, h.1, terms-and ts more h.2 g)

low-and : (ts more : List Tree) → AllByRecursion (λ t. height_of t ≤ 100) ts → AreLow more → AreLow (ts ++ more)
low-and [] more h g k d lt = g k d lt
low-and (t ∷ ts) more h g zero d lt = omega (arith, h.0)
low-and (t ∷ ts) more h g (suc k) d lt = low-and ts more h.1 g k d (omega (arith, lt))

none-low : AreLow []
none-low k d lt = absurd (omega (arith, lt))

-- ---- sizes

pub code-long : (program : List Bpf) → length (bpf_code program) ≡ 20 * length program
unfolding bpf_code
code-long program = length-blocks_from 0 program

pub invs-long : (program : List Bpf) → IsProgram program → length (inv_encodings (bpf_invariants program)) ≡ 2 * length program
invs-long program is =
    let count = program-count program is in
    let parts = length-map (bpf_invariants program) (inv_part (annotated_bpf program)) in
    let terms = length-map {B = ℕ × Tree} (bpf_invariants program) (λ (p : ℕ × Form). (p.0, encoding_in machine_context p.1)) in
    omega (arith, count, parts, terms)

-- ---- the container

-- a program's container with a proof or without one
abbrev pub contents_with : List Bpf → List ℕ → Option Tree → Contents
contents_with program code proof = record {
  version = 1;
  head = Number (policy_number (built_in Filter));
  bound = None;
  code = code;
  invs = inv_encodings (bpf_invariants program);
  lemmas = [];
  proof = proof;
}

-- its number is small
pub head-is : IsHead 1 (Number (policy_number (built_in Filter)))
head-is = (refl, omega arith)

-- what is asked of the proof, if there is one
pub record IsFit (program : List Bpf) (code : List ℕ) (proof : Option Tree) : Type 0 where
  pub terms : AreTerms 1 (one_or_none proof)
  pub low : AreLow (one_or_none proof)
  pub few : length (entries (roots (contents_with program code proof))) ≤ 150000

module _ (program : List Bpf) (code : List ℕ) (is : IsProgram program) (holds : AreCodeBytes program code)
    (proof : Option Tree) (fit : IsFit program code proof) where
  pub contents-hold : IsContents (contents_with program code proof)
  contents-hold =
      let long = code-long program in
      let size = holds.encode.whole in
      let invs = invs-long program is in
      let some = is.some in
      let few = is.few in
      let entries = fit.few in
      let words : 20 * length program ≡ length code / 4 = omega (arith, size, long) in
      record {
        version = (omega arith, omega arith);
        head = head-is;
        bound = refl;
        bytes = holds.bytes;
        whole = omega (arith, size);
        some = omega (arith, size, long, some);
        short = omega (arith, size, long, few);
        terms = terms-and (terms_of (bpf_invariants program)) (one_or_none proof) (are-terms (bpf_invariants program) (all-invariants program)) fit.terms;
        entries = omega (arith, entries);
        invs = omega (arith, invs, few);
        rising = subst (λ n. AreRising 0 n (inv_encodings (bpf_invariants program))) words
            (blocks-rising (20 * length program) 0 0 program (omega arith) (omega arith));
        lemmas = tt;
      }

  pub contents-pass : Passes (built_in Filter) (encoding_of (contents_with program code proof))
      (contents_with program code proof) (bpf_code program) (bpf_flags program)
  contents-pass =
      let long = code-long program in
      let size = holds.encode.whole in
      let invs = invs-long program is in
      let few = is.few in
      from-clauses (record {
        size =
            bytes-few (contents_with program code proof) head-is refl fit.few
            (omega (arith, invs, few))
            (omega (arith, size, long, few));
        container = record { contents = contents-hold; encoded = refl };
        named = (Filter, refl, refl);
        encoded = holds.encode;
        code = code-is program is;
        heights = low-and (terms_of (bpf_invariants program)) (one_or_none proof) (are-low (bpf_invariants program) (all-invariants program)) fit.low;
        forms = are-forms (bpf_invariants program) (all-invariants program);
        lemma_forms = λ n F e. cc;
        annotated = subst (λ l. AreFlags l (length (bpf_code program)) (bpf_flags program))
            (sym (places-again (bpf_invariants program))) (program-flags program is);
        cut = program-cut program is;
        unfolded = program-unfolded program is;
      })

-- ---- without a proof

none-fits : (program : List Bpf) (code : List ℕ) → IsFit program code None
none-fits program code = record {
  terms = tt;
  low = none-low;
  few = subst (λ l. length (entries l) ≤ 150000) (sym (append-nil (terms_of (bpf_invariants program)))) (omega (arith, terms-few program));
}

pub plain-contents : (program : List Bpf) (code : List ℕ) → IsProgram program → AreCodeBytes program code → IsContents (bpf_contents program code)
plain-contents program code is holds = contents-hold program code is holds None (none-fits program code)

pub plain-passes : (program : List Bpf) (code : List ℕ) → IsProgram program → AreCodeBytes program code
    → Passes (built_in Filter) (encoding_of (bpf_contents program code)) (bpf_contents program code)
    (bpf_code program) (bpf_flags program)
plain-passes program code is holds = contents-pass program code is holds None (none-fits program code)
