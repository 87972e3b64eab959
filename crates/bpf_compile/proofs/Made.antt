-- From the code to the container.
use Rattle.std.proofs.Common.{◌≡◌, ℕ, List, [], ◌∷◌, Some, None, Ok, Err, Result, sym, ap, ◌∙◌, subst, arith, false}
use Rattle.std.specs.Prelude.{IfSome, Vec}
use Rattle.std.specs.Global.{Global}
use Rattle.std.proofs.lemmas.List.{length-map}
use Rattle.alpha_words.specs.declared.insn.Insn.{Insn}
use Rattle.alpha_cfg.specs.CodeBytes.{EncodesCode}
use Rattle.alpha_cfg.specs.Flow.{IsCode, AreOfProfile}
use Rattle.policy_set.specs.declared.kind.PolicyKind.TheVariants.{Filter}
use Rattle.policy_set.specs.Views.{PolicyView, built_in}
use Rattle.policy_set.specs.Names.{policy_number}
use Rattle.term_table.specs.Bytes.{IsBytes}
use Rattle.term_table.specs.Tree.{Tree}
use Rattle.term_table.specs.Table.{TableView, IsKnown, tree_at, id_trees}
use Rattle.lf_lemmas.specs.Tables.{LemmasKnown}
use Rattle.proof_container.specs.declared.container.Head.TheVariants.{Number}
use Rattle.proof_container.specs.Contents.{roots}
use Rattle.proof_container.specs.Encoding.{AreTerms, IsContents, encoding_of}
use Rattle.proof_container.specs.Views.{AllTerms, IsWritable, view_contents}
use Rattle.proof_container.proofs.LemmaIds.{of_ids}
use Rattle.proof_container.specs.declared.container.View.{View}
use Rattle.prover_class.specs.Parts.{condition_proof}
use Rattle.pcc_asm.specs.Words.{code_bytes}
use Rattle.bounds_prover.specs.declared.fault.ProveFault.{ProveFault}
use Rattle.bounds_prover.specs.declared.fault.ProveFlaw.{ProveFlaw}
use Rattle.bounds_prover.specs.Proving.{with_proof, proved_container, IsProveAnswer}
use Rattle.bpf_words.specs.declared.insn.Bpf.{Bpf}
use Rattle.bpf_code.specs.Blocks.{bpf_code}
use Rattle.bpf_condition.specs.Condition.{HasClassProof, bpf_parts}
use Rattle.bpf_compile.specs.Compiled.{IsCompiled}
use Rattle.bpf_compile.specs.Contents.{AreCodeBytes, bpf_contents}
use Rattle.bpf_compile.specs.Compilation.{bare_contents, compiled_container, IsCompilation}
use Rattle.bpf_compile.specs.Inside.Ids.{AreInvIds}
use Rattle.word_ops.specs.declared.Profile.TheVariants.{One}

-- the words that are written encode the code
pub code-bytes : (program : List Bpf) → ((code : List Insn) → IsBytes (code_bytes code)) → ((code : List Insn) → IsCode code → AreOfProfile One code → EncodesCode One (code_bytes code) code)
    → IsCode (bpf_code program) → AreOfProfile One (bpf_code program) → AreCodeBytes program (code_bytes (bpf_code program))
code-bytes program bytes encode is first = record { bytes = bytes (bpf_code program); encode = encode (bpf_code program) is first }

terms-all : (v : ℕ) (ts : List Tree) → AreTerms v ts → AllTerms v ts
terms-all v [] h = tt
terms-all v (t ∷ ts) h = (h.0, terms-all v ts h.2)

-- contents that are the program's, part by part
pub contents-are : (program : List Bpf) (policy : ℕ) (shown : List ℕ) (t : TableView)
    (ids : List (ℕ × ℕ)) → policy ≡ policy_number (built_in Filter)
    → shown ≡ code_bytes (bpf_code program) → AreInvIds t program ids
    → record {
      version = 1;
      head = Number policy;
      bound = None;
      code = shown;
      invs = id_trees t ids;
      lemmas = [];
      proof = None;
    } ≡ bare_contents program
contents-are program policy shown t ids number same are = let trees = are.trees in λ j. record {
  version = 1;
  head = Number (number j);
  bound = None;
  code = same j;
  invs = trees j;
  lemmas = [];
  proof = None;
}

-- a view that shows a program's contents can be written
pub view-writable : (program : List Bpf) (v : View) → IsContents (bare_contents program) → view_contents v ≡ bare_contents program
    → v.lemmas.now ≡ [] → v.proof ≡ None → AreInvIds v.table.now program v.invs.now → IsWritable v
view-writable program v contents shown lemmas none ids =
    let is : IsContents (view_contents v) = subst IsContents (sym shown) contents in
    let few = is.invs in
    let n = length-map {B = ℕ × Tree} v.invs.now (λ (p : ℕ × ℕ). (p.0, tree_at v.table.now p.1)) in
    record {
      version = is.version;
      head = is.head;
      bound = is.bound;
      known = (ids.known, subst (λ o. IfSome o (IsKnown v.table.now)) (sym none) tt);
      known_lemmas = subst (LemmasKnown v.table.now) (sym lemmas) tt;
      terms = terms-all v.version (roots (view_contents v)) is.terms;
      whole = is.whole;
      some = is.some;
      short = is.short;
      entries = is.entries;
      invs = omega (arith, few, n);
      rising = is.rising;
      lemmas = of_ids v.table.now v.version v.lemmas.now is.lemmas;
    }

-- ---- with a proof

-- what `prove` makes of containers of programs, by the laws
abbrev pub Makes : List Bpf → Type 0
Makes program = (code : List ℕ) (proof : Tree) → AreCodeBytes program code → condition_proof false (bpf_parts program) ≡ Some proof
    → proved_container (built_in Filter) (encoding_of (bpf_contents program code))
    ≡ Ok (encoding_of (with_proof (bpf_contents program code) proof))

-- that it makes one, which is accepted
abbrev pub Compiles : List Bpf → Type 0
Compiles program =
    (out : List ℕ)
    × (proved_container (built_in Filter) (encoding_of (bare_contents program)) ≡ Ok out)
    × IsCompiled program out

-- the bytes of the program under `filter`
pub at-program : (program : List Bpf) (policy : PolicyView) (bytes : List ℕ) → policy
    ≡ built_in Filter → bytes ≡ encoding_of (bare_contents program)
    → (r : Result (List ℕ) ProveFlaw) → proved_container policy bytes ≡ r → compiled_container program ≡ r
unfolding compiled_container
at-program program policy bytes is bare r given =
    sym (ap (λ p. proved_container p bytes) is ∙ ap (proved_container (built_in Filter)) bare)
    ∙ given

one : (r : Result (List ℕ) ProveFlaw) (a b : List ℕ) → r ≡ Ok a → r ≡ Ok b → a ≡ b
one r a b p q = cc

pub compilation-is : (program : List Bpf) (out : List ℕ) → AreCodeBytes program (code_bytes (bpf_code program)) → HasClassProof program
    → Makes program → compiled_container program ≡ Ok out → IsCompilation program out
unfolding compiled_container
compilation-is program out holds easy makes given = record {
  proof = easy.proof;
  given = easy.given;
  encoded = one (compiled_container program) out _ given (makes (code_bytes (bpf_code program)) easy.proof holds easy.given);
}

pub compiled-is : (program : List Bpf) (out : List ℕ) → Compiles program → compiled_container program ≡ Ok out → IsCompiled program out
unfolding compiled_container
compiled-is program out compiles given = subst (IsCompiled program) (one (compiled_container program) compiles.0 out compiles.1 given) compiles.2

-- no fault is given
pub no-fault : (program : List Bpf) (fault : ProveFlaw) → Compiles program → compiled_container program ≡ Err fault → ⊥
unfolding compiled_container
no-fault program fault compiles given = apart (compiled_container program) compiles.0 fault compiles.1 given
  where
    apart : (r : Result (List ℕ) ProveFlaw) (a : List ℕ) (f : ProveFlaw) → r ≡ Ok a → r ≡ Err f → ⊥
    apart r a f p q = cc

-- what `prove` answers, where the answer is known
pub fault-given : (policy : PolicyView) (bytes : List ℕ) (r : Result (Vec ℕ Global) ProveFault)
    (e f : ProveFault) → r ≡ Err e → e ≡ f
    → IsProveAnswer policy bytes r → IsProveAnswer policy bytes (Err f)
fault-given policy bytes r e f is same h = subst (IsProveAnswer policy bytes) (is ∙ ap Err same) h

pub bytes-given : (policy : PolicyView) (bytes : List ℕ) (r : Result (Vec ℕ Global) ProveFault)
    (out : Vec ℕ Global) → r ≡ Ok out → IsProveAnswer policy bytes r
    → proved_container policy bytes ≡ Ok out.items
bytes-given policy bytes r out is h = subst (IsProveAnswer policy bytes) is h
