-- How many entries a program's container has, and how many bytes.
use Rattle.std.proofs.Common.{◌≡◌, ℕ, ◌+◌, ◌*◌, ◌≤◌, true, List, [], ◌∷◌, ◌++◌, length, Option, Some, None, length-append, refl, arith}
use Rattle.std.specs.Prelude.{nat_le, sum_by}
use Rattle.std.specs.List.{AllByRecursion}
use Rattle.std.proofs.lemmas.Bool.{leb-true}
use Rattle.std.proofs.lemmas.List.Sums.{sum_by-cons}
use Rattle.formula_tree.specs.Formulas.{Form}
use Rattle.policy_set.specs.Policies.{filter_post}
use Rattle.term_table.specs.Tree.{Tree, Var, Con, App, Lam, Fam, TApp, Pi, Num, Lit, Calc, Fact, Deny, Lemma}
use Rattle.lf_encode.specs.Contexts.{machine_context, machine_names}
use Rattle.proof_container.specs.Contents.{Contents, roots}
use Rattle.proof_container.specs.Decoding.{entry_size}
use Rattle.proof_container.specs.Encoding.{policy_bytes, bound_fields, encoding_of}
use Rattle.proof_container.specs.Postorder.{is_emitted, entries, AreEmitted}
use Rattle.proof_container.specs.declared.limits.TheConstants.{MAX_BYTES}
use Rattle.proof_container.proofs.Walks.{listed-left, listed-right}
use Rattle.proof_container.proofs.Written.{length-encoding_of}
use Rattle.proof_container.proofs.FieldLaws.{length-field_bytes}
use Rattle.proof_container.specs.declared.container.Head.{Head}
use Rattle.proof_container.specs.declared.container.Head.TheVariants.{Number, Digest}
use Rattle.proof_container.specs.Versions.{IsHead, lemmas_size}
use Rattle.bpf_condition.specs.Parts.{HoldsParts, subtrees, subtree_count}
use Rattle.bpf_condition.proofs.FewEntries.{entries-few}
use Rattle.bpf_condition.proofs.Subtrees.{subtrees-hold, root-listed, length-subtrees, holds-both}
use Rattle.bpf_words.specs.declared.insn.Bpf.{Bpf}
use Rattle.bpf_condition.specs.Invariants.{packet_invariant, bpf_invariants}
use Rattle.bpf_compile.proofs.Known.{term_of, terms_of, of-all}

-- ---- the entries of the invariants

-- all that stands in the terms of the two formulas
abbrev pub held_terms : List Tree
held_terms = subtrees (term_of packet_invariant) ++ subtrees (term_of filter_post)

pub held-parts : HoldsParts held_terms
held-parts = holds-both (subtrees (term_of packet_invariant)) (subtrees (term_of filter_post))
    (subtrees-hold (term_of packet_invariant)) (subtrees-hold (term_of filter_post))

nodes-few : nat_le (subtree_count (term_of packet_invariant) + subtree_count (term_of filter_post)) 1000 ≡ true
unfolding machine_context machine_names
nodes-few = refl

pub held-few : length held_terms ≤ 1000
held-few =
    let all = length-append (subtrees (term_of packet_invariant)) (subtrees (term_of filter_post)) in
    let first = length-subtrees (term_of packet_invariant) in
    let last = length-subtrees (term_of filter_post) in
    let few = leb-true (subtree_count (term_of packet_invariant) + subtree_count (term_of filter_post)) 1000 nodes-few in
    omega (arith, all, first, last, few)

abbrev IsListed : Form → Type 0
IsListed F = is_emitted (term_of F) held_terms ≡ true

are-listed : (invs : List (ℕ × Form)) → AllByRecursion (λ q. IsListed q.1) invs → AreEmitted held_terms (terms_of invs)
are-listed [] h = tt
are-listed (q ∷ invs) h = (h.0, are-listed invs h.1)

pub terms-listed : (program : List Bpf) → AreEmitted held_terms (terms_of (bpf_invariants program))
terms-listed program = are-listed (bpf_invariants program) (of-all IsListed
    (listed-left (term_of packet_invariant) (subtrees (term_of packet_invariant)) (subtrees (term_of filter_post)) (root-listed (term_of packet_invariant)))
    (listed-right (term_of filter_post) (subtrees (term_of packet_invariant)) (subtrees (term_of filter_post)) (root-listed (term_of filter_post)))
    program)

pub terms-few : (program : List Bpf) → length (entries (terms_of (bpf_invariants program))) ≤ 1000
terms-few program =
    let few = entries-few held_terms (terms_of (bpf_invariants program)) held-parts (terms-listed program) in
    let held = held-few in
    omega (arith, few, held)

-- ---- bytes

fields-few : (t : Tree) → entry_size t ≤ 6
fields-few (Var n) = omega arith
fields-few (Con (Num n)) = omega arith
fields-few (Con (Lit w)) = omega arith
fields-few (Con (Calc o a b)) = omega arith
fields-few (Con (Fact p a b)) = omega arith
fields-few (Con (Deny p a b)) = omega arith
fields-few (Con (Lemma n)) = omega arith
fields-few (App f a) = omega arith
fields-few (Lam b) = omega arith
fields-few (Fam a) = omega arith
fields-few (TApp p a) = omega arith
fields-few (Pi a b) = omega arith

all-fields-few : (ts : List Tree) → sum_by entry_size ts ≤ 6 * length ts
all-fields-few [] = omega arith
all-fields-few (t ∷ ts) = omega (arith, sum_by-cons entry_size t ts, fields-few t, all-fields-few ts)

head-few : (v : ℕ) (h : Head) → IsHead v h → length (policy_bytes h) ≤ 32
head-few v (Number n) k = omega (arith, length-field_bytes (n ∷ []))
head-few v (Digest d) k = omega (arith, k.1)

-- a bound has one field
bound-few : (bound : Option ℕ) → length (bound_fields bound) ≤ 1
bound-few None = omega arith
bound-few (Some n) = omega arith

pub bytes-few : (c : Contents) → IsHead c.version c.head
    → lemmas_size c.version (length c.lemmas) ≡ 0 → length (entries (roots c)) ≤ 150000
    → length c.invs ≤ 100 → length c.code ≤ 4096 → length (encoding_of c) ≤ MAX_BYTES
bytes-few c head lemmas few invs code =
    omega (
      arith,
      length-encoding_of c,
      head-few c.version c.head head,
      bound-few c.bound,
      all-fields-few (entries (roots c)),
      lemmas,
      few,
      invs,
      code,
    )
