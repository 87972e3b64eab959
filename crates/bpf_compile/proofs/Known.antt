-- Each invariant of a program is one of two closed formulas; what holds of both terms holds of all.
use Rattle.std.proofs.Common.{◌≡◌, ℕ, suc, ◌+◌, ◌≤◌, ◌^◌, true, List, [], ◌∷◌, length, map, Option, Some, None, refl, sym, ap, ◌∙◌, arith}
use Rattle.std.specs.Prelude.{nat_le}
use Rattle.std.specs.List.{AllByRecursion}
use Rattle.std.proofs.lemmas.Bool.{leb-true}
use Rattle.formula_tree.specs.Formulas.{Form}
use Rattle.formula_tree.specs.Scope.{IsOver}
use Rattle.formula_tree.specs.Sizes.{binders}
use Rattle.policy_set.specs.declared.kind.PolicyKind.TheVariants.{Filter}
use Rattle.policy_set.specs.Policies.{filter_pre, filter_post}
use Rattle.policy_set.proofs.Closed.{pre-over, post-over, pre-first, post-first}
use Rattle.term_table.specs.Tree.{Tree}
use Rattle.term_table.specs.Measures.{height_of}
use Rattle.lf_signature.specs.Constants.{declared}
use Rattle.lf_signature.specs.Terms.{form}
use Rattle.lf_signature.specs.Typing.{Checks}
use Rattle.lf_encode.specs.Contexts.{machine_context, machine_names, sort_types, IsFormIn, EncodesForm, encoding_in}
use Rattle.lf_encode.specs.Naming.{unnamed_form}
use Rattle.lf_encode.specs.Reading.{form_of}
use Rattle.lf_encode.proofs.Decoded.{form_of-encoding}
use Rattle.lf_encode.proofs.MachineContext.{bound_sorts-machine, in-context-of}
use Rattle.lf_encode.proofs.Named.{form_typed}
use Rattle.proof_container.specs.Encoding.{AreTerms}
use Rattle.vcgen.specs.Encoded.{AreForms}
use Rattle.pcc_gate.specs.First.{formula_of, formulas}
use Rattle.bpf_words.specs.declared.insn.Bpf.{Bpf}
use Rattle.bpf_words.specs.declared.insn.BpfOp.{BpfOp}
use Rattle.bpf_words.specs.declared.insn.BpfOp.TheVariants as ops
use Rattle.bpf_words.specs.Programs.{bpf_op}
use Rattle.bpf_condition.specs.Invariants.{packet_invariant, end_invariant, invariants_of, invariants_from, bpf_invariants}
use Rattle.bpf_condition.proofs.Placed.{all-append}
use Rattle.bounds_prover.proofs.SmallTerms.{checks-small, checks-entry}
use Rattle.lf_signature.specs.declared.editions.WordSignature.TheVariants.{Sigma1}
use Rattle.lf_signature.specs.Known.{HasOp}
use Rattle.lf_signature.specs.Laws.Within.{declared_known, first-declared}
use Rattle.formula_tree.specs.Operators.{Uses}
use Rattle.formula_tree.proofs.Used.{uses-more}
use Rattle.word_ops.specs.Operators.{IsFirstOp}

-- ---- one of two

module _ (P : Form → Type 0) (first : P packet_invariant) (last : P filter_post) where
  ends : (op : BpfOp) → P (end_invariant op)
  ends ops.Ret = last
  ends ops.RetA = last
  ends op = first

  of-block : (i : ℕ) (b : Bpf) (o : Option BpfOp) → AllByRecursion (λ q. P q.1) (invariants_of i b o)
  of-block i b None = tt
  of-block i b (Some op) = (first, (ends op, tt))

  from-block : (i : ℕ) (program : List Bpf) → AllByRecursion (λ q. P q.1) (invariants_from i program)
  from-block i [] = tt
  from-block i (b ∷ rest) = all-append (λ q. P q.1) (invariants_of i b (bpf_op b.code)) (invariants_from (suc i) rest)
      (of-block i b (bpf_op b.code)) (from-block (suc i) rest)

  pub of-all : (program : List Bpf) → AllByRecursion (λ q. P q.1) (bpf_invariants program)
  of-all program = from-block 0 program

-- ---- formulas over m and r0 to r30

-- the term of a formula
abbrev pub term_of : Form → Tree
term_of F = encoding_in machine_context F

in-context : (F : Form) → IsOver 31 F [] → IsFormIn machine_context 31 F
in-context F o = in-context-of 31 F o

abbrev IsOverMachine : Form → Type 0
IsOverMachine F = EncodesForm machine_context F (term_of F)

encodes : (F : Form) → IsOver 31 F [] → IsOverMachine F
encodes F o = record { over = in-context F o; is = refl }

packet-over : IsOverMachine packet_invariant
packet-over = let pre : IsOver 31 filter_pre [] = pre-over Filter in encodes packet_invariant (pre.0, pre.1.0)

last-over : IsOverMachine filter_post
last-over = encodes filter_post (post-over Filter)

-- ---- terms

context-few : nat_le (length (sort_types machine_context)) 100 ≡ true
unfolding machine_context
context-few = refl

machine-few : length (sort_types machine_context) ≤ 100
machine-few = leb-true (length (sort_types machine_context)) 100 context-few

-- the term encodes the formula, whose operators are the first profile's, has type form, and isn't
-- high
pub record IsInvariant (F : Form) : Type 0 where
  pub over : EncodesForm machine_context F (term_of F)
  pub first : Uses IsFirstOp F
  pub checks : Checks (declared Sigma1) (sort_types machine_context) (term_of F) form
  pub low : height_of (term_of F) ≤ 100

packet-room : nat_le (length machine_context + binders packet_invariant + 2) (2 ^ 32) ≡ true
unfolding machine_context
packet-room = refl

last-room : nat_le (length machine_context + binders filter_post + 2) (2 ^ 32) ≡ true
unfolding machine_context
last-room = refl

packet-low : nat_le (height_of (term_of packet_invariant)) 100 ≡ true
unfolding machine_context machine_names
packet-low = refl

last-low : nat_le (height_of (term_of filter_post)) 100 ≡ true
unfolding machine_context machine_names
last-low = refl

packet-first : Uses IsFirstOp packet_invariant
packet-first = let pre : Uses IsFirstOp filter_pre = pre-first Filter in (pre.0, pre.1.0)

last-first : Uses IsFirstOp filter_post
last-first = post-first Filter

-- with the first profile's operators a formula is a term over the first signature
typed : (F : Form) → IsFormIn machine_context 31 F → Uses IsFirstOp F
    → length machine_context + binders F + 2 ≤ 2 ^ 32
    → Checks (declared Sigma1) (sort_types machine_context) (term_of F) form
typed F over first room =
    form_typed (declared Sigma1) (declared_known Sigma1) machine_context 31 F over
    (uses-more IsFirstOp (HasOp (declared Sigma1)) first-declared F first) room

packet-is : IsInvariant packet_invariant
packet-is = record {
  over = packet-over;
  first = packet-first;
  checks = typed packet_invariant packet-over.over packet-first
      (leb-true (length machine_context + binders packet_invariant + 2) (2 ^ 32) packet-room);
  low = leb-true (height_of (term_of packet_invariant)) 100 packet-low;
}

last-is : IsInvariant filter_post
last-is = record {
  over = last-over;
  first = last-first;
  checks = typed filter_post last-over.over last-first
      (leb-true (length machine_context + binders filter_post + 2) (2 ^ 32) last-room);
  low = leb-true (height_of (term_of filter_post)) 100 last-low;
}

-- what is said of each invariant
abbrev pub AreInvariants : List (ℕ × Form) → Type 0
AreInvariants invs = AllByRecursion (λ q. IsInvariant q.1) invs

pub all-invariants : (program : List Bpf) → AreInvariants (bpf_invariants program)
all-invariants program = of-all IsInvariant packet-is last-is program

-- ---- of all of them

-- the invariants as terms
abbrev pub inv_encodings : List (ℕ × Form) → List (ℕ × Tree)
inv_encodings invs = map (λ p. (p.0, term_of p.1)) invs

pub are-forms : (invs : List (ℕ × Form)) → AreInvariants invs → AreForms Sigma1 None (inv_encodings invs)
are-forms [] h = tt
are-forms (q ∷ invs) h = (h.0.checks, are-forms invs h.1)

term-again : (F : Form) → EncodesForm machine_context F (term_of F) → formula_of (term_of F) ≡ F
term-again F e = ap (λ B. unnamed_form (length B) (form_of (term_of F))) (sym bound_sorts-machine) ∙ form_of-encoding machine_context (term_of F) F e

pub formulas-again : (invs : List (ℕ × Form)) → AreInvariants invs → formulas (inv_encodings invs) ≡ invs
formulas-again [] h = refl
formulas-again (q ∷ invs) h = let here = term-again q.1 h.0.over in let rest = formulas-again invs h.1 in λ i. (q.0, here i) ∷ rest i

pub places-again : (invs : List (ℕ × Form)) → map (λ p. p.0) (inv_encodings invs) ≡ map (λ p. p.0) invs
places-again [] = refl
places-again (q ∷ invs) = ap (λ l. q.0 ∷ l) (places-again invs)

-- the terms of contents without a proof
abbrev pub terms_of : List (ℕ × Form) → List Tree
terms_of invs = map (λ p. p.1) (inv_encodings invs)

pub are-low : (invs : List (ℕ × Form)) → AreInvariants invs → AllByRecursion (λ t. height_of t ≤ 100) (terms_of invs)
are-low [] h = tt
are-low (q ∷ invs) h = (h.0.low, are-low invs h.1)

pub are-terms : (invs : List (ℕ × Form)) → AreInvariants invs → AreTerms 1 (terms_of invs)
are-terms [] h = tt
are-terms (q ∷ invs) h =
    let low = h.0.low in
    let few = machine-few in (
      checks-entry Sigma1 1 h.0.checks,
      checks-small Sigma1 h.0.checks (omega (arith, low, few)),
      are-terms invs h.1,
    )
