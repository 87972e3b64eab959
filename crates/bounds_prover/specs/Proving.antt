-- The container that `prove` makes of bytes, or why it makes none.
use Rattle.std.specs.Prelude.{◌≡◌, ℕ, ◌^◌, ◌-◌, List, length, min, nat_lt, if◌then◌else◌, Option, is_some, Some, None, Result, Ok, Err, Vec}
use Rattle.std.specs.Global.{Global}
use Rattle.alpha_words.specs.declared.insn.Insn.{Insn}
use Rattle.alpha_cfg.specs.declared.fault.CodeFlaw.{CodeFlaw}
use Rattle.alpha_cfg.specs.CodeDecoding.{decoded_code}
use Rattle.term_table.specs.Tree.{Tree}
use Rattle.term_table.specs.Measures.{height_of, capped}
use Rattle.formula_tree.specs.Formulas.{Form}
use Rattle.policy_set.specs.Views.{PolicyView}
use Rattle.proof_container.specs.Contents.{Contents, roots}
use Rattle.proof_container.specs.Postorder.{entries}
use Rattle.proof_container.specs.Encoding.{encoding_of}
use Rattle.proof_container.specs.Decoding.{Fault, decoded_container}
use Rattle.proof_container.specs.declared.limits.TheConstants.{MAX_BYTES, MAX_ENTRIES}
use Rattle.vcgen.specs.declared.condition.TheConstants.{MAX_HEIGHT}
use Rattle.pcc_gate.specs.Passing.{PassesUntyped}
use Rattle.pcc_gate.specs.First.{lemma_refusal}
use Rattle.pcc_gate.specs.Weights.{proof_weight}
use Rattle.pcc_gate.specs.declared.limits.TheConstants.{MAX_WEIGHT}
use Rattle.pcc_gate.specs.declared.refusal.Refusal.{Refusal}
use Rattle.pcc_gate.specs.declared.refusal.Refusal.TheVariants as refusal
use Rattle.prover_class.specs.Parts.{condition_proof, first_not_easy}
use Rattle.prover_conditions.specs.Conditions.{condition_parts}
use Rattle.bounds_prover.specs.declared.fault.Measure.{Measure}
use Rattle.bounds_prover.specs.declared.fault.Measure.TheVariants.{Weight, Height, Entries, Bytes}
use Rattle.bounds_prover.specs.declared.fault.ProveFault.{ProveFault}
use Rattle.bounds_prover.specs.declared.fault.ProveFault.TheVariants.{At, Memory, Results}
use Rattle.bounds_prover.specs.declared.fault.ProveFlaw.{ProveFlaw}
use Rattle.bounds_prover.specs.declared.fault.ProveFlaw.TheVariants.{Refused, NotEasy, TooBig}
use Rattle.proof_container.specs.Versions.{profile_of, signature_of}

-- the contents with this proof in place of theirs
abbrev pub with_proof : Contents → Tree → Contents
with_proof c p = record c { proof = Some p }

-- ---- limits

-- the fault of a number past its limit, which is shown as that, else what comes after
abbrev pub within : Measure → ℕ → ℕ → ℕ → Option ProveFlaw → Option ProveFlaw
within measure limit n shown next = if nat_lt limit n then Some (TooBig measure shown) else next

-- what the proof weighs with the proofs of the contents' lemmas, by the parameters of the version's
-- signature
abbrev pub whole_weight : Contents → Tree → ℕ
whole_weight c p = proof_weight (signature_of c.version) c.lemmas p

-- the first measure of the proof, or of the contents that have it, that is past its limit
unfoldable pub excess : Contents → Tree → Option ProveFlaw
excess c p =
    within Weight MAX_WEIGHT (whole_weight c p) (capped (whole_weight c p))
    (within Height MAX_HEIGHT (height_of p) (capped (height_of p))
    (within Entries MAX_ENTRIES (length (entries (roots c))) (length (entries (roots c)))
    (within Bytes MAX_BYTES (length (encoding_of c)) (min (length (encoding_of c)) (2 ^ 64 - 1)) None)))

-- ---- what is made

-- the encoding of the contents, unless there is a fault
abbrev pub encoded_unless : Option ProveFlaw → Contents → Result (List ℕ) ProveFlaw
encoded_unless None c = Ok (encoding_of c)
encoded_unless (Some flaw) c = Err flaw

-- the contents with the proof of all parts, where none is the first that isn't easy (then there is a proof: `class_laws`)
abbrev pub with_parts_proof : Contents → Option ℕ → Option Tree → Result (List ℕ) ProveFlaw
with_parts_proof c (Some k) proof = Err (NotEasy k)
with_parts_proof c None (Some p) = encoded_unless (excess (with_proof c p) p) (with_proof c p)
with_parts_proof c None None = Err (NotEasy 0)

-- the contents with the class's proof of these parts
unfoldable pub proved_contents : Contents → List Form → Result (List ℕ) ProveFlaw
proved_contents c parts =
    with_parts_proof c (first_not_easy (is_some c.bound) 0 parts)
    (condition_proof (is_some c.bound) parts)

-- the same, where the code bytes are code
abbrev pub proved_code : PolicyView → Contents → Result (List Insn) CodeFlaw
    → Result (List ℕ) ProveFlaw
proved_code policy c (Ok code) = proved_contents c (condition_parts policy c.bound code c.invs)
proved_code policy c (Err flaw) = Err (Refused (refusal.BadCode flaw))

-- the same, where the bytes are a container
abbrev pub proved_read : PolicyView → Result Contents Fault → Result (List ℕ) ProveFlaw
proved_read policy (Ok c) = proved_code policy c (decoded_code (profile_of c.version) c.code)
proved_read policy (Err fault) = Err (Refused (refusal.Malformed fault.0 fault.1))

-- what is made, unless there is a refusal
abbrev pub made_unless : Option Refusal → Result (List ℕ) ProveFlaw → Result (List ℕ) ProveFlaw
made_unless None made = made
made_unless (Some r) made = Err (Refused r)

-- The bytes of the container with a proof in place of its own, where the clauses before the proof
-- hold and, of the lemmas alone, 10 and 14, each part of the condition is easy, and the class's
-- proof, which cites no lemma, is within the limits; else the first of these that fails.
unfoldable pub proved_container : PolicyView → List ℕ → Result (List ℕ) ProveFlaw
proved_container policy bytes =
    made_unless (lemma_refusal policy bytes) (proved_read policy (decoded_container bytes))

-- ---- answers

-- The answer is what is made, or the flaw why not; out of memory says nothing, and the limit of
-- results says that the search had begun.
abbrev pub IsMadeAnswer : Type 0 → Result (List ℕ) ProveFlaw → Result (Vec ℕ Global) ProveFault
    → Type 0
IsMadeAnswer Begun made (Ok out) = made ≡ Ok out.items
IsMadeAnswer Begun made (Err (At flaw)) = made ≡ Err flaw
IsMadeAnswer Begun made (Err Memory) = Unit {0}
IsMadeAnswer Begun made (Err Results) = Begun

-- what `prove` answers; results are counted only of a container that passes clauses 1 to 5
abbrev pub IsProveAnswer : PolicyView → List ℕ → Result (Vec ℕ Global) ProveFault → Type 0
IsProveAnswer policy bytes result =
    IsMadeAnswer (PassesUntyped policy bytes) (proved_container policy bytes) result
