-- The first clause that fails, with the values that its line has, as a function: what each clause finds, in their order (`Clauses`).
-- `laws` joins the two.
use Rattle.std.specs.Prelude.{ℕ, suc, Bool, List, [], ◌∷◌, map, length, nat_lt, ◌++◌, if◌then◌else◌, Option, Some, None, Result, Ok, Err}
use Rattle.std.specs.Option.{option_map, option_or}
use Rattle.alpha_words.specs.declared.insn.Insn.{Insn}
use Rattle.alpha_cfg.specs.CodeDecoding.{decoded_code}
use Rattle.alpha_cfg.specs.Cuts.{unfolded_of}
use Rattle.alpha_cfg.specs.Deciding.{flags_of, uncut_of}
use Rattle.alpha_cfg.specs.declared.fault.CodeFlaw.{CodeFlaw}
use Rattle.formula_tree.specs.Formulas.{Form}
use Rattle.policy_set.specs.Views.{PolicyView}
use Rattle.term_table.specs.Tree.{Tree}
use Rattle.term_table.specs.Measures.{height_of, capped}
use Rattle.lf_signature.specs.Constants.{declared}
use Rattle.lf_signature.specs.Terms.{form, pf}
use Rattle.lf_signature.specs.Decide.{checks_of}
use Rattle.lf_lemmas.specs.Lemmas.{formulas_of, with_lemmas}
use Rattle.lf_lemma_check.specs.First.{first_failing, lemma_passes, proves_before}
use Rattle.lf_lemma_check.specs.declared.searches.Asked.TheVariants.{Formula}
use Rattle.lf_encode.specs.Encoding.{form_encoding}
use Rattle.lf_encode.specs.Contexts.{sort_types}
use Rattle.lf_encode.specs.Naming.{unnamed_form}
use Rattle.lf_encode.specs.Reading.{form_of}
use Rattle.proof_container.specs.Contents.{Contents, roots}
use Rattle.proof_container.specs.Decoding.{Fault, decoded_container}
use Rattle.proof_container.specs.declared.limits.TheConstants.{MAX_BYTES}
use Rattle.vcgen.specs.Conditions.{condition}
use Rattle.vcgen.specs.Encoded.{context_of, annotated}
use Rattle.vcgen.specs.declared.condition.TheConstants.{MAX_HEIGHT, MAX_UNFOLDED}
use Rattle.pcc_gate.specs.declared.limits.TheConstants.{MAX_WEIGHT}
use Rattle.pcc_gate.specs.declared.refusal.Refusal.{Refusal}
use Rattle.pcc_gate.specs.declared.refusal.Refusal.TheVariants as refusal
use Rattle.lf_signature.specs.declared.editions.WordSignature.{WordSignature}
use Rattle.proof_container.specs.Versions.{profile_of, signature_of}
use Rattle.pcc_gate.specs.ForPolicy.{is_for}
use Rattle.pcc_gate.specs.Weights.{lemmas_weight, proof_weight}

-- ---- the questions

-- whether a term has type form over the signature, in the context of code with that bound
abbrev pub has_form : WordSignature → Option ℕ → Tree → Bool
has_form s bound t = checks_of (declared s) t (sort_types (context_of bound)) form

-- the formula over that context that a term of type form encodes
abbrev pub formula_of : Tree → Form
formula_of t = unnamed_form 0 (form_of t)

-- the invariants' formulas, with their indices
abbrev pub formulas : List (ℕ × Tree) → List (ℕ × Form)
formulas invs = map (λ p. (p.0, formula_of p.1)) invs

-- the encoding of the verification condition
abbrev pub vc_of : PolicyView → Option ℕ → List Insn → List (ℕ × Tree) → Tree
vc_of policy bound code invs =
    form_encoding (condition (annotated policy bound code (formulas invs)))

-- whether a term is a proof of it over the signature with all lemmas
abbrev pub proves : WordSignature → List (Tree × Tree) → Tree → Tree → Bool
proves s lemmas proof vc =
    checks_of (with_lemmas (declared s) (formulas_of lemmas)) proof [] (pf vc)

-- the flags of the annotated indices
abbrev pub marks_of : Contents → List Insn → List Bool
marks_of c code = flags_of (map (λ p. p.0) c.invs) (length code)

-- the height of the first root that is too high
abbrev pub too_high : List Tree → Option ℕ
too_high [] = None
too_high (t ∷ ts) = if nat_lt MAX_HEIGHT (height_of t) then Some (height_of t) else too_high ts

-- the first invariant that is no formula, counted from k
abbrev pub formless : WordSignature → Option ℕ → ℕ → List (ℕ × Tree) → Option ℕ
formless s bound k [] = None
formless s bound k (p ∷ ps) = if has_form s bound p.1 then formless s bound (suc k) ps else Some k

-- the first lemma whose formula is none, in the empty context over the signature
abbrev pub lemma_formless : WordSignature → List (Tree × Tree) → Option ℕ
lemma_formless s lemmas = first_failing (λ n. lemma_passes (declared s) Formula) 0 lemmas

-- the first lemma whose proof doesn't prove its formula with the lemmas before it
abbrev pub lemma_unproved : WordSignature → List (Tree × Tree) → Option ℕ
lemma_unproved s lemmas =
    first_failing (proves_before (declared s) (formulas_of lemmas)) 0 lemmas

-- ---- the clauses

-- the first of these that there is
abbrev pub first_some : {A : Type 0} → List (Option A) → Option A
first_some [] = None
first_some (found ∷ rest) = option_or found (first_some rest)

-- the refusal, if the number is past the limit
abbrev pub refused_past : ℕ → ℕ → Refusal → Option Refusal
refused_past limit n refused = if nat_lt limit n then Some refused else None

-- the refusal, unless it is so
abbrev pub refused_unless : Bool → Refusal → Option Refusal
refused_unless b refused = if b then None else Some refused

-- clause 5
abbrev pub height_found : List Tree → Option Refusal
height_found ts = option_map (λ h. refusal.Height (capped h)) (too_high ts)

-- clause 6, in the signature
abbrev pub form_found : WordSignature → Option ℕ → List (ℕ × Tree) → Option Refusal
form_found s bound invs = option_map refusal.InvNotForm (formless s bound 0 invs)

-- clause 13
abbrev pub formula_found : WordSignature → List (Tree × Tree) → Option Refusal
formula_found s lemmas = option_map refusal.LemmaNotForm (lemma_formless s lemmas)

-- clause 7
abbrev pub uncut_found : List Insn → List Bool → Option Refusal
uncut_found code marks = option_map refusal.Uncut (uncut_of code marks)

-- clause 8
abbrev pub long_found : List Insn → List Bool → Option Refusal
long_found code marks =
    refused_past MAX_UNFOLDED (unfolded_of code marks) (refusal.UnfoldLimit (capped (unfolded_of code marks)))

-- clause 10 of what proofs weigh together
abbrev pub weight_found : ℕ → Option Refusal
weight_found weight = refused_past MAX_WEIGHT weight (refusal.ProofWeight (capped weight))

-- clause 14
abbrev pub unproved_found : WordSignature → List (Tree × Tree) → Option Refusal
unproved_found s lemmas = option_map refusal.LemmaNotProof (lemma_unproved s lemmas)

-- clauses 7 and 8, which ask neither the signature nor the proof
abbrev pub cut_found : Contents → List Insn → List (Option Refusal)
cut_found c code = uncut_found code (marks_of c code) ∷ long_found code (marks_of c code) ∷ []

-- 6 and 13 before them, which ask nothing of the proof
abbrev pub typed_found : WordSignature → Contents → List Insn → List (Option Refusal)
typed_found s c code = form_found s c.bound c.invs ∷ formula_found s c.lemmas ∷ cut_found c code

-- and 5 before them
abbrev pub shape_found : WordSignature → Contents → List Insn → List (Option Refusal)
shape_found s c code = height_found (roots c) ∷ typed_found s c code

-- clauses 4 to 8, and what comes after, by the code
abbrev pub from_code : Contents → Result (List Insn) CodeFlaw → (List Insn → List (Option Refusal)) → List (Option Refusal)
from_code c (Err flaw) more = Some (refusal.BadCode flaw) ∷ []
from_code c (Ok code) more = None ∷ shape_found (signature_of c.version) c code ++ more code

-- clauses 2 to 8, and what comes after, by the contents
abbrev pub from_contents : PolicyView → Result Contents Fault → (Contents → List Insn → List (Option Refusal))
    → List (Option Refusal)
from_contents policy (Err fault) more = Some (refusal.Malformed fault.0 fault.1) ∷ []
from_contents policy (Ok c) more =
    None
    ∷ refused_unless (is_for policy c.head) (refusal.OtherPolicy c.head)
    ∷ from_code c (decoded_code (profile_of c.version) c.code) (more c)

-- clauses 1 to 8, and what comes after
abbrev pub front_found : PolicyView → List ℕ → (Contents → List Insn → List (Option Refusal)) → List (Option Refusal)
front_found policy bytes more =
    refused_past MAX_BYTES (length bytes) (refusal.TooLong (length bytes))
    ∷ from_contents policy (decoded_container bytes) more

-- clauses 9, 10, 14 and 11 over the signature
abbrev pub proof_found : WordSignature → List (Tree × Tree) → Tree → Option Tree → List (Option Refusal)
proof_found s lemmas vc None = Some refusal.NoProof ∷ []
proof_found s lemmas vc (Some proof) =
    None
    ∷ weight_found (proof_weight s lemmas proof)
    ∷ unproved_found s lemmas
    ∷ refused_unless (proves s lemmas proof vc) refusal.NotProof
    ∷ []

-- the same of contents and their code
abbrev pub after_front : PolicyView → Contents → List Insn → List (Option Refusal)
after_front policy c code =
    proof_found (signature_of c.version) c.lemmas (vc_of policy c.bound code c.invs) c.proof

-- clauses 10 and 14 of the lemmas alone, over the signature
abbrev pub lemmas_found : WordSignature → List (Tree × Tree) → List (Option Refusal)
lemmas_found s lemmas = weight_found (lemmas_weight s lemmas) ∷ unproved_found s lemmas ∷ []

-- the first of the clauses before the proof that fails
unfoldable pub front_refusal : PolicyView → List ℕ → Option Refusal
front_refusal policy bytes = first_some (front_found policy bytes (λ c code. []))

-- the first of these that fails, or, of the lemmas alone, of clauses 10 and 14
unfoldable pub lemma_refusal : PolicyView → List ℕ → Option Refusal
lemma_refusal policy bytes =
    first_some (front_found policy bytes (λ c code. lemmas_found (signature_of c.version) c.lemmas))

-- the first clause that fails
unfoldable pub first_refusal : PolicyView → List ℕ → Option Refusal
first_refusal policy bytes = first_some (front_found policy bytes (after_front policy))
