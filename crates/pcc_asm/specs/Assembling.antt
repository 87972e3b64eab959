-- Assembling a source: labels become displacements, and the code and the invariants become what a container holds. The first
-- line that is wrong is told; each kind of fault is tried over all lines before the next kind.
use Rattle.std.specs.Prelude.{◌≡◌, ℕ, zero, suc, ◌+◌, ◌-◌, if◌then◌else◌, List, [], ◌∷◌, map, length, Option, Some, None, Result, Ok, Err, ℤ, pos, ◌-ℤ◌}
use Rattle.std.specs.Option.{option_map}
use Rattle.std.specs.Str.{bytes_eq}
use Rattle.alpha_words.specs.declared.insn.Insn.{Insn}
use Rattle.alpha_words.specs.declared.insn.Insn.TheVariants as I
use Rattle.alpha_words.specs.declared.fault.BadWord.{BadWord}
use Rattle.alpha_words.specs.Lawful.{fault_of, target_of}
use Rattle.alpha_cfg.specs.Flow.{IsCode, AreOfProfile}
use Rattle.alpha_cfg.specs.CodeBytes.{EncodesCode}
use Rattle.alpha_cfg.specs.CodeDecoding.{first_outside, runs_off}
use Rattle.formula_tree.specs.Formulas.{Form}
use Rattle.policy_set.specs.Views.{PolicyView}
use Rattle.policy_set.specs.Names.{policy_number}
use Rattle.policy_set.specs.Digest.{digest_of}
use Rattle.term_table.specs.Tree.{Tree}
use Rattle.lf_encode.specs.Contexts.{machine_context, encoding_in}
use Rattle.proof_container.specs.declared.container.Head.{Head}
use Rattle.proof_container.specs.declared.container.Head.TheVariants.{Number, Digest}
use Rattle.proof_container.specs.Versions.{is_numbered, profile_of}
use Rattle.proof_container.specs.Contents.{Contents}
use Rattle.asm_text.specs.Insns.{SourceInsn, Plain, BranchTo, BrTo}
use Rattle.asm_text.specs.Sources.{Source}
use Rattle.pcc_asm.specs.declared.fault.AsmFlaw.{AsmFlaw}
use Rattle.pcc_asm.specs.declared.fault.AsmFlaw.TheVariants as A
use Rattle.pcc_asm.specs.Words.{code_bytes}
use Rattle.word_ops.specs.declared.Profile.{Profile}

-- the index that a label names
abbrev pub label_index : List (List ℕ × ℕ) → List ℕ → Option ℕ
label_index [] l = None
label_index (x ∷ xs) l = if bytes_eq x.0 l then Some x.1 else label_index xs l

-- the invariants, each as the term that encodes it over m and r0 to r30, and over the steps that are
-- left, whose variable stands outside these
abbrev pub inv_encodings : List (ℕ × Form) → List (ℕ × Tree)
inv_encodings invs = map (λ p. (p.0, encoding_in machine_context p.1)) invs

-- ---- the relation

-- the instruction at index i is what the source says: a branch leads to its label's index
abbrev pub IsResolved : List (List ℕ × ℕ) → ℕ → SourceInsn → Insn → Type 0
IsResolved labels i (Plain said) insn = insn ≡ said
IsResolved labels i (BranchTo cond ra l) insn = (t : ℕ) × (disp : ℤ) × (label_index labels l ≡ Some t) × (insn ≡ I.Branch cond ra disp) × (target_of i insn ≡ Some (pos t))
IsResolved labels i (BrTo l) insn = (t : ℕ) × (disp : ℤ) × (label_index labels l ≡ Some t) × (insn ≡ I.Br disp) × (target_of i insn ≡ Some (pos t))

-- the same of each, from index i on
abbrev pub AreResolved : List (List ℕ × ℕ) → ℕ → List (ℕ × SourceInsn) → List Insn → Type 0
AreResolved labels i [] [] = Unit {0}
AreResolved labels i [] (insn ∷ code) = ⊥
AreResolved labels i (x ∷ xs) [] = ⊥
AreResolved labels i (x ∷ xs) (insn ∷ code) = IsResolved labels i x.1 insn × AreResolved labels (suc i) xs code

-- the instructions are what the source says, are code, and are the profile's
pub record IsAssembled (p : Profile) (s : Source) (insns : List Insn) : Type 0 where
  pub resolved : AreResolved s.labels 0 s.insns insns
  pub code : IsCode insns
  pub profile : AreOfProfile p insns

-- what names the policy in a container of the version: its number, or the digest of its text
abbrev pub head_for : ℕ → PolicyView → Head
head_for v policy = if is_numbered v then Number (policy_number policy) else Digest (digest_of policy)

-- The contents are those of the source for the policy in the version, with the bound: words that
-- encode its instructions, the encodings of its invariants, no lemmas and no proof.
pub record Assembles (v : ℕ) (bound : Option ℕ) (policy : PolicyView) (s : Source)
    (c : Contents) : Type 0 where
  pub insns : List Insn
  pub assembled : IsAssembled (profile_of v) s insns
  pub code : EncodesCode (profile_of v) c.code insns
  pub version_is : c.version ≡ v
  pub head_is : c.head ≡ head_for v policy
  pub bound_is : c.bound ≡ bound
  pub invs : c.invs ≡ inv_encodings s.invs
  pub no_lemmas : c.lemmas ≡ []
  pub no_proof : c.proof ≡ None

-- ---- the tests in their order

-- the instruction at index i, where its label stands somewhere
abbrev pub resolved_insn : List (List ℕ × ℕ) → ℕ → SourceInsn → Option Insn
resolved_insn labels i (Plain said) = Some said
resolved_insn labels i (BranchTo cond ra l) = option_map (λ t. I.Branch cond ra (pos t -ℤ pos (i + 1))) (label_index labels l)
resolved_insn labels i (BrTo l) = option_map (λ t. I.Br (pos t -ℤ pos (i + 1))) (label_index labels l)

-- an instruction before the others, where all are resolved
abbrev pub with_resolved : ℕ → Option Insn → Result (List Insn) AsmFlaw → Result (List Insn) AsmFlaw
with_resolved line None rest = Err (A.NoLabel line)
with_resolved line (Some insn) (Ok code) = Ok (insn ∷ code)
with_resolved line (Some insn) (Err flaw) = Err flaw

-- all instructions from index i on, or the first line whose label stands nowhere
abbrev pub resolved_insns : List (List ℕ × ℕ) → ℕ → List (ℕ × SourceInsn) → Result (List Insn) AsmFlaw
resolved_insns labels i [] = Ok []
resolved_insns labels i (x ∷ xs) = with_resolved x.0 (resolved_insn labels i x.1) (resolved_insns labels (suc i) xs)

-- the flaw of a word, else what comes after
abbrev pub word_flaw : ℕ → Option BadWord → Option AsmFlaw → Option AsmFlaw
word_flaw line None next = next
word_flaw line (Some bad) next = Some (A.Word line bad)

-- the first line whose instruction the profile refuses
abbrev pub first_unlawful : Profile → List (ℕ × SourceInsn) → List Insn → Option AsmFlaw
first_unlawful p [] code = None
first_unlawful p (x ∷ xs) [] = None
first_unlawful p (x ∷ xs) (insn ∷ code) = word_flaw x.0 (fault_of p insn) (first_unlawful p xs code)

-- the line of the instruction at an index
abbrev pub line_at : List (ℕ × SourceInsn) → ℕ → ℕ
line_at [] i = 0
line_at (x ∷ xs) zero = x.0
line_at (x ∷ xs) (suc i) = line_at xs i

-- the instructions, given the first that branches outside; else that the last one may go on
abbrev pub in_shape : List (ℕ × SourceInsn) → List Insn → Option ℕ → Result (List Insn) AsmFlaw
in_shape said insns (Some i) = Err (A.Target (line_at said i))
in_shape said insns None = if runs_off insns then Err (A.FallsOff (line_at said (length insns - 1))) else Ok insns

-- the instructions, given the first that the profile refuses
abbrev pub if_lawful : List (ℕ × SourceInsn) → List Insn → Option AsmFlaw → Result (List Insn) AsmFlaw
if_lawful said insns (Some flaw) = Err flaw
if_lawful said insns None = in_shape said insns (first_outside (length insns) 0 insns)

-- the instructions that were resolved, where they are code
abbrev pub as_code : Profile → List (ℕ × SourceInsn) → Result (List Insn) AsmFlaw
    → Result (List Insn) AsmFlaw
as_code p said (Ok insns) = if_lawful said insns (first_unlawful p said insns)
as_code p said (Err flaw) = Err flaw

-- the code of the source, or the first line that is wrong
unfoldable pub assembled_code : Profile → Source → Result (List Insn) AsmFlaw
assembled_code p s = as_code p s.insns (resolved_insns s.labels 0 s.insns)

-- what a container of the version for the policy holds, with this bound, code and invariants
abbrev pub plain_contents : ℕ → Option ℕ → PolicyView → List (ℕ × Form) → List Insn → Contents
plain_contents v bound policy invs insns = record {
  version = v;
  head = head_for v policy;
  bound = bound;
  code = code_bytes insns;
  invs = inv_encodings invs;
  lemmas = [];
  proof = None;
}

-- the contents of code that was assembled
abbrev pub with_code : ℕ → Option ℕ → PolicyView → List (ℕ × Form) → Result (List Insn) AsmFlaw
    → Result Contents AsmFlaw
with_code v bound policy invs (Ok insns) = Ok (plain_contents v bound policy invs insns)
with_code v bound policy invs (Err flaw) = Err flaw

-- what a container of the source for the policy holds in the version, with the bound, or the first
-- line that is wrong
unfoldable pub assembled_contents : ℕ → Option ℕ → PolicyView → Source → Result Contents AsmFlaw
assembled_contents v bound policy s =
    with_code v bound policy s.invs (assembled_code (profile_of v) s)
