-- What each stage of the gate answers.
use Rattle.std.specs.Prelude.{◌≡◌, ℕ, ◌≤◌, List, [], ◌++◌, Option, None, Result, Ok, Err, IfErr, map, length}
use Rattle.std.specs.Option.{option_map}
use Rattle.alpha_words.specs.declared.insn.Insn.{Insn}
use Rattle.alpha_cfg.specs.CodeBytes.{EncodesCode}
use Rattle.alpha_cfg.specs.CodeDecoding.{decoded_code}
use Rattle.alpha_cfg.specs.Flow.{IsCode}
use Rattle.alpha_cfg.specs.Cuts.{CutView, AreFlags, IsCut}
use Rattle.alpha_cfg.specs.Deciding.{flags_of, uncut_of}
use Rattle.policy_set.specs.Views.{PolicyView}
use Rattle.term_table.specs.Tree.{Tree}
use Rattle.term_table.specs.Table.{TableView, tree_at, id_trees}
use Rattle.lf_lemmas.specs.Tables.{lemmas_in}
use Rattle.proof_container.specs.Contents.{Contents, roots, lemma_roots, one_or_none}
use Rattle.proof_container.specs.Encoding.{EncodesContents}
use Rattle.proof_container.specs.Views.{contents_of}
use Rattle.proof_container.specs.declared.container.Container.{Container}
use Rattle.proof_container.specs.declared.limits.TheConstants.{MAX_BYTES}
use Rattle.pcc_gate.specs.declared.fault.GateFault.{GateFault}
use Rattle.pcc_gate.specs.declared.fault.GateFault.TheVariants as fault
use Rattle.pcc_gate.specs.declared.refusal.Refusal.{Refusal}
use Rattle.pcc_gate.specs.Answers.{IsHeld}
use Rattle.pcc_gate.specs.First.{too_high, first_some, refused_past, uncut_found, shape_found, from_code, front_found}
use Rattle.word_ops.specs.declared.Profile.{Profile}
use Rattle.lf_signature.specs.declared.editions.WordSignature.{WordSignature}
use Rattle.proof_container.specs.declared.container.Head.TheVariants.{Number}
use Rattle.pcc_gate.specs.ForPolicy.{IsFor}
use Rattle.pcc_gate.specs.Passing.{PassesUntyped}

-- the trees of the roots behind the invariants, by their ids
abbrev pub later_trees : TableView → List (ℕ × ℕ) → Option ℕ → List Tree
later_trees t lemmas proof =
    lemma_roots (lemmas_in t lemmas) ++ one_or_none (option_map (tree_at t) proof)

-- the trees of the roots, by their ids
abbrev pub measured_trees : TableView → List (ℕ × ℕ) → List (ℕ × ℕ) → Option ℕ → List Tree
measured_trees t invs lemmas proof =
    map (λ p. p.1) (id_trees t invs) ++ later_trees t lemmas proof

-- the refusal is what is found; what ran out says nothing
abbrev pub IsRefusalOf : Option Refusal → GateFault → Type 0
IsRefusalOf found (fault.Refused r) = found ≡ Option.Some r
IsRefusalOf found fault.Memory = Unit {0}
IsRefusalOf found fault.Results = Unit {0}

-- a clause that searches: nothing is found, or the refusal tells what is
abbrev pub AnswersSearch : {X A : Type 0} → (X → Refusal) → Option X → Result A GateFault → Type 0
AnswersSearch refused found (Ok _) = found ≡ None
AnswersSearch refused found (Err e) = IsRefusalOf (option_map refused found) e

-- a clause with a limit: the number is within it, or refused
abbrev pub AnswersLimit : {A : Type 0} → ℕ → ℕ → Refusal → Result A GateFault → Type 0
AnswersLimit limit n refused (Ok _) = n ≤ limit
AnswersLimit limit n refused (Err e) = IsRefusalOf (refused_past limit n refused) e

-- a refusal is the first that is found, whatever comes after the stage, for which more stands
abbrev pub Refuses : {N : Type 0} → (N → List (Option Refusal)) → GateFault → Type 0
Refuses {N} found (fault.Refused r) = (more : N) → first_some (found more) ≡ Option.Some r
Refuses found fault.Memory = Unit {0}
Refuses found fault.Results = Unit {0}

-- a refusal of bytes, whatever comes after; memory ran out of bytes that aren't too many, and
-- results of such as pass clauses 1 to 5
abbrev pub RefusesBytes : PolicyView → List ℕ → GateFault → Type 0
RefusesBytes policy bytes (fault.Refused r) =
    (more : Contents → List Insn → List (Option Refusal)) → first_some (front_found policy bytes more) ≡ Option.Some r
RefusesBytes policy bytes fault.Memory = length bytes ≤ MAX_BYTES
RefusesBytes policy bytes fault.Results = PassesUntyped policy bytes

-- the contents pass clauses 1 to 3
pub record IsRead (policy : PolicyView) (bytes : List ℕ) (c : Contents) : Type 0 where
  pub size : length bytes ≤ MAX_BYTES
  pub encoded : EncodesContents bytes c
  pub named : IsFor policy c.head

-- clauses 1 to 3
abbrev pub IsContainerAnswer : PolicyView → List ℕ → Result Container GateFault → Type 0
IsContainerAnswer policy bytes (Ok c) = IsRead policy bytes (contents_of c) × IsHeld c
IsContainerAnswer policy bytes (Err e) = RefusesBytes policy bytes e

-- clause 4 in the profile
abbrev pub IsCodeRead : Profile → List ℕ → Result (List Insn) GateFault → Type 0
IsCodeRead p bytes (Ok code) =
    (decoded_code p bytes ≡ Ok code) × EncodesCode p bytes code × IsCode code
IsCodeRead p bytes (Err e) = (c : Contents) → Refuses (from_code c (decoded_code p bytes)) e

-- cut code: its flags, that they cut it, and that clause 7 doesn't refuse
pub record IsMade (code : List Insn) (annotated : List ℕ) (cut : CutView) : Type 0 where
  pub code_is : cut.code ≡ code
  pub flags : AreFlags annotated (length code) cut.marks
  pub cuts : IsCut code cut.marks
  pub marks_are : cut.marks ≡ flags_of annotated (length code)
  pub uncut : uncut_of code (flags_of annotated (length code)) ≡ None

-- clause 7
abbrev pub IsCutMade : List Insn → List ℕ → Result CutView GateFault → Type 0
IsCutMade code annotated (Ok cut) = IsMade code annotated cut
IsCutMade code annotated (Err e) = IsRefusalOf (uncut_found code (flags_of annotated (length code))) e

-- contents of which the bound and the roots alone are of interest, these by their ids
abbrev pub with_roots : TableView → Option ℕ → List (ℕ × ℕ) → List (ℕ × ℕ) → Option ℕ → Contents
with_roots t bound invs lemmas proof = record {
  version = 1;
  head = Number 0;
  bound = bound;
  code = [];
  invs = id_trees t invs;
  lemmas = lemmas_in t lemmas;
  proof = option_map (tree_at t) proof;
}

-- cut code of contents that pass clauses 5, 6, 13, 7 and 8 over the signature
pub record IsShaped (s : WordSignature) (c : Contents) (code : List Insn) (cut : CutView)
    : Type 0 where
  pub none : first_some (shape_found s c code) ≡ None
  pub made : IsMade code (map (λ p. p.0) c.invs) cut

-- clauses 5, 6, 13, 7 and 8
abbrev pub IsShapeAnswer : WordSignature → Contents → List Insn → Result CutView GateFault → Type 0
IsShapeAnswer s c code (Ok cut) = IsShaped s c code cut
IsShapeAnswer s c code (Err e) = IsRefusalOf (first_some (shape_found s c code)) e

-- results are counted only where no root of the contents is too high
abbrev pub CountsLow : {A : Type 0} → Contents → Result A GateFault → Type 0
CountsLow c r = IfErr r (λ e. e ≡ fault.Results → too_high (roots c) ≡ None)
