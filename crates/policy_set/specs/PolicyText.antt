-- Policies from files: which bytes spell a policy, and what is wrong with others.
use Rattle.std.specs.Prelude.{◌≡◌, ◌≤◌, ℕ, nat_lt, if◌then◌else◌, false, List, [], ◌∷◌, length, None, Result, Ok, Err}
use Rattle.word_ops.specs.Tests.{TestFor, test, FirstFails}
use Rattle.word_ops.specs.declared.Profile.TheVariants.{Two}
use Rattle.term_table.specs.Steps.{◌>>=◌}
use Rattle.text_tokens.specs.Lines.{AreLines, lines_of}
use Rattle.formula_tree.specs.Formulas.{Form}
use Rattle.formula_text.specs.Grammar.{Spells}
use Rattle.formula_text.specs.Parsing.{FaultAt, parsed_form}
use Rattle.policy_set.specs.declared.fault.PolicyFault.{PolicyFault}
use Rattle.policy_set.specs.declared.fault.PolicyFault.TheVariants as fault
use Rattle.policy_set.specs.declared.fault.PolicyFlaw.{PolicyFlaw}
use Rattle.policy_set.specs.declared.fault.PolicyFlaw.TheVariants as flaw
use Rattle.policy_set.specs.declared.limits.TheConstants.{MAX_FORM_LINE}
use Rattle.policy_set.specs.Views.{PolicyView}

-- The bytes spell the policy: they are two lines, neither is long, and each spells a formula over
-- the operators of both profiles, without the steps that are left. Such a policy has no kind.
pub record SpellsPolicy (bytes : List ℕ) (policy : PolicyView) : Type 0 where
  pub first : List ℕ
  pub second : List ℕ
  pub lines : AreLines bytes (first ∷ second ∷ [])
  pub first_short : length first ≤ MAX_FORM_LINE
  pub second_short : length second ≤ MAX_FORM_LINE
  pub asked : Spells Two false first policy.pre
  pub promised : Spells Two false second policy.post
  pub no_kind : policy.kind ≡ None

-- ---- what is wrong with others, in the order of the tests

-- the line of this number spells a formula, or has the first fault of one
abbrev pub is_formula : ℕ → List ℕ → TestFor PolicyFlaw
is_formula n line = record {
  passes = (F : Form) × Spells Two false line F;
  fails = λ found. (fault : FaultAt) × (parsed_form Two false line ≡ Err fault) × (found ≡ flaw.Form n fault.0 fault.1);
}

-- the tests of lines: there are two, neither is long, and each spells a formula
abbrev pub policy_tests : List (List ℕ) → List (TestFor PolicyFlaw)
policy_tests (first ∷ second ∷ []) =
    test (length first ≤ MAX_FORM_LINE) (flaw.Length 1)
    ∷ test (length second ≤ MAX_FORM_LINE) (flaw.Length 2)
    ∷ is_formula 1 first
    ∷ is_formula 2 second
    ∷ []
policy_tests lines = test ⊥ (flaw.Lines (length lines)) ∷ []

-- The first flaw of a file's bytes: of the tests of their lines this is the first that fails.
abbrev pub IsPolicyFlaw : List ℕ → PolicyFlaw → Type 0
IsPolicyFlaw bytes found =
    (lines : List (List ℕ)) × AreLines bytes lines × FirstFails (policy_tests lines) found

-- ---- the same as a function

-- a policy of these formulas, which isn't built in
abbrev pub from_file : Form → Form → PolicyView
from_file pre post = record { kind = None; pre = pre; post = post }

-- the two lines of formulas, where there are two and neither is long
abbrev pub form_lines : List (List ℕ) → Result (List ℕ × List ℕ) PolicyFlaw
form_lines (first ∷ second ∷ []) =
    if nat_lt MAX_FORM_LINE (length first) then Err (flaw.Length 1) else
    if nat_lt MAX_FORM_LINE (length second) then Err (flaw.Length 2) else
    Ok (first, second)
form_lines lines = Err (flaw.Lines (length lines))

-- a fault of a formula, in the line of this number
abbrev pub in_line : ℕ → Result Form FaultAt → Result Form PolicyFlaw
in_line n (Ok F) = Ok F
in_line n (Err (at, what)) = Err (flaw.Form n at what)

-- the formula of a line, or its first fault
abbrev pub line_form : ℕ → List ℕ → Result Form PolicyFlaw
line_form n line = in_line n (parsed_form Two false line)

-- the policy that the bytes spell, or the first of their faults: both lengths come before both
-- formulas
abbrev pub policy_read : List ℕ → Result PolicyView PolicyFlaw
policy_read bytes =
    form_lines (lines_of bytes) >>= λ lines.
    line_form 1 lines.0 >>= λ pre.
    line_form 2 lines.1 >>= λ post.
    Ok (from_file pre post)

-- ---- what answers of calls say

-- an answer, seen by view, is what reading gives, unless memory ran out
abbrev pub IsPolicyAnswer : {X Y : Type 0} → (X → Y) → Result Y PolicyFlaw
    → Result X PolicyFault → Type 0
IsPolicyAnswer view read (Ok x) = read ≡ Ok (view x)
IsPolicyAnswer view read (Err (fault.At e)) = read ≡ Err e
IsPolicyAnswer view read (Err fault.Memory) = Unit {0}

-- the bytes spell no policy
abbrev pub SpellsNoPolicy : List ℕ → PolicyFault → Type 0
SpellsNoPolicy bytes fault.Memory = Unit {0}
SpellsNoPolicy bytes (fault.At e) = (policy : PolicyView) → SpellsPolicy bytes policy → ⊥

-- the fault is the first flaw of the bytes, or want of memory
abbrev pub IsPolicyFault : List ℕ → PolicyFault → Type 0
IsPolicyFault bytes fault.Memory = Unit {0}
IsPolicyFault bytes (fault.At found) = IsPolicyFlaw bytes found
