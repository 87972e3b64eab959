-- What is said of a text that is to spell a policy.
use Rattle.std.specs.Prelude.{ℕ, Bool, true, false, List, ◌++◌, codes, Some, Result, Ok, Err}
use Rattle.formula_tree.specs.Formulas.{Form}
use Rattle.formula_text.specs.Names.{text_flaw_name}
use Rattle.formula_text.specs.Printing.{form_text}
use Rattle.policy_set.specs.declared.fault.PolicyFlaw.{PolicyFlaw}
use Rattle.policy_set.specs.declared.fault.PolicyFlaw.TheVariants as flaw
use Rattle.policy_set.specs.PolicyText.{policy_read}
use Rattle.policy_set.specs.Views.{PolicyView}
use Rattle.pcc_lines.specs.Policies.{policy_lines_line, policy_length_line, policy_form_line}
use Rattle.view_faults.specs.Lines.{numbered_line}
use Rattle.view_faults.specs.Marking.{fault_lines, no_limits}

-- a formula as it is printed, behind a word
abbrev pub form_behind : List ℕ → Form → List ℕ
form_behind word F = word ++ (form_text 0 F ++ codes "\n")

-- the precondition and the postcondition as they are printed
abbrev pub policy_forms : PolicyView → List ℕ
policy_forms policy = form_behind (codes "pre ") policy.pre ++ form_behind (codes "post ") policy.post

-- a fault as `pcc check` prints it, and behind a formula's the line in which it lies, marked
abbrev pub policy_fault_text : List ℕ → PolicyFlaw → List ℕ
policy_fault_text text (flaw.Lines count) = policy_lines_line count
policy_fault_text text (flaw.Length number) = policy_length_line number
policy_fault_text text (flaw.Form number at what) =
    policy_form_line number at (text_flaw_name what)
    ++ fault_lines (λ line. Some (at, 0)) no_limits (numbered_line text number)

-- what is said of a text, by what it is read as
abbrev pub report_of_policy : List ℕ → Result PolicyView PolicyFlaw → Bool × List ℕ
report_of_policy text (Ok policy) = (true, policy_forms policy)
report_of_policy text (Err e) = (false, policy_fault_text text e)

-- whether the text spells a policy, and what is said of it
unfoldable pub policy_report : List ℕ → Bool × List ℕ
policy_report text = report_of_policy text (policy_read text)
