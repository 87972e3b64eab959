-- What is said of a text that spells no policy.
use Rattle.std.proofs.Common.{◌≡◌, ℕ, List, ◌++◌, Some, None, sym, ap, ◌∙◌, append_assoc}
use Rattle.std.proofs.lemmas.List.{append-nil}
use Rattle.formula_text.specs.declared.fault.TextFlaw.{TextFlaw}
use Rattle.formula_text.specs.Names.{text_flaw_name}
use Rattle.policy_set.specs.declared.fault.PolicyFlaw.TheVariants.{Form}
use Rattle.pcc_lines.specs.Policies.{policy_form_line}
use Rattle.view_faults.specs.Marking.{marked_line, fault_lines, no_limits}
use Rattle.view_faults.specs.PolicyReports.{policy_fault_text}
use Rattle.view_faults.specs.Lines.{numbered_line}

-- three texts behind a first
pub appended : (old a b c one two last : List ℕ) → one ≡ old ++ a → two ≡ one ++ b → last ≡ two ++ c
    → last ≡ old ++ (a ++ (b ++ c))
appended old a b c one two last e f g =
    g ∙ ap (λ l. l ++ c) f ∙ append_assoc one b c ∙ ap (λ l. l ++ (b ++ c)) e
    ∙ append_assoc old a (b ++ c)

-- no line has the number
pub no_line : (text : List ℕ) (n at : ℕ) (flaw : TextFlaw) → None ≡ numbered_line text n
    → policy_form_line n at (text_flaw_name flaw) ≡ policy_fault_text text (Form n at flaw)
no_line text n at flaw e =
    let head = policy_form_line n at (text_flaw_name flaw) in
    sym (append-nil head) ∙ ap (λ o. head ++ fault_lines (λ line. Some (at, 0)) no_limits o) e

-- this one has it
pub some_line : (text line : List ℕ) (n at : ℕ) (flaw : TextFlaw) → Some line ≡ numbered_line text n
    → policy_form_line n at (text_flaw_name flaw) ++ marked_line line (Some (at, 0)) None
    ≡ policy_fault_text text (Form n at flaw)
some_line text line n at flaw e =
    ap
    (λ o. policy_form_line n at (text_flaw_name flaw)
    ++ fault_lines (λ l. Some (at, 0)) no_limits o) e
