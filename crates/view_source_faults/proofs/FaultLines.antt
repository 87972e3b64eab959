-- A fault with its line, and without.
use Rattle.std.proofs.Common.{◌≡◌, ℕ, List, ◌++◌, Option, Some, None, sym, ap, ◌∙◌}
use Rattle.std.proofs.lemmas.List.{append-nil}
use Rattle.view_faults.specs.Marking.{Span, Limits, marked_line, fault_lines}
use Rattle.view_faults.specs.Lines.{numbered_line}
use Rattle.pcc_lines.specs.Sources.{source_fault_line}
use Rattle.view_source_faults.specs.SourceReports.{source_fault_text}

module _
    (text : List ℕ)
    (n : ℕ)
    (kind : List ℕ)
    (span : List ℕ → Option Span)
    (limits : List ℕ → Option Limits) where
  -- no line has the number
  pub no_line : None ≡ numbered_line text n
      → source_fault_line n kind ≡ source_fault_text text n kind span limits
  no_line e =
      sym (append-nil (source_fault_line n kind))
      ∙ ap (λ o. source_fault_line n kind ++ fault_lines span limits o) e

  -- this one has it
  pub some_line : (line : List ℕ) (s : Option Span) (l : Option Limits)
      → Some line ≡ numbered_line text n → s ≡ span line → l ≡ limits line
      → source_fault_line n kind ++ marked_line line s l ≡ source_fault_text text n kind span limits
  some_line line s l e f g =
      ap (λ x. source_fault_line n kind ++ marked_line line x l) f
      ∙ ap (λ x. source_fault_line n kind ++ marked_line line (span line) x) g
      ∙ ap (λ o. source_fault_line n kind ++ fault_lines span limits o) e
