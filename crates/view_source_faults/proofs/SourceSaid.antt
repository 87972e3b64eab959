-- What is said of a source.
use Rattle.std.proofs.Common.{◌≡◌, ℕ, Bool, false, List, ◌++◌, length, Option, is_some, Ok, Err, sym, ap, ◌∙◌, append_assoc}
use Rattle.std.specs.Prelude.{codes, decimal}
use Rattle.proof_container.specs.Versions.{profile_of}
use Rattle.asm_text.specs.declared.fault.LineFlaw.{LineFlaw}
use Rattle.asm_text.specs.Names.{line_flaw_name}
use Rattle.asm_text.specs.Sources.{Source}
use Rattle.asm_text.specs.SourceParsing.{parsed_source}
use Rattle.pcc_asm.specs.Assembling.{assembled_code}
use Rattle.view_source_faults.specs.Spans.{flaw_span, flaw_limits}
use Rattle.view_source_faults.specs.SourceReports.{source_line, source_fault_text, report_of_code, report_of_source, source_report}

nested : (x a y b z c w : List ℕ) → ((x ++ (a ++ y)) ++ (b ++ z)) ++ (c ++ w) ≡ x ++ (a ++ (y ++ (b ++ (z ++ (c ++ w)))))
nested x a y b z c w = simp append_assoc

-- the line of the counts, as it grows
pub counted : (o p q r : List ℕ) (a b c : ℕ) (s : Source) → o ≡ codes "source: " → p ≡ o ++ (decimal a ++ codes " instructions, ") →
    q ≡ p ++ (decimal b ++ codes " labels, ") → r ≡ q ++ (decimal c ++ codes " invariants\n") →
    a ≡ length s.insns → b ≡ length s.labels → c ≡ length s.invs → r ≡ source_line s
unfolding source_line
counted o p q r a b c s e f g h i j k =
    h ∙ ap (λ l. l ++ (decimal c ++ codes " invariants\n"))
    (g ∙ ap (λ l. l ++ (decimal b ++ codes " labels, "))
    (f ∙ ap (λ l. l ++ (decimal a ++ codes " instructions, ")) e))
    ∙ nested (codes "source: ") (decimal a) (codes " instructions, ") (decimal b) (codes " labels, ") (decimal c) (codes " invariants\n")
    ∙ ap (λ n. codes "source: " ++ (decimal n ++ (codes " instructions, " ++ (decimal b ++ (codes " labels, " ++ (decimal c ++ codes " invariants\n")))))) i
    ∙ ap (λ n. codes "source: " ++ (decimal (length s.insns) ++ (codes " instructions, "
    ++ (decimal n ++ (codes " labels, " ++ (decimal c ++ codes " invariants\n")))))) j
    ∙ ap (λ n. codes "source: " ++ (decimal (length s.insns) ++ (codes " instructions, "
    ++ (decimal (length s.labels) ++ (codes " labels, " ++ (decimal n ++ codes " invariants\n")))))) k

-- of a text that spells a source
pub said_source : (version : ℕ) (bound : Option ℕ) (text : List ℕ) (s : Source) (r : Bool × List ℕ) →
    parsed_source (profile_of version) (is_some bound) text ≡ Ok s →
    r ≡ report_of_code text s (assembled_code (profile_of version) s) → r ≡ source_report version bound text
unfolding source_report
said_source version bound text s r e f = f ∙ ap (report_of_source (profile_of version) (is_some bound) text) (sym e)

-- and of one that spells none
pub said_flaw : (version : ℕ) (bound : Option ℕ) (text v : List ℕ) (n : ℕ) (flaw : LineFlaw) →
    parsed_source (profile_of version) (is_some bound) text ≡ Err (n, flaw) →
    v ≡ source_fault_text text n (line_flaw_name flaw) (flaw_span (profile_of version) (is_some bound) flaw)
    (flaw_limits (profile_of version) flaw) →
    ◌≡◌ {A = Bool × List ℕ} (false, v) (source_report version bound text)
unfolding source_report
said_flaw version bound text v n flaw e f = ap (λ l. (false, l)) f ∙ ap (report_of_source (profile_of version) (is_some bound) text) (sym e)
