-- What a policy's bytes read as speaks of the tests of their lines.
use Rattle.std.proofs.Common.{◌≡◌, ◌↔◌, ◌≤◌, ◌<◌, inl, inr, ℕ, Bool, true, false, cond, List, [], ◌∷◌, length, IfErr, Result, Ok, Err}
use Rattle.std.proofs.Common.{refl, sym, ◌∙◌, ap, subst, arith}
use Rattle.std.specs.Prelude.{nat_lt}
use Rattle.std.proofs.lemmas.Bool.{ltb-true, ltb-false}
use Rattle.word_ops.specs.Tests.{FirstFails, Answers, IsSharp, AreSharp}
use Rattle.word_ops.proofs.Tests.{test-sharp, flaw-exactly}
use Rattle.word_ops.specs.declared.Profile.TheVariants.{Two}
use Rattle.term_table.specs.Steps.{◌>>=◌}
use Rattle.text_tokens.specs.Lines.{lines_of}
use Rattle.text_tokens.proofs.Endings.{lines_are, are_lines}
use Rattle.formula_tree.specs.Formulas.{Form}
use Rattle.formula_text.specs.Parsing.{FaultAt, parsed_form}
use Rattle.formula_text.proofs.Joined.{spelled_parsed, parsed_spelled}
use Rattle.policy_set.specs.declared.fault.PolicyFault.{PolicyFault}
use Rattle.policy_set.specs.declared.fault.PolicyFault.TheVariants as fault
use Rattle.policy_set.specs.declared.fault.PolicyFlaw.{PolicyFlaw}
use Rattle.policy_set.specs.declared.fault.PolicyFlaw.TheVariants as flaw
use Rattle.policy_set.specs.declared.limits.TheConstants.{MAX_FORM_LINE}
use Rattle.policy_set.specs.Views.{PolicyView}
use Rattle.policy_set.specs.PolicyText.{from_file, form_lines, in_line, line_form, policy_read, IsPolicyAnswer, is_formula, policy_tests}
use Rattle.policy_set.specs.PolicyText.{IsPolicyFlaw, IsPolicyFault}

-- ---- the tests are sharp

formula-sharp : (n : ℕ) (line : List ℕ) → IsSharp (is_formula n line)
formula-sharp n line = record { excludes = apart; one = same }
  where
    apart : (found : PolicyFlaw) → (is_formula n line).fails found → (is_formula n line).passes → ⊥
    apart found (at, e, is) (F, spells) =
        let both : Err at ≡ Ok F = sym e ∙ spelled_parsed Two false line F spells in
        absurd cc

    same : (a b : PolicyFlaw) → (is_formula n line).fails a → (is_formula n line).fails b → a ≡ b
    same a b (x, e, is) (y, f, was) =
        let errs : Err x ≡ Err y = sym e ∙ f in
        let one : x ≡ y = cc in
        is ∙ ap (λ z. flaw.Form n z.0 z.1) one ∙ sym was

tests-sharp : (lines : List (List ℕ)) → AreSharp (policy_tests lines)
tests-sharp [] = (test-sharp _ _, tt)
tests-sharp (first ∷ []) = (test-sharp _ _, tt)
tests-sharp (first ∷ second ∷ []) = (test-sharp _ _, (test-sharp _ _, (formula-sharp 1 first, (formula-sharp 2 second, tt))))
tests-sharp (first ∷ second ∷ third ∷ lines) = (test-sharp _ _, tt)

-- ---- what is read speaks of them

-- what is read of two lines
abbrev forms_of : List ℕ × List ℕ → Result PolicyView PolicyFlaw
forms_of lines = line_form 1 lines.0 >>= λ pre. line_form 2 lines.1 >>= λ post. Ok (from_file pre post)

module _ (first second : List ℕ) where
  abbrev Speaks : Result PolicyView PolicyFlaw → Type 0
  Speaks r = Answers (policy_tests (first ∷ second ∷ [])) r

  by-forms : length first ≤ MAX_FORM_LINE → length second ≤ MAX_FORM_LINE → (x : Result Form FaultAt) → parsed_form Two false first ≡ x
      → (y : Result Form FaultAt) → parsed_form Two false second ≡ y
      → Speaks (in_line 1 x >>= λ pre. in_line 2 y >>= λ post. Ok (from_file pre post))
  by-forms p q (Err at) e y f = inr (p, inr (q, inl (at, e, refl)))
  by-forms p q (Ok F) e (Err at) f = inr (p, inr (q, inr ((F, parsed_spelled Two false first F e), inl (at, f, refl))))
  by-forms p q (Ok F) e (Ok G) f = (p, (q, ((F, parsed_spelled Two false first F e), ((G, parsed_spelled Two false second G f), tt))))

  by-second : length first ≤ MAX_FORM_LINE → (b : Bool) → nat_lt MAX_FORM_LINE (length second) ≡ b
      → Speaks (cond b (Err (flaw.Length 2)) (Ok (first, second)) >>= forms_of)
  by-second p true e = let long : MAX_FORM_LINE < length second = ltb-true _ _ e in inr (p, inl (λ q. omega (arith, long, q), refl))
  by-second p false e = by-forms p (ltb-false _ _ e) (parsed_form Two false first) refl (parsed_form Two false second) refl

  by-first : (b : Bool) → nat_lt MAX_FORM_LINE (length first) ≡ b
      → Speaks (cond b (Err (flaw.Length 1)) (cond (nat_lt MAX_FORM_LINE (length second)) (Err (flaw.Length 2)) (Ok (first, second))) >>= forms_of)
  by-first true e = let long : MAX_FORM_LINE < length first = ltb-true _ _ e in inl (λ q. omega (arith, long, q), refl)
  by-first false e = by-second (ltb-false _ _ e) (nat_lt MAX_FORM_LINE (length second)) refl

lines-speak : (lines : List (List ℕ)) → Answers (policy_tests lines) (form_lines lines >>= forms_of)
lines-speak [] = inl (λ p. p, refl)
lines-speak (first ∷ []) = inl (λ p. p, refl)
lines-speak (first ∷ second ∷ []) = by-first first second (nat_lt MAX_FORM_LINE (length first)) refl
lines-speak (first ∷ second ∷ third ∷ lines) = inl (λ p. p, refl)

-- ---- the flaw that is read is the first, and no other

pub flaw-is : (bytes : List ℕ) (found : PolicyFlaw) → (policy_read bytes ≡ Err found) ↔ IsPolicyFlaw bytes found
flaw-is bytes found =
    let exactly = flaw-exactly (policy_tests (lines_of bytes)) (tests-sharp (lines_of bytes)) (policy_read bytes) (lines-speak (lines_of bytes)) found in (
      λ e. (lines_of bytes, are_lines bytes, exactly.0 e),
      λ h. exactly.1 (subst (λ lines. FirstFails (policy_tests lines) found) (sym (lines_are bytes h.0 h.1)) h.2),
    )

pub first-if : (bytes : List ℕ) (r : Result PolicyView PolicyFault) → IsPolicyAnswer (λ policy. policy) (policy_read bytes) r
    → IfErr r (λ e. IsPolicyFault bytes e)
first-if bytes (Ok policy) h = tt
first-if bytes (Err (fault.At found)) h = (flaw-is bytes found).0 h
first-if bytes (Err fault.Memory) h = tt
