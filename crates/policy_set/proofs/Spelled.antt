-- Bytes are read as a policy exactly where they spell it.
use Rattle.std.proofs.Common.{◌≡◌, ◌≤◌, ℕ, Bool, true, false, cond, List, [], ◌∷◌, length, None, IfSome, IfOk, IfErr, Result, Ok, Err, refl, sym, ◌∙◌, ap, subst}
use Rattle.std.specs.Prelude.{nat_lt}
use Rattle.std.proofs.lemmas.Bool.{cond-false, le-ltb, ltb-false}
use Rattle.term_table.specs.Steps.{◌>>=◌}
use Rattle.word_ops.specs.declared.Profile.TheVariants.{Two}
use Rattle.text_tokens.specs.Lines.{AreLines, lines_of}
use Rattle.text_tokens.proofs.Endings.{lines_are, are_lines}
use Rattle.formula_tree.specs.Formulas.{Form}
use Rattle.formula_text.specs.Parsing.{FaultAt, parsed_form}
use Rattle.formula_text.proofs.Joined.{spelled_parsed, parsed_spelled}
use Rattle.policy_set.specs.declared.fault.PolicyFault.{PolicyFault}
use Rattle.policy_set.specs.declared.fault.PolicyFault.TheVariants as fault
use Rattle.policy_set.specs.declared.fault.PolicyFlaw.{PolicyFlaw}
use Rattle.policy_set.specs.declared.fault.PolicyFlaw.TheVariants as flaw
use Rattle.policy_set.specs.declared.limits.TheConstants.{MAX_FORM_LINE}
use Rattle.policy_set.specs.Policies.{pre_of, post_of}
use Rattle.policy_set.specs.Views.{PolicyView, IsPolicy}
use Rattle.policy_set.specs.PolicyText.{SpellsPolicy, from_file, form_lines, in_line, line_form, policy_read, IsPolicyAnswer, SpellsNoPolicy}
use Rattle.policy_set.proofs.Closed.{spelled-form}

-- ---- what is spelled is read

-- what is read of two lines
abbrev both_forms : List ℕ × List ℕ → Result PolicyView PolicyFlaw
both_forms lines =
    line_form 1 lines.0 >>= λ pre.
    line_form 2 lines.1 >>= λ post.
    Ok (from_file pre post)

short-lines : (first second : List ℕ) → length first ≤ MAX_FORM_LINE → length second ≤ MAX_FORM_LINE
    → form_lines (first ∷ second ∷ []) ≡ Ok (first, second)
short-lines first second p q =
    cond-false (nat_lt MAX_FORM_LINE (length first)) (Err (flaw.Length 1))
    (cond (nat_lt MAX_FORM_LINE (length second)) (Err (flaw.Length 2)) (Ok (first, second)))
    (le-ltb MAX_FORM_LINE (length first) p)
    ∙ cond-false (nat_lt MAX_FORM_LINE (length second)) (Err (flaw.Length 2)) (Ok (first, second))
    (le-ltb MAX_FORM_LINE (length second) q)

-- a policy without a kind is that of its formulas
of-formulas : (policy : PolicyView) → policy.kind ≡ None → from_file policy.pre policy.post ≡ policy
of-formulas policy e =
    let none = sym e in λ k. record { kind = none k; pre = policy.pre; post = policy.post }

pub spelled-read : (bytes : List ℕ) (policy : PolicyView) → SpellsPolicy bytes policy
    → policy_read bytes ≡ Ok policy
spelled-read bytes policy h =
    let asked = spelled_parsed Two false h.first policy.pre h.asked in
    let promised = spelled_parsed Two false h.second policy.post h.promised in
    ap (λ (ls : List (List ℕ)). form_lines ls >>= both_forms)
    (lines_are bytes (h.first ∷ h.second ∷ []) h.lines)
    ∙ ap (λ (o : Result (List ℕ × List ℕ) PolicyFlaw). o >>= both_forms)
    (short-lines h.first h.second h.first_short h.second_short)
    ∙ ap (λ (o : Result Form FaultAt).
    in_line 1 o >>= λ pre. line_form 2 h.second >>= λ post. Ok (from_file pre post)) asked
    ∙ ap (λ (o : Result Form FaultAt).
    in_line 2 o >>= λ post. Ok (from_file policy.pre post)) promised
    ∙ ap Ok (of-formulas policy h.no_kind)

-- ---- what is read is spelled

module _ (bytes : List ℕ) (policy : PolicyView) where
  by-forms : (first second : List ℕ) → lines_of bytes ≡ first ∷ second ∷ []
      → length first ≤ MAX_FORM_LINE → length second ≤ MAX_FORM_LINE
      → (x : Result Form FaultAt) → parsed_form Two false first ≡ x
      → (y : Result Form FaultAt) → parsed_form Two false second ≡ y
      → (in_line 1 x >>= λ pre. in_line 2 y >>= λ post. Ok (from_file pre post)) ≡ Ok policy
      → SpellsPolicy bytes policy
  by-forms first second e p q (Err (at, flaw)) x y f h = cc
  by-forms first second e p q (Ok F) x (Err (at, flaw)) f h = cc
  by-forms first second e p q (Ok F) x (Ok G) y h =
      let same : from_file F G ≡ policy = cc in
      subst (λ P. SpellsPolicy bytes P) same
      (record {
        first = first;
        second = second;
        lines = subst (λ ls. AreLines bytes ls) e (are_lines bytes);
        first_short = p;
        second_short = q;
        asked = parsed_spelled Two false first F x;
        promised = parsed_spelled Two false second G y;
        no_kind = refl;
      })

  by-second : (first second : List ℕ) → lines_of bytes ≡ first ∷ second ∷ []
      → length first ≤ MAX_FORM_LINE → (t : Bool) → nat_lt MAX_FORM_LINE (length second) ≡ t
      → (cond t (Err (flaw.Length 2)) (Ok (first, second)) >>= both_forms) ≡ Ok policy
      → SpellsPolicy bytes policy
  by-second first second e p true l h = cc
  by-second first second e p false l h =
      by-forms first second e p (ltb-false MAX_FORM_LINE (length second) l)
      (parsed_form Two false first) refl (parsed_form Two false second) refl h

  by-first : (first second : List ℕ) → lines_of bytes ≡ first ∷ second ∷ []
      → (t : Bool) → nat_lt MAX_FORM_LINE (length first) ≡ t
      → (cond t (Err (flaw.Length 1)) (cond (nat_lt MAX_FORM_LINE (length second))
      (Err (flaw.Length 2)) (Ok (first, second))) >>= both_forms) ≡ Ok policy
      → SpellsPolicy bytes policy
  by-first first second e true l h = cc
  by-first first second e false l h =
      by-second first second e (ltb-false MAX_FORM_LINE (length first) l)
      (nat_lt MAX_FORM_LINE (length second)) refl h

  by-lines : (ls : List (List ℕ)) → lines_of bytes ≡ ls → (form_lines ls >>= both_forms) ≡ Ok policy
      → SpellsPolicy bytes policy
  by-lines [] e h = cc
  by-lines (first ∷ []) e h = cc
  by-lines (first ∷ second ∷ []) e h =
      by-first first second e (nat_lt MAX_FORM_LINE (length first)) refl h
  by-lines (first ∷ second ∷ third ∷ ls) e h = cc

  pub read-spelled : policy_read bytes ≡ Ok policy → SpellsPolicy bytes policy
  read-spelled h = by-lines (lines_of bytes) refl h

-- ---- answers

pub spells-if : (bytes : List ℕ) (r : Result PolicyView PolicyFault)
    → IsPolicyAnswer (λ policy. policy) (policy_read bytes) r
    → IfOk r (λ policy. SpellsPolicy bytes policy)
spells-if bytes (Ok policy) h = read-spelled bytes policy h
spells-if bytes (Err e) h = tt

-- bytes that have a fault aren't read as a policy
no-policy : (bytes : List ℕ) (e : PolicyFlaw) → policy_read bytes ≡ Err e → (policy : PolicyView)
    → SpellsPolicy bytes policy → ⊥
no-policy bytes e h policy s = let both = sym h ∙ spelled-read bytes policy s in cc

pub none-if : (bytes : List ℕ) (r : Result PolicyView PolicyFault)
    → IsPolicyAnswer (λ policy. policy) (policy_read bytes) r
    → IfErr r (λ e. SpellsNoPolicy bytes e)
none-if bytes (Ok policy) h = tt
none-if bytes (Err (fault.At e)) h = no-policy bytes e h
none-if bytes (Err fault.Memory) h = tt

-- ---- what it keeps

pub spelled-is : (bytes : List ℕ) (policy : PolicyView) → SpellsPolicy bytes policy
    → IsPolicy policy
spelled-is bytes policy h = record {
  asked = spelled-form h.first policy.pre h.asked h.first_short;
  promised = spelled-form h.second policy.post h.promised h.second_short;
  of_kind =
      subst
      (λ o. IfSome o (λ kind. (policy.pre ≡ pre_of kind) × (policy.post ≡ post_of kind)))
      (sym h.no_kind) tt;
}
