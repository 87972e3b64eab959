-- One turn of the reader's loop, and what its answer says.
use Rattle.std.proofs.Common.{◌≡◌, ℕ, Bool, List, [], ◌∷◌, length, Result, Ok, Err, sym, ap, ◌∙◌, subst}
use Rattle.std.specs.Prelude.{IfOk, IfErr}
use Rattle.formula_tree.specs.Formulas.{Form}
use Rattle.formula_tree.specs.Scope.{IsWithin}
use Rattle.formula_tree.specs.Views.{form_view}
use Rattle.formula_tree.specs.declared.form.Form as D
use Rattle.text_tokens.specs.declared.parens.Paren.{Paren}
use Rattle.text_tokens.specs.Tokens.{Token, Placed, tokens_at}
use Rattle.text_tokens.specs.Parens.{paren_class}
use Rattle.formula_text.specs.declared.fault.TextFlaw.{TextFlaw}
use Rattle.formula_text.specs.declared.fault.TextFault.{TextFault}
use Rattle.formula_text.specs.declared.fault.TextFault.TheVariants as FV
use Rattle.formula_text.specs.Grammar.{Spells}
use Rattle.term_table.specs.Steps.{◌>>=◌}
use Rattle.formula_text.specs.Parsing.{FaultAt, Frame, Inside, ParseState, parse_step, at_position, parse_end, parsed_tokens, parsed_form}
use Rattle.formula_text.specs.Answers.{Parses, SpellsNone}
use Rattle.formula_text.specs.Inside.Views.{MovesAt}
use Rattle.formula_text.proofs.Closed.{spelled_closed}
use Rattle.formula_text.proofs.Joined.{spelled_parsed, parsed_spelled}
use Rattle.word_ops.specs.declared.Profile.{Profile}

module _ (profile : Profile) (left : Bool) where
  pub start_is : (text : List ℕ) (n : ℕ) → n ≡ length text → parsed_tokens profile left n (tokens_at paren_class 0 text) (Inside, []) ≡ parsed_form profile left text
  unfolding parsed_form
  start_is text n e = ap (λ m. parsed_tokens profile left m (tokens_at paren_class 0 text) (Inside, [])) e

  pub turn_ok : (end p : ℕ) (t : Token Paren) (all ts : List (Placed Paren)) (s n : ParseState) (r : Result Form FaultAt) → all ≡ (p, t) ∷ ts → parse_step profile left t s ≡ Ok n → parsed_tokens profile left end all s ≡ r → parsed_tokens profile left end ts n ≡ r
  unfolding parsed_tokens
  turn_ok end p t all ts s n r a e h = sym (ap (λ l. parsed_tokens profile left end l s) a ∙ ap (λ x. at_position p x >>= λ m. parsed_tokens profile left end ts m) e) ∙ h

  pub turn_err : (end p : ℕ) (t : Token Paren) (all ts : List (Placed Paren)) (s : ParseState) (k : TextFlaw) (r : Result Form FaultAt) → all ≡ (p, t) ∷ ts → parse_step profile left t s ≡ Err k → parsed_tokens profile left end all s ≡ r → r ≡ Err (p, k)
  unfolding parsed_tokens
  turn_err end p t all ts s k r a e h = sym h ∙ ap (λ l. parsed_tokens profile left end l s) a ∙ ap (λ x. at_position p x >>= λ m. parsed_tokens profile left end ts m) e

  pub turn_end : (end : ℕ) (all : List (Placed Paren)) (s : ParseState) (r : Result Form FaultAt) → all ≡ [] → parsed_tokens profile left end all s ≡ r → r ≡ parse_end end s.0
  unfolding parsed_tokens
  turn_end end all s r a h = sym h ∙ ap (λ l. parsed_tokens profile left end l s) a

  -- a token that isn't taken ends the reading
  pub turn_stops : (end p : ℕ) (t : Token Paren) (all ts : List (Placed Paren)) (s : ParseState) (fs : List Frame) (e : TextFault) (r : Result Form FaultAt) → all ≡ (p, t) ∷ ts → parsed_tokens profile left end all s ≡ r → MovesAt p (parse_step profile left t s) fs (Err e) → Parses form_view r (Err e)
  turn_stops end p t all ts s fs FV.Memory r a h m = tt
  turn_stops end p t all ts s fs (FV.At q k) r a h m = turn_err end p t all ts s k r a m.1 h ∙ ap (λ x. Err (x, k)) (sym m.0)

  pub gives_same : (read r : Result Form FaultAt) (x : Result D.Form TextFault) → r ≡ read → Parses form_view read x → Parses form_view r x
  gives_same read r x e h = subst (λ y. Parses form_view y x) (sym e) h

  pub spelled_if : (text : List ℕ) (x : Result D.Form TextFault) → Parses form_view (parsed_form profile left text) x → IfOk x (λ f. Spells profile left text (form_view f))
  spelled_if text (Ok f) h = parsed_spelled profile left text (form_view f) h
  spelled_if text (Err e) h = tt

  pub closed_if : (text : List ℕ) (x : Result D.Form TextFault) → Parses form_view (parsed_form profile left text) x → IfOk x (λ f. IsWithin left 32 (form_view f) [])
  closed_if text (Ok f) h = spelled_closed profile left text (form_view f) (parsed_spelled profile left text (form_view f) h)
  closed_if text (Err e) h = tt

  none_by : (text : List ℕ) (p : ℕ) (k : TextFlaw) → parsed_form profile left text ≡ Err (p, k) → (f : Form) → Spells profile left text f → ⊥
  none_by text p k e f h = let g : parsed_form profile left text ≡ Ok f = spelled_parsed profile left text f h in cc

  pub none_if : (text : List ℕ) (x : Result D.Form TextFault) → Parses form_view (parsed_form profile left text) x → IfErr x (λ e. SpellsNone profile left text e)
  none_if text (Ok f) h = tt
  none_if text (Err FV.Memory) h = tt
  none_if text (Err (FV.At p k)) h = none_by text p k h
