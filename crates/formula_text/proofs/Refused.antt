-- Where reading stops.
use Rattle.std.proofs.Common.{◌≡◌, ◌⊎◌, ⊎_elim, inl, inr, ℕ, Bool, List, [], ◌∷◌, ◌++◌, length, Result, Ok, Err, refl, sym, ap, ◌∙◌, append_assoc}
use Rattle.formula_tree.specs.Formulas.{Form}
use Rattle.text_tokens.specs.declared.parens.Paren.{Paren}
use Rattle.text_tokens.specs.Tokens.{Token, Placed, tokens_at}
use Rattle.text_tokens.specs.Parens.{paren_class}
use Rattle.formula_text.specs.declared.fault.TextFlaw.{TextFlaw}
use Rattle.formula_text.specs.Grammar.{SpellsForm}
use Rattle.term_table.specs.Steps.{◌>>=◌}
use Rattle.formula_text.specs.Parsing.{FaultAt, AForm, Expected, Inside, Opened, Binding, Whole, ParseState, put_phrase, parse_step, at_position, parse_end, parsed_tokens, parsed_form}
use Rattle.formula_text.proofs.Running.{parse_steps, parse_steps-append, form_runs}
use Rattle.formula_text.proofs.Viable.{taken_begins}
use Rattle.formula_text.specs.Faults.{bare, BeginsNoForm, IsFaultPosition}
use Rattle.word_ops.specs.declared.Profile.{Profile}

module _ (profile : Profile) (left : Bool) where
  -- a token that isn't taken, behind others that are
  abbrev Stops : List (Placed Paren) → ParseState → ℕ → TextFlaw → Type 0
  Stops ts s p k = (front rest : List (Placed Paren)) × (t : Token Paren) × (n : ParseState) × (ts ≡ front ++ ((p, t) ∷ rest)) × (parse_steps profile left (bare front) s ≡ Ok n) × (parse_step profile left t n ≡ Err k)

  -- all tokens are taken, and it is no whole formula
  abbrev Lacks : List (Placed Paren) → ParseState → Type 0
  Lacks ts s = (n : ParseState) × (parse_steps profile left (bare ts) s ≡ Ok n) × ((f : Form) → n.0 ≡ Whole f → ⊥)

  err_same : (x y : FaultAt) → ◌≡◌ {A = Result Form FaultAt} (Err x) (Err y) → x ≡ y
  err_same x y e = cc

  place_same : (p q : ℕ) (j k : TextFlaw) → ◌≡◌ {A = Result Form FaultAt} (Err (q, j)) (Err (p, k)) → p ≡ q
  place_same p q j k e = let s : (q, j) ≡ (p, k) = err_same _ _ e in ap (λ y. y.0) (sym s)

  flaw_same : (p q : ℕ) (j k : TextFlaw) → ◌≡◌ {A = Result Form FaultAt} (Err (q, j)) (Err (p, k)) → j ≡ k
  flaw_same p q j k e = let s : (q, j) ≡ (p, k) = err_same _ _ e in ap (λ y. y.1) s

  differ : (x : ParseState) (k : TextFlaw) → ◌≡◌ {A = Result ParseState TextFlaw} (Ok x) (Err k) → ⊥
  differ x k e = cc

  ok_same : (x y : ParseState) → ◌≡◌ {A = Result ParseState TextFlaw} (Ok x) (Ok y) → x ≡ y
  ok_same x y e = cc

  lacking : (end p : ℕ) (k : TextFlaw) (st : Expected) → parse_end end st ≡ Err (p, k) → (p ≡ end) × ((f : Form) → st ≡ Whole f → ⊥)
  lacking end p k Inside e = (place_same _ _ _ _ e, λ f g. cc)
  lacking end p k (Opened q) e = (place_same _ _ _ _ e, λ f g. cc)
  lacking end p k (Binding h) e = (place_same _ _ _ _ e, λ f g. cc)
  lacking end p k (Whole a) e = cc

  goes_on : (end p q : ℕ) (k : TextFlaw) (t : Token Paren) (ts : List (Placed Paren)) (s : ParseState) (r : Result ParseState TextFlaw) → parse_step profile left t s ≡ r → (at_position q r >>= λ n. parsed_tokens profile left end ts n) ≡ Err (p, k) →
      ((n : ParseState) → parsed_tokens profile left end ts n ≡ Err (p, k) → Stops ts n p k ⊎ ((p ≡ end) × Lacks ts n)) → Stops ((q, t) ∷ ts) s p k ⊎ ((p ≡ end) × Lacks ((q, t) ∷ ts) s)
  goes_on end p q k t ts s (Ok n) f e g =
      ⊎_elim
      (λ a. inl ((q, t) ∷ a.0, a.1, a.2, a.3, ap (λ l. (q, t) ∷ l) a.4, ap (λ r. r >>= λ m. parse_steps profile left (bare a.0) m) f ∙ a.5, a.6))
      (λ a. inr (a.0, (a.1.0, ap (λ r. r >>= λ m. parse_steps profile left (bare ts) m) f ∙ a.1.1, a.1.2))) (g n e)
  goes_on end p q k t ts s (Err j) f e g =
      let a : q ≡ p = sym (place_same _ _ _ _ e) in
      let b : j ≡ k = flaw_same _ _ _ _ e in
      inl ([], ts, t, s, ap (λ x. (x, t) ∷ ts) a, refl, f ∙ ap Err b)

  stopped : (end p : ℕ) (k : TextFlaw) (ts : List (Placed Paren)) (s : ParseState) → parsed_tokens profile left end ts s ≡ Err (p, k) → Stops ts s p k ⊎ ((p ≡ end) × Lacks ts s)
  unfolding parsed_tokens
  stopped end p k [] s e = let f = lacking end p k s.0 e in inr (f.0, (s, refl, f.1))
  stopped end p k (x ∷ ts) s e = goes_on end p x.0 k x.1 ts s (parse_step profile left x.1 s) refl e (λ n g. stopped end p k ts n g)

  given_whole : (f : Form) → put_phrase (AForm f) [] ≡ Ok (Whole f, [])
  unfolding put_phrase
  given_whole f = refl

  -- a spelled formula is read whole
  whole_run : (f : Form) (ts : List (Token Paren)) → SpellsForm profile left f [] ts → parse_steps profile left ts (Inside, []) ≡ Ok (Whole f, [])
  whole_run f ts h = form_runs profile left f [] ts refl h ∙ given_whole f

  stop_run : (ts more : List (Token Paren)) (t : Token Paren) (s n : ParseState) (k : TextFlaw) → parse_steps profile left ts s ≡ Ok n → parse_step profile left t n ≡ Err k → parse_steps profile left ((ts ++ (t ∷ [])) ++ more) s ≡ Err k
  stop_run ts more t s n k e f =
      ap (λ l. parse_steps profile left l s) (append_assoc ts (t ∷ []) more) ∙ parse_steps-append profile left ts (t ∷ more) s ∙ ap (λ r. r >>= λ m. parse_steps profile left (t ∷ more) m) e ∙ ap (λ r. r >>= λ m. parse_steps profile left more m) f

  none_begins : (ts : List (Token Paren)) (t : Token Paren) (n : ParseState) (k : TextFlaw) → parse_steps profile left ts (Inside, []) ≡ Ok n → parse_step profile left t n ≡ Err k → BeginsNoForm profile left (ts ++ (t ∷ []))
  none_begins ts t n k e f = λ g more h. differ _ _ (sym (whole_run g ((ts ++ (t ∷ [])) ++ more) h) ∙ stop_run ts more t (Inside, []) n k e f)

  none_whole : (ts : List (Token Paren)) (n : ParseState) (f : Form) → parse_steps profile left ts (Inside, []) ≡ Ok n → (n.0 ≡ Whole f → ⊥) → SpellsForm profile left f [] ts → ⊥
  none_whole ts n f e g h = let s : (Whole f, []) ≡ n = ok_same _ _ (sym (whole_run f ts h) ∙ e) in g (ap (λ m. m.0) (sym s))

  pub fault_is : (text : List ℕ) (p : ℕ) (k : TextFlaw) → parsed_form profile left text ≡ Err (p, k) → IsFaultPosition profile left text p
  unfolding parsed_form
  fault_is text p k e =
      ⊎_elim
      (λ a. inl (a.0, a.1, a.2, a.4, taken_begins profile left (bare a.0) a.3 a.5, none_begins (bare a.0) a.2 a.3 k a.5 a.6))
      (λ a. inr (a.0, taken_begins profile left (bare (tokens_at paren_class 0 text)) a.1.0 a.1.1, λ f h. none_whole (bare (tokens_at paren_class 0 text)) a.1.0 f a.1.1 (a.1.2 f) h))
      (stopped (length text) p k (tokens_at paren_class 0 text) (Inside, []) e)
