-- A text spells a formula exactly where it reads as it.
use Rattle.std.proofs.Common.{◌≡◌, ℕ, Bool, List, [], ◌∷◌, ◌++◌, length, map, Result, Ok, Err, refl, ap, ◌∙◌, subst}
use Rattle.formula_tree.specs.Formulas.{Form}
use Rattle.text_tokens.specs.declared.parens.Paren.{Paren}
use Rattle.text_tokens.specs.Tokens.{Token, Placed, tokens_at}
use Rattle.text_tokens.specs.Parens.{paren_class}
use Rattle.text_tokens.proofs.Lexing.{lexed, lexes}
use Rattle.formula_text.specs.declared.fault.TextFlaw.{TextFlaw}
use Rattle.formula_text.specs.Grammar.{Spells}
use Rattle.term_table.specs.Steps.{◌>>=◌}
use Rattle.formula_text.specs.Parsing.{AForm, Expected, Inside, Opened, Binding, Whole, ParseState, put_phrase, parse_step, at_position, parse_end, parsed_tokens, parsed_form}
use Rattle.formula_text.proofs.Running.{parse_steps, form_runs}
use Rattle.formula_text.proofs.Reached.{IsReached, run_reached}
use Rattle.word_ops.specs.declared.Profile.{Profile}

module _ (profile : Profile) (left : Bool) where
  abbrev bare : List (Placed Paren) → List (Token Paren)
  bare ts = map (λ t. t.1) ts

  abbrev Ends : List (Token Paren) → ParseState → Form → Type 0
  Ends ts s f = (n : ParseState) × (parse_steps profile left ts s ≡ Ok n) × (n.0 ≡ Whole f)

  finished_whole : (end : ℕ) (st : Expected) (f : Form) → parse_end end st ≡ Ok f → st ≡ Whole f
  finished_whole end Inside f e = cc
  finished_whole end (Opened q) f e = cc
  finished_whole end (Binding h) f e = cc
  finished_whole end (Whole g) f e = let s : g ≡ f = cc in ap Whole s

  read_from : (p : ℕ) (ts : List (Placed Paren)) (end : ℕ) (f : Form) (r : Result ParseState TextFlaw) → (at_position p r >>= λ n. parsed_tokens profile left end ts n) ≡ Ok f → ((n : ParseState) → parsed_tokens profile left end ts n ≡ Ok f → Ends (bare ts) n f) → (n : ParseState) × ((r >>= λ m. parse_steps profile left (bare ts) m) ≡ Ok n) × (n.0 ≡ Whole f)
  read_from p ts end f (Ok n) e g = g n e
  read_from p ts end f (Err flaw) e g = cc

  reads_run : (end : ℕ) (ts : List (Placed Paren)) (s : ParseState) (f : Form) → parsed_tokens profile left end ts s ≡ Ok f → Ends (bare ts) s f
  unfolding parsed_tokens
  reads_run end [] s f e = (s, refl, finished_whole end s.0 f e)
  reads_run end (t ∷ ts) s f e = read_from t.0 ts end f (parse_step profile left t.1 s) e (λ n g. reads_run end ts n f g)

  run_to : (p : ℕ) (ts : List (Placed Paren)) (end : ℕ) (f : Form) (n : ParseState) (r : Result ParseState TextFlaw) → (r >>= λ m. parse_steps profile left (bare ts) m) ≡ Ok n → ((m : ParseState) → parse_steps profile left (bare ts) m ≡ Ok n → parsed_tokens profile left end ts m ≡ Ok f) → (at_position p r >>= λ m. parsed_tokens profile left end ts m) ≡ Ok f
  run_to p ts end f n (Ok m) e g = g m e
  run_to p ts end f n (Err flaw) e g = cc

  run_reads : (end : ℕ) (ts : List (Placed Paren)) (s n : ParseState) (f : Form) → n.0 ≡ Whole f → parse_steps profile left (bare ts) s ≡ Ok n → parsed_tokens profile left end ts s ≡ Ok f
  unfolding parsed_tokens
  run_reads end [] s n f h e = let q : s ≡ n = cc in ap (λ m. parse_end end m.0) q ∙ ap (parse_end end) h
  run_reads end (t ∷ ts) s n f h e = run_to t.0 ts end f n (parse_step profile left t.1 s) e (λ m g. run_reads end ts m n f h g)

  given_whole : (f : Form) → put_phrase (AForm f) [] ≡ Ok (Whole f, [])
  unfolding put_phrase
  given_whole f = refl

  pub spelled_parsed : (text : List ℕ) (f : Form) → Spells profile left text f → parsed_form profile left text ≡ Ok f
  unfolding parsed_form
  spelled_parsed text f h =
      run_reads (length text) (tokens_at paren_class 0 text) (Inside, []) (Whole f, []) f refl
      (ap (λ ts. parse_steps profile left ts (Inside, [])) (lexes paren_class 0 text h.tokens h.consists) ∙ form_runs profile left f [] h.tokens refl h.spelled ∙ given_whole f)

  pub parsed_spelled : (text : List ℕ) (f : Form) → parsed_form profile left text ≡ Ok f → Spells profile left text f
  unfolding parsed_form
  parsed_spelled text f e =
      let g = reads_run (length text) (tokens_at paren_class 0 text) (Inside, []) f e in
      let ts = bare (tokens_at paren_class 0 text) in
      let r : IsReached profile left g.0.0 g.0.1 ([] ++ ts) = run_reached profile left ts [] (Inside, []) g.0 refl g.1 in
      record { tokens = ts; consists = lexed paren_class 0 text; spelled = subst (λ st. IsReached profile left st g.0.1 ts) g.2 r }
