-- Tokens that spell a formula are read as it.
use Rattle.std.proofs.Common.{◌≡◌, ℕ, ◌<◌, ◌^◌, true, false, List, [], ◌∷◌, ◌++◌, Some, None, Result, Ok, Err, refl, sym, ap, ◌∙◌, ltb}
use Rattle.std.specs.Prelude.{Bool, T, codes}
use Rattle.std.specs.Str.{bytes_eq}
use Rattle.std.proofs.lemmas.Bool.{lt-ltb, cond-true, cond-false}
use Rattle.formula_tree.specs.Formulas.{Exp, EReg, ELeft, EVar, ELit, EOp, ESel, MemExp, MMem, MVar, MUpd, Form, FTrue, FFalse, FRel, FRd, FWr, FAnd, FOr, FImp, FAll, FAllm}
use Rattle.text_tokens.specs.declared.parens.Paren.{Paren}
use Rattle.text_tokens.specs.declared.parens.Paren.TheVariants as P
use Rattle.text_tokens.specs.Tokens.{Token, Mark, Lexeme}
use Rattle.text_tokens.specs.Registers.{registers, register_of}
use Rattle.text_tokens.specs.Numbers.{lexeme_number, begins_with_digit}
use Rattle.text_tokens.proofs.Known.{register_found, number_found}
use Rattle.formula_text.specs.declared.keywords.PhraseSort.{PhraseSort}
use Rattle.formula_text.specs.declared.keywords.PhraseSort.TheVariants as S
use Rattle.formula_text.specs.declared.keywords.Keyword.{Keyword}
use Rattle.formula_text.specs.declared.keywords.Keyword.TheVariants as K
use Rattle.formula_text.specs.declared.fault.TextFlaw.{TextFlaw}
use Rattle.formula_text.specs.Keywords.{phrase_sort, binder_sort, keyword_text, has_keyword}
use Rattle.formula_text.specs.Bindings.{is_left, is_name, Bindings, nearest_binding}
use Rattle.formula_text.specs.Grammar.{group, SpellsExp, SpellsMem, SpellsForm}
use Rattle.term_table.specs.Steps.{◌>>=◌}
use Rattle.formula_text.specs.Parsing.{Phrase, AForm, AnExp, AMem, Frame, Inside, Opened, Binding, ParseState, bindings_of, awaited_sort, number_phrase, variable_exp, variable_mem, register_phrase, lexeme_phrase, put_phrase, inside_open, inside_lexeme, opened, same_sort, opened_keyword, parse_step}
use Rattle.formula_text.proofs.Known.{keyword_found, binder_had, name_free}
use Rattle.word_ops.specs.declared.Profile.{Profile}

module _ (profile : Profile) (left : Bool) where
  -- all of these tokens
  abbrev pub parse_steps : List (Token Paren) → ParseState → Result ParseState TextFlaw
  parse_steps [] s = Ok s
  parse_steps (t ∷ ts) s = parse_step profile left t s >>= λ next. parse_steps ts next

  bind_bind : {A B C E : Type 0} (r : Result A E) (f : A → Result B E) (g : B → Result C E) → ((r >>= f) >>= g) ≡ (r >>= λ x. (f x >>= g))
  bind_bind (Ok x) f g = refl
  bind_bind (Err e) f g = refl

  bind_same : {A B E : Type 0} (r : Result A E) (f g : A → Result B E) → ((x : A) → f x ≡ g x) → (r >>= f) ≡ (r >>= g)
  bind_same (Ok x) f g h = h x
  bind_same (Err e) f g h = refl

  bind_ok : {A E : Type 0} (r : Result A E) → (r >>= λ x. Ok x) ≡ r
  bind_ok (Ok x) = refl
  bind_ok (Err e) = refl

  pub parse_steps-append : (ts us : List (Token Paren)) (s : ParseState) → parse_steps (ts ++ us) s ≡ (parse_steps ts s >>= λ n. parse_steps us n)
  parse_steps-append [] us s = refl
  parse_steps-append (t ∷ ts) us s = bind_same (parse_step profile left t s) _ _ (λ n. parse_steps-append ts us n) ∙ sym (bind_bind (parse_step profile left t s) (λ n. parse_steps ts n) (λ n. parse_steps us n))

  pub steps_one : (t : Token Paren) (s : ParseState) → parse_steps (t ∷ []) s ≡ parse_step profile left t s
  steps_one t s = bind_ok (parse_step profile left t s)

  pub steps_two : (ts us : List (Token Paren)) (s n : ParseState) (r : Result ParseState TextFlaw) → parse_steps ts s ≡ Ok n → parse_steps us n ≡ r → parse_steps (ts ++ us) s ≡ r
  steps_two ts us s n r e f = parse_steps-append ts us s ∙ ap (λ x. x >>= λ n. parse_steps us n) e ∙ f

  same_sorts : (q : PhraseSort) → same_sort q q ≡ true
  same_sorts S.Form = refl
  same_sorts S.Exp = refl
  same_sorts S.Mem = refl

  -- ---- parentheses

  open_step : (fs : List Frame) (q : PhraseSort) → awaited_sort fs ≡ Some q → parse_step profile left (Mark P.Open) (Inside, fs) ≡ Ok (Opened q, fs)
  unfolding parse_step
  open_step fs q e = ap (inside_open fs) e

  lexeme_step : (fs : List Frame) (q : PhraseSort) (w : List ℕ) (x : Phrase) → awaited_sort fs ≡ Some q → lexeme_phrase left (bindings_of fs) q w ≡ Ok x → parse_step profile left (Lexeme w) (Inside, fs) ≡ put_phrase x fs
  unfolding parse_step
  lexeme_step fs q w x e f = ap (inside_lexeme left fs w) e ∙ ap (λ r. r >>= λ y. put_phrase y fs) f

  keyword_step_is : (fs : List Frame) (h : Keyword) → has_keyword profile h ≡ true → parse_step profile left (Lexeme (keyword_text h)) (Opened (phrase_sort h), fs) ≡ Ok (opened h fs (binder_sort h))
  unfolding parse_step
  keyword_step_is fs h had = ap (opened_keyword (phrase_sort h) fs) (keyword_found profile h had) ∙ cond-true (same_sort (phrase_sort h) (phrase_sort h)) _ _ (same_sorts (phrase_sort h))

  name_step : (fs : List Frame) (h : Keyword) (x : List ℕ) → is_name profile left x ≡ true → parse_step profile left (Lexeme x) (Binding h, fs) ≡ Ok (Inside, record { keyword = h; name = x; parts = [] } ∷ fs)
  unfolding parse_step
  name_step fs h x e = cond-true (is_name profile left x) _ _ e

  group_runs : (fs : List Frame) (h : Keyword) (ts : List (Token Paren)) (s : ParseState) → has_keyword profile h ≡ true → awaited_sort fs ≡ Some (phrase_sort h) → binder_sort h ≡ None →
      parse_steps ts (Inside, record { keyword = h; name = []; parts = [] } ∷ fs) ≡ Ok s → parse_steps (group h ts) (Inside, fs) ≡ parse_step profile left (Mark P.Close) s
  group_runs fs h ts s had e b r =
      ap (λ x. x >>= λ n. parse_steps (Lexeme (keyword_text h) ∷ (ts ++ ((Mark P.Close) ∷ []))) n) (open_step fs (phrase_sort h) e)
      ∙ ap (λ x. x >>= λ n. parse_steps (ts ++ ((Mark P.Close) ∷ [])) n) (keyword_step_is fs h had)
      ∙ ap (λ o. parse_steps (ts ++ ((Mark P.Close) ∷ [])) (opened h fs o)) b
      ∙ steps_two ts ((Mark P.Close) ∷ []) _ s _ r (steps_one (Mark P.Close) s)

  binder_runs : (fs : List Frame) (h : Keyword) (q : PhraseSort) (x : List ℕ) (ts : List (Token Paren)) (s : ParseState) → awaited_sort fs ≡ Some (phrase_sort h) → binder_sort h ≡ Some q → is_name profile left x ≡ true →
      parse_steps ts (Inside, record { keyword = h; name = x; parts = [] } ∷ fs) ≡ Ok s → parse_steps (group h (Lexeme x ∷ ts)) (Inside, fs) ≡ parse_step profile left (Mark P.Close) s
  binder_runs fs h q x ts s e b i r =
      ap (λ y. y >>= λ n. parse_steps (Lexeme (keyword_text h) ∷ Lexeme x ∷ (ts ++ ((Mark P.Close) ∷ []))) n) (open_step fs (phrase_sort h) e)
      ∙ ap (λ y. y >>= λ n. parse_steps (Lexeme x ∷ (ts ++ ((Mark P.Close) ∷ []))) n) (keyword_step_is fs h (binder_had profile h q b))
      ∙ ap (λ o. parse_steps (Lexeme x ∷ (ts ++ ((Mark P.Close) ∷ []))) (opened h fs o)) b
      ∙ ap (λ y. y >>= λ n. parse_steps (ts ++ ((Mark P.Close) ∷ [])) n) (name_step fs h x i)
      ∙ steps_two ts ((Mark P.Close) ∷ []) _ s _ r (steps_one (Mark P.Close) s)

  -- ---- lexemes

  exp_name : (s : Bindings) (x : List ℕ) → is_name profile left x ≡ true → lexeme_phrase left s S.Exp x ≡ variable_exp (nearest_binding s x)
  unfolding lexeme_phrase
  exp_name s x e =
      let f = name_free profile left x e in
      cond-false (begins_with_digit x) (number_phrase (lexeme_number x)) (register_phrase left s x (register_of x)) f.digit
      ∙ ap (register_phrase left s x) f.register
      ∙ cond-false (is_left left x) (Ok (AnExp ELeft)) (variable_exp (nearest_binding s x)) f.steps

  mem_name : (s : Bindings) (x : List ℕ) → is_name profile left x ≡ true → lexeme_phrase left s S.Mem x ≡ variable_mem (nearest_binding s x)
  unfolding lexeme_phrase
  mem_name s x e = let f = name_free profile left x e in cond-false (bytes_eq x (codes "m")) (Ok (AMem MMem)) (variable_mem (nearest_binding s x)) f.memory

  register_lexeme : (s : Bindings) (w : List ℕ) (r : ℕ) → register_of w ≡ Some r → begins_with_digit w ≡ false → lexeme_phrase left s S.Exp w ≡ Ok (AnExp (EReg r))
  unfolding lexeme_phrase
  register_lexeme s w r e f = cond-false (begins_with_digit w) (number_phrase (lexeme_number w)) (register_phrase left s w (register_of w)) f ∙ ap (register_phrase left s w) e

  number_lexeme : (s : Bindings) (w : List ℕ) (n : ℕ) → lexeme_number w ≡ Some n → begins_with_digit w ≡ true → n < 2 ^ 64 → lexeme_phrase left s S.Exp w ≡ Ok (AnExp (ELit n))
  unfolding lexeme_phrase
  number_lexeme s w n e f h = cond-true (begins_with_digit w) (number_phrase (lexeme_number w)) (register_phrase left s w (register_of w)) f ∙ ap number_phrase e ∙ cond-true (ltb n (2 ^ 64)) (Ok (AnExp (ELit n))) _ (lt-ltb n (2 ^ 64) h)

  no_steps_register : register_of (codes "left") ≡ None
  unfolding register_of registers
  no_steps_register = refl

  steps_by : (l : Bool) (s : Bindings) → T l → register_phrase l s (codes "left") None ≡ Ok (AnExp ELeft)
  steps_by true s h = refl
  steps_by false s h = absurd h

  steps_lexeme : (s : Bindings) → T left → lexeme_phrase left s S.Exp (codes "left") ≡ Ok (AnExp ELeft)
  unfolding lexeme_phrase
  steps_lexeme s h = ap (register_phrase left s (codes "left")) no_steps_register ∙ steps_by left s h

  memory_lexeme : (s : Bindings) → lexeme_phrase left s S.Mem (codes "m") ≡ Ok (AMem MMem)
  unfolding lexeme_phrase
  memory_lexeme s = refl

  true_lexeme : (s : Bindings) → lexeme_phrase left s S.Form (codes "tt") ≡ Ok (AForm FTrue)
  unfolding lexeme_phrase
  true_lexeme s = refl

  false_lexeme : (s : Bindings) → lexeme_phrase left s S.Form (codes "ff") ≡ Ok (AForm FFalse)
  unfolding lexeme_phrase
  false_lexeme s = refl

  one_lexeme : (fs : List Frame) (q : PhraseSort) (w : List ℕ) (x : Phrase) (ts : List (Token Paren)) → awaited_sort fs ≡ Some q → ts ≡ Lexeme w ∷ [] → lexeme_phrase left (bindings_of fs) q w ≡ Ok x → parse_steps ts (Inside, fs) ≡ put_phrase x fs
  one_lexeme fs q w x ts a e f = ap (λ l. parse_steps l (Inside, fs)) e ∙ steps_one (Lexeme w) (Inside, fs) ∙ lexeme_step fs q w x a f

  -- ---- parts

  -- parentheses with these parts so far
  abbrev with_parts : Keyword → List ℕ → List Phrase → List Frame → List Frame
  with_parts h x p fs = record { keyword = h; name = x; parts = p } ∷ fs

  mutual
    unfolding put_phrase parse_step

    pub exp_runs : (a : Exp) (fs : List Frame) (ts : List (Token Paren)) → awaited_sort fs ≡ Some S.Exp → SpellsExp profile left a (bindings_of fs) ts → parse_steps ts (Inside, fs) ≡ put_phrase (AnExp a) fs
    exp_runs (EReg r) fs ts a h = let f = register_found h.0 r h.1 in one_lexeme fs S.Exp h.0 _ ts a h.2 (register_lexeme (bindings_of fs) h.0 r f.0 f.1)
    exp_runs ELeft fs ts a h = one_lexeme fs S.Exp (codes "left") _ ts a h.1 (steps_lexeme (bindings_of fs) h.0)
    exp_runs (EVar k) fs ts a h = one_lexeme fs S.Exp h.0 _ ts a h.3 (exp_name (bindings_of fs) h.0 h.1 ∙ ap variable_exp h.2)
    exp_runs (ELit n) fs ts a h = let f = number_found h.0 n h.1 in one_lexeme fs S.Exp h.0 _ ts a h.3 (number_lexeme (bindings_of fs) h.0 n f.0 f.1 h.2)
    exp_runs (EOp o b c) fs ts a h =
        ap (λ l. parse_steps l (Inside, fs)) h.4
        ∙ group_runs fs (K.Oper o) (h.0 ++ h.1) (Inside, with_parts (K.Oper o) [] (AnExp b ∷ AnExp c ∷ []) fs) h.5 a refl
        (steps_two h.0 h.1 _ (Inside, with_parts (K.Oper o) [] (AnExp b ∷ []) fs) _
        (exp_runs b (with_parts (K.Oper o) [] [] fs) h.0 refl h.2)
        (exp_runs c (with_parts (K.Oper o) [] (AnExp b ∷ []) fs) h.1 refl h.3))
    exp_runs (ESel m c) fs ts a h =
        ap (λ l. parse_steps l (Inside, fs)) h.4
        ∙ group_runs fs K.Sel (h.0 ++ h.1) (Inside, with_parts K.Sel [] (AMem m ∷ AnExp c ∷ []) fs) refl a refl
        (steps_two h.0 h.1 _ (Inside, with_parts K.Sel [] (AMem m ∷ []) fs) _
        (mem_runs m (with_parts K.Sel [] [] fs) h.0 refl h.2)
        (exp_runs c (with_parts K.Sel [] (AMem m ∷ []) fs) h.1 refl h.3))

    pub mem_runs : (m : MemExp) (fs : List Frame) (ts : List (Token Paren)) → awaited_sort fs ≡ Some S.Mem → SpellsMem profile left m (bindings_of fs) ts → parse_steps ts (Inside, fs) ≡ put_phrase (AMem m) fs
    mem_runs MMem fs ts a h = one_lexeme fs S.Mem (codes "m") _ ts a h (memory_lexeme (bindings_of fs))
    mem_runs (MVar k) fs ts a h = one_lexeme fs S.Mem h.0 _ ts a h.3 (mem_name (bindings_of fs) h.0 h.1 ∙ ap variable_mem h.2)
    mem_runs (MUpd m b c) fs ts a h =
        ap (λ l. parse_steps l (Inside, fs)) h.6
        ∙ group_runs fs K.Upd ((h.0 ++ h.1) ++ h.2) (Inside, with_parts K.Upd [] (AMem m ∷ AnExp b ∷ AnExp c ∷ []) fs) refl a refl
        (steps_two (h.0 ++ h.1) h.2 _ (Inside, with_parts K.Upd [] (AMem m ∷ AnExp b ∷ []) fs) _
        (steps_two h.0 h.1 _ (Inside, with_parts K.Upd [] (AMem m ∷ []) fs) _
        (mem_runs m (with_parts K.Upd [] [] fs) h.0 refl h.3)
        (exp_runs b (with_parts K.Upd [] (AMem m ∷ []) fs) h.1 refl h.4))
        (exp_runs c (with_parts K.Upd [] (AMem m ∷ AnExp b ∷ []) fs) h.2 refl h.5))

  pub form_runs : (A : Form) (fs : List Frame) (ts : List (Token Paren)) → awaited_sort fs ≡ Some S.Form → SpellsForm profile left A (bindings_of fs) ts → parse_steps ts (Inside, fs) ≡ put_phrase (AForm A) fs
  unfolding put_phrase parse_step
  form_runs FTrue fs ts a h = one_lexeme fs S.Form (codes "tt") _ ts a h (true_lexeme (bindings_of fs))
  form_runs FFalse fs ts a h = one_lexeme fs S.Form (codes "ff") _ ts a h (false_lexeme (bindings_of fs))
  form_runs (FRel p b c) fs ts a h =
      ap (λ l. parse_steps l (Inside, fs)) h.4
      ∙ group_runs fs (K.Rel p) (h.0 ++ h.1) (Inside, with_parts (K.Rel p) [] (AnExp b ∷ AnExp c ∷ []) fs) refl a refl
      (steps_two h.0 h.1 _ (Inside, with_parts (K.Rel p) [] (AnExp b ∷ []) fs) _
      (exp_runs b (with_parts (K.Rel p) [] [] fs) h.0 refl h.2)
      (exp_runs c (with_parts (K.Rel p) [] (AnExp b ∷ []) fs) h.1 refl h.3))
  form_runs (FRd b) fs ts a h =
      ap (λ l. parse_steps l (Inside, fs)) h.2
      ∙ group_runs fs K.Rd h.0 (Inside, with_parts K.Rd [] (AnExp b ∷ []) fs) refl a refl (exp_runs b (with_parts K.Rd [] [] fs) h.0 refl h.1)
  form_runs (FWr b) fs ts a h =
      ap (λ l. parse_steps l (Inside, fs)) h.2
      ∙ group_runs fs K.Wr h.0 (Inside, with_parts K.Wr [] (AnExp b ∷ []) fs) refl a refl (exp_runs b (with_parts K.Wr [] [] fs) h.0 refl h.1)
  form_runs (FAnd A B) fs ts a h =
      ap (λ l. parse_steps l (Inside, fs)) h.4
      ∙ group_runs fs K.And (h.0 ++ h.1) (Inside, with_parts K.And [] (AForm A ∷ AForm B ∷ []) fs) refl a refl
      (steps_two h.0 h.1 _ (Inside, with_parts K.And [] (AForm A ∷ []) fs) _
      (form_runs A (with_parts K.And [] [] fs) h.0 refl h.2)
      (form_runs B (with_parts K.And [] (AForm A ∷ []) fs) h.1 refl h.3))
  form_runs (FOr A B) fs ts a h =
      ap (λ l. parse_steps l (Inside, fs)) h.4
      ∙ group_runs fs K.Or (h.0 ++ h.1) (Inside, with_parts K.Or [] (AForm A ∷ AForm B ∷ []) fs) refl a refl
      (steps_two h.0 h.1 _ (Inside, with_parts K.Or [] (AForm A ∷ []) fs) _
      (form_runs A (with_parts K.Or [] [] fs) h.0 refl h.2)
      (form_runs B (with_parts K.Or [] (AForm A ∷ []) fs) h.1 refl h.3))
  form_runs (FImp A B) fs ts a h =
      ap (λ l. parse_steps l (Inside, fs)) h.4
      ∙ group_runs fs K.Imp (h.0 ++ h.1) (Inside, with_parts K.Imp [] (AForm A ∷ AForm B ∷ []) fs) refl a refl
      (steps_two h.0 h.1 _ (Inside, with_parts K.Imp [] (AForm A ∷ []) fs) _
      (form_runs A (with_parts K.Imp [] [] fs) h.0 refl h.2)
      (form_runs B (with_parts K.Imp [] (AForm A ∷ []) fs) h.1 refl h.3))
  form_runs (FAll A) fs ts a h =
      ap (λ l. parse_steps l (Inside, fs)) h.4
      ∙ binder_runs fs K.All S.Exp h.0 h.1 (Inside, with_parts K.All h.0 (AForm A ∷ []) fs) a refl h.2
      (form_runs A (with_parts K.All h.0 [] fs) h.1 refl h.3)
  form_runs (FAllm A) fs ts a h =
      ap (λ l. parse_steps l (Inside, fs)) h.4
      ∙ binder_runs fs K.Allm S.Mem h.0 h.1 (Inside, with_parts K.Allm h.0 (AForm A ∷ []) fs) a refl h.2
      (form_runs A (with_parts K.Allm h.0 [] fs) h.1 refl h.3)
