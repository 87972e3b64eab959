-- Tokens that are read as a formula spell it.
use Rattle.std.proofs.Common.{◌≡◌, ℕ, suc, ◌^◌, Bool, true, false, cond, List, [], ◌∷◌, ◌++◌, Option, Some, None, Result, Ok, Err, refl, sym, ap, ◌∙◌, subst, append_assoc, ltb}
use Rattle.std.specs.Prelude.{T, codes}
use Rattle.std.specs.Str.{bytes_eq}
use Rattle.std.specs.Option.{option_map}
use Rattle.std.proofs.lemmas.Bool.{ltb-true, and_parts}
use Rattle.std.proofs.lemmas.List.{append-nil}
use Rattle.formula_tree.specs.Formulas.{ELeft}
use Rattle.text_tokens.specs.declared.parens.Paren.{Paren}
use Rattle.text_tokens.specs.declared.parens.Paren.TheVariants as P
use Rattle.text_tokens.specs.Tokens.{Token, Mark, Lexeme}
use Rattle.text_tokens.specs.Registers.{register_of}
use Rattle.text_tokens.specs.Numbers.{lexeme_number, begins_with_digit}
use Rattle.text_tokens.proofs.Known.{same_bytes, register_is, number_is}
use Rattle.formula_text.specs.declared.keywords.PhraseSort.{PhraseSort}
use Rattle.formula_text.specs.declared.keywords.PhraseSort.TheVariants as S
use Rattle.formula_text.specs.declared.keywords.Keyword.{Keyword}
use Rattle.formula_text.specs.declared.keywords.Keyword.TheVariants as K
use Rattle.formula_text.specs.declared.fault.TextFlaw.{TextFlaw}
use Rattle.formula_text.specs.Keywords.{phrase_sort, binder_sort, keyword_text, keyword_of, has_keyword}
use Rattle.formula_text.specs.Bindings.{is_left, is_name, Bindings, nearest_binding}
use Rattle.formula_text.specs.Grammar.{group, SpellsExp, SpellsMem, SpellsForm}
use Rattle.term_table.specs.Steps.{◌>>=◌}
use Rattle.formula_text.specs.Parsing.{Phrase, AForm, AnExp, AMem, group_phrase, Frame, Expected, Inside, Opened, Binding, Whole, ParseState, with_binding, bindings_of, awaited_sort, number_phrase, variable_exp, variable_mem, named_exp, register_phrase, lexeme_phrase, put_phrase, put_group, close_group, inside_open, inside_lexeme, opened, same_sort, opened_keyword, binding_step, parse_step}
use Rattle.formula_text.proofs.Known.{keyword_is, binder_had}
use Rattle.formula_text.proofs.Running.{parse_steps}
use Rattle.word_ops.specs.declared.Profile.{Profile}

module _ (profile : Profile) (left : Bool) where
  abbrev pub SpellsPhrase : Phrase → Bindings → List (Token Paren) → Type 0
  SpellsPhrase (AForm A) s ts = SpellsForm profile left A s ts
  SpellsPhrase (AnExp a) s ts = SpellsExp profile left a s ts
  SpellsPhrase (AMem m) s ts = SpellsMem profile left m s ts

  abbrev pub SpellsParts : List Phrase → Bindings → List (Token Paren) → Type 0
  SpellsParts [] s ts = ts ≡ []
  SpellsParts (x ∷ xs) s ts = (us vs : List (Token Paren)) × SpellsPhrase x s us × SpellsParts xs s vs × (ts ≡ us ++ vs)

  -- what stands behind a keyword before the parts
  abbrev pub name_tokens : Option PhraseSort → List ℕ → List (Token Paren)
  name_tokens None x = []
  name_tokens (Some q) x = Lexeme x ∷ []

  abbrev pub IsBinding : Option PhraseSort → List ℕ → Type 0
  IsBinding None x = Unit {0}
  IsBinding (Some q) x = is_name profile left x ≡ true

  abbrev pub opening : Frame → List (Token Paren)
  opening f = (Mark P.Open) ∷ Lexeme (keyword_text f.keyword) ∷ name_tokens (binder_sort f.keyword) f.name

  -- these parentheses are open, the nearest first
  abbrev pub AreOpen : List Frame → List (Token Paren) → Type 0
  AreOpen [] ts = ts ≡ []
  AreOpen (f ∷ fs) ts = (us vs : List (Token Paren)) × AreOpen fs us × IsBinding (binder_sort f.keyword) f.name × SpellsParts f.parts (bindings_of (f ∷ fs)) vs × (ts ≡ us ++ (opening f ++ vs)) × (has_keyword profile f.keyword ≡ true)

  abbrev pub IsReached : Expected → List Frame → List (Token Paren) → Type 0
  IsReached Inside fs ts = AreOpen fs ts
  IsReached (Opened q) fs ts = (us : List (Token Paren)) × AreOpen fs us × (ts ≡ us ++ ((Mark P.Open) ∷ []))
  IsReached (Binding h) fs ts = (us : List (Token Paren)) × (q : PhraseSort) × AreOpen fs us × (binder_sort h ≡ Some q) × (ts ≡ us ++ ((Mark P.Open) ∷ Lexeme (keyword_text h) ∷ []))
  IsReached (Whole A) fs ts = SpellsForm profile left A [] ts

  -- ---- the names in scope are names

  abbrev AreNames : Bindings → Type 0
  AreNames [] = Unit {0}
  AreNames (b ∷ bs) = (is_name profile left b.0 ≡ true) × AreNames bs

  binding_names : (o : Option PhraseSort) (x : List ℕ) (s : Bindings) → IsBinding o x → AreNames s → AreNames (with_binding o x s)
  binding_names None x s h g = g
  binding_names (Some q) x s h g = (h, g)

  open_names : (fs : List Frame) (ts : List (Token Paren)) → AreOpen fs ts → AreNames (bindings_of fs)
  open_names [] ts h = tt
  open_names (f ∷ fs) ts h = binding_names (binder_sort f.keyword) f.name (bindings_of fs) h.3 (open_names fs h.0 h.2)

  binding_by : (b : List ℕ × PhraseSort) (x : List ℕ) (p : ℕ × PhraseSort) (o : Option (ℕ × PhraseSort)) (t : Bool) → bytes_eq b.0 x ≡ t → is_name profile left b.0 ≡ true → cond t (Some (0, b.1)) (option_map (λ p. (suc p.0, p.1)) o) ≡ Some p → ((q : ℕ × PhraseSort) → o ≡ Some q → is_name profile left x ≡ true) → is_name profile left x ≡ true
  binding_by b x p o true e n f g = subst (λ y. is_name profile left y ≡ true) (same_bytes b.0 x e) n
  binding_by b x p None false e n f g = cc
  binding_by b x p (Some q) false e n f g = g q refl

  binding_name : (s : Bindings) (x : List ℕ) (p : ℕ × PhraseSort) → AreNames s → nearest_binding s x ≡ Some p → is_name profile left x ≡ true
  binding_name [] x p n e = cc
  binding_name (b ∷ bs) x p n e = binding_by b x p (nearest_binding bs x) (bytes_eq b.0 x) refl n.0 e (λ q f. binding_name bs x q n.1 f)

  -- ---- lexemes

  chosen : {A : Type 0} (t : Bool) (x y z : A) → cond t x y ≡ z → (P : Type 0) → (t ≡ true → x ≡ z → P) → (t ≡ false → y ≡ z → P) → P
  chosen true x y z e P f g = f refl e
  chosen false x y z e P f g = g refl e

  some_same : {A : Type 0} (x y : A) → Some x ≡ Some y → x ≡ y
  some_same x y e = cc

  same_Ok : {A E : Type 0} (x y : A) → ◌≡◌ {A = Result A E} (Ok x) (Ok y) → x ≡ y
  same_Ok x y e = cc

  number_spells : (s : Bindings) (w : List ℕ) (x : Phrase) (o : Option ℕ) → lexeme_number w ≡ o → number_phrase o ≡ Ok x → SpellsPhrase x s (Lexeme w ∷ [])
  number_spells s w x None e h = cc
  number_spells s w x (Some n) e h = chosen (ltb n (2 ^ 64)) _ _ _ h (SpellsPhrase x s (Lexeme w ∷ []))
      (λ t f. subst (λ y. SpellsPhrase y s (Lexeme w ∷ [])) (same_Ok _ _ f) (w, number_is w n e, ltb-true n (2 ^ 64) t, refl))
      (λ t f. cc)

  exp_bound_spells : (s : Bindings) (w : List ℕ) (x : Phrase) (o : Option (ℕ × PhraseSort)) → AreNames s → nearest_binding s w ≡ o → variable_exp o ≡ Ok x → SpellsPhrase x s (Lexeme w ∷ [])
  exp_bound_spells s w x None n e h = cc
  exp_bound_spells s w x (Some (k, S.Exp)) n e h = subst (λ y. SpellsPhrase y s (Lexeme w ∷ [])) (same_Ok _ _ h) (w, binding_name s w _ n e, e, refl)
  exp_bound_spells s w x (Some (k, S.Mem)) n e h = cc
  exp_bound_spells s w x (Some (k, S.Form)) n e h = cc

  mem_bound_spells : (s : Bindings) (w : List ℕ) (x : Phrase) (o : Option (ℕ × PhraseSort)) → AreNames s → nearest_binding s w ≡ o → variable_mem o ≡ Ok x → SpellsPhrase x s (Lexeme w ∷ [])
  mem_bound_spells s w x None n e h = cc
  mem_bound_spells s w x (Some (k, S.Mem)) n e h = subst (λ y. SpellsPhrase y s (Lexeme w ∷ [])) (same_Ok _ _ h) (w, binding_name s w _ n e, e, refl)
  mem_bound_spells s w x (Some (k, S.Exp)) n e h = cc
  mem_bound_spells s w x (Some (k, S.Form)) n e h = cc

  steps_spelled : (w : List ℕ) → is_left left w ≡ true → SpellsExp profile left ELeft [] (Lexeme w ∷ [])
  steps_spelled w t =
      let p = and_parts (bytes_eq w (codes "left")) left t in
      (subst (λ b. T b) (sym p.1) tt, ap (λ y. Lexeme y ∷ []) (same_bytes w (codes "left") p.0))

  named_spells : (s : Bindings) (w : List ℕ) (x : Phrase) → AreNames s → named_exp left s w ≡ Ok x → SpellsPhrase x s (Lexeme w ∷ [])
  named_spells s w x n h =
      chosen (is_left left w) _ _ _ h (SpellsPhrase x s (Lexeme w ∷ []))
      (λ t f. subst (λ y. SpellsPhrase y s (Lexeme w ∷ [])) (same_Ok _ _ f) (steps_spelled w t))
      (λ t f. exp_bound_spells s w x (nearest_binding s w) n refl f)

  register_spells : (s : Bindings) (w : List ℕ) (x : Phrase) (o : Option ℕ) → AreNames s → register_of w ≡ o → register_phrase left s w o ≡ Ok x → SpellsPhrase x s (Lexeme w ∷ [])
  register_spells s w x (Some r) n e h = subst (λ y. SpellsPhrase y s (Lexeme w ∷ [])) (same_Ok _ _ h) (w, register_is w r e, refl)
  register_spells s w x None n e h = named_spells s w x n h

  lexeme_spells : (s : Bindings) (q : PhraseSort) (w : List ℕ) (x : Phrase) → AreNames s → lexeme_phrase left s q w ≡ Ok x → SpellsPhrase x s (Lexeme w ∷ [])
  unfolding lexeme_phrase
  lexeme_spells s S.Form w x n h =
      chosen (bytes_eq w (codes "tt")) _ _ _ h (SpellsPhrase x s (Lexeme w ∷ []))
      (λ t f. subst (λ y. SpellsPhrase y s (Lexeme w ∷ [])) (same_Ok _ _ f) (ap (λ y. Lexeme y ∷ []) (same_bytes w (codes "tt") t)))
      (λ t f. chosen (bytes_eq w (codes "ff")) _ _ _ f (SpellsPhrase x s (Lexeme w ∷ []))
      (λ u g. subst (λ y. SpellsPhrase y s (Lexeme w ∷ [])) (same_Ok _ _ g) (ap (λ y. Lexeme y ∷ []) (same_bytes w (codes "ff") u)))
      (λ u g. cc))
  lexeme_spells s S.Exp w x n h =
      chosen (begins_with_digit w) _ _ _ h (SpellsPhrase x s (Lexeme w ∷ []))
      (λ t f. number_spells s w x (lexeme_number w) refl f)
      (λ t f. register_spells s w x (register_of w) n refl f)
  lexeme_spells s S.Mem w x n h =
      chosen (bytes_eq w (codes "m")) _ _ _ h (SpellsPhrase x s (Lexeme w ∷ []))
      (λ t f. subst (λ y. SpellsPhrase y s (Lexeme w ∷ [])) (same_Ok _ _ f) (ap (λ y. Lexeme y ∷ []) (same_bytes w (codes "m") t)))
      (λ t f. mem_bound_spells s w x (nearest_binding s w) n refl f)

  -- ---- parts

  parts_spell : (xs : List Phrase) (x : Phrase) (s : Bindings) (ts us : List (Token Paren)) → SpellsParts xs s ts → SpellsPhrase x s us
      → SpellsParts (xs ++ x ∷ []) s (ts ++ us)
  parts_spell [] x s ts us g f = (us, [], f, refl, ap (λ l. l ++ us) g ∙ sym (append-nil us))
  parts_spell (y ∷ xs) x s ts us g f = (g.0, g.1 ++ us, g.2, parts_spell xs x s g.1 us g.3 f, ap (λ l. l ++ us) g.4 ∙ append_assoc g.0 g.1 us)

  -- a part for the nearest parentheses
  put_reached : (x : Phrase) (fs : List Frame) (us vs : List (Token Paren)) (s : ParseState) → AreOpen fs us → SpellsPhrase x (bindings_of fs) vs → put_phrase x fs ≡ Ok s → IsReached s.0 s.1 (us ++ vs)
  unfolding put_phrase
  put_reached (AForm A) [] us vs s o h e = subst (λ n. IsReached n.0 n.1 (us ++ vs)) (same_Ok (Whole A, []) s e) (subst (λ l. SpellsForm profile left A [] (l ++ vs)) (sym o) h)
  put_reached (AnExp a) [] us vs s o h e = cc
  put_reached (AMem m) [] us vs s o h e = cc
  put_reached x (f ∷ fs) us vs s o h e =
      let line = ap (λ l. l ++ vs) o.5 ∙ append_assoc o.0 (opening f ++ o.1) vs ∙ ap (λ l. o.0 ++ l) (append_assoc (opening f) o.1 vs) in
      subst (λ n. IsReached n.0 n.1 (us ++ vs)) (same_Ok (Inside, record { keyword = f.keyword; name = f.name; parts = f.parts ++ x ∷ [] } ∷ fs) s e)
      (o.0, o.1 ++ vs, o.2, o.3, parts_spell f.parts x (bindings_of (f ∷ fs)) o.1 vs o.4 h, line, o.6)

  -- ---- the end of parentheses

  -- the tokens of one part, of two and of three
  one_line : (us vs ts : List (Token Paren)) → vs ≡ [] → ts ≡ us ++ vs → ts ≡ us
  one_line us vs ts e f = f ∙ ap (λ l. us ++ l) e ∙ append-nil us

  two_lines : (us vs ws ts xs : List (Token Paren)) → xs ≡ [] → ws ≡ vs ++ xs → ts ≡ us ++ ws → ts ≡ us ++ vs
  two_lines us vs ws ts xs d e f = f ∙ ap (λ l. us ++ l) (one_line vs xs ws d e)

  three_lines : (us vs ws xs ys zs ts : List (Token Paren)) → zs ≡ [] → ys ≡ ws ++ zs → xs ≡ vs ++ ys → ts ≡ us ++ xs → ts ≡ (us ++ vs) ++ ws
  three_lines us vs ws xs ys zs ts c d e f = f ∙ ap (λ l. us ++ l) (two_lines vs ws ys xs zs c d e) ∙ sym (append_assoc us vs ws)

  spelled_as : (x y : Phrase) (s : Bindings) (ts : List (Token Paren)) → ◌≡◌ {A = Option Phrase} (Some x) (Some y) → SpellsPhrase x s ts → SpellsPhrase y s ts
  spelled_as x y s ts e h = subst (λ z. SpellsPhrase z s ts) (some_same x y e) h

  -- parentheses that end are what was built of their parts
  group_spells : (h : Keyword) (n : List ℕ) (k : List Phrase) (s : Bindings) (x : Phrase) (vs : List (Token Paren)) → has_keyword profile h ≡ true → IsBinding (binder_sort h) n
      → SpellsParts k (with_binding (binder_sort h) n s) vs → group_phrase h k ≡ Some x
      → SpellsPhrase x s ((Mark P.Open) ∷ Lexeme (keyword_text h) ∷ (name_tokens (binder_sort h) n ++ (vs ++ ((Mark P.Close) ∷ []))))
  group_spells (K.Rel p) n (AnExp a ∷ AnExp b ∷ []) s x vs had i g e =
      spelled_as _ x s _ e (g.0, g.3.0, g.2, g.3.2, ap (group (K.Rel p)) (two_lines g.0 g.3.0 g.1 vs g.3.1 g.3.3 g.3.4 g.4))
  group_spells K.Rd n (AnExp a ∷ []) s x vs had i g e = spelled_as _ x s _ e (g.0, g.2, ap (group K.Rd) (one_line g.0 g.1 vs g.3 g.4))
  group_spells K.Wr n (AnExp a ∷ []) s x vs had i g e = spelled_as _ x s _ e (g.0, g.2, ap (group K.Wr) (one_line g.0 g.1 vs g.3 g.4))
  group_spells K.And n (AForm a ∷ AForm b ∷ []) s x vs had i g e =
      spelled_as _ x s _ e (g.0, g.3.0, g.2, g.3.2, ap (group K.And) (two_lines g.0 g.3.0 g.1 vs g.3.1 g.3.3 g.3.4 g.4))
  group_spells K.Or n (AForm a ∷ AForm b ∷ []) s x vs had i g e =
      spelled_as _ x s _ e (g.0, g.3.0, g.2, g.3.2, ap (group K.Or) (two_lines g.0 g.3.0 g.1 vs g.3.1 g.3.3 g.3.4 g.4))
  group_spells K.Imp n (AForm a ∷ AForm b ∷ []) s x vs had i g e =
      spelled_as _ x s _ e (g.0, g.3.0, g.2, g.3.2, ap (group K.Imp) (two_lines g.0 g.3.0 g.1 vs g.3.1 g.3.3 g.3.4 g.4))
  group_spells K.All n (AForm A ∷ []) s x vs had i g e = spelled_as _ x s _ e (n, g.0, i, g.2, ap (λ l. group K.All (Lexeme n ∷ l)) (one_line g.0 g.1 vs g.3 g.4))
  group_spells K.Allm n (AForm A ∷ []) s x vs had i g e = spelled_as _ x s _ e (n, g.0, i, g.2, ap (λ l. group K.Allm (Lexeme n ∷ l)) (one_line g.0 g.1 vs g.3 g.4))
  group_spells (K.Oper o) n (AnExp a ∷ AnExp b ∷ []) s x vs had i g e =
      spelled_as _ x s _ e (g.0, g.3.0, g.2, g.3.2, ap (group (K.Oper o)) (two_lines g.0 g.3.0 g.1 vs g.3.1 g.3.3 g.3.4 g.4), had)
  group_spells K.Sel n (AMem a ∷ AnExp b ∷ []) s x vs had i g e =
      spelled_as _ x s _ e (g.0, g.3.0, g.2, g.3.2, ap (group K.Sel) (two_lines g.0 g.3.0 g.1 vs g.3.1 g.3.3 g.3.4 g.4))
  group_spells K.Upd n (AMem m ∷ AnExp a ∷ AnExp v ∷ []) s x vs had i g e =
      spelled_as _ x s _ e (g.0, g.3.0, g.3.3.0, g.2, g.3.2, g.3.3.2, ap (group K.Upd) (three_lines g.0 g.3.0 g.3.3.0 g.1 g.3.1 g.3.3.1 vs g.3.3.3 g.3.3.4 g.3.4 g.4))
  group_spells h n k s x vs had i g e = cc

  closed_reached : (f : Frame) (fs : List Frame) (ts : List (Token Paren)) (s : ParseState) (o : Option Phrase) → group_phrase f.keyword f.parts ≡ o → AreOpen (f ∷ fs) ts → put_group o fs ≡ Ok s → IsReached s.0 s.1 (ts ++ ((Mark P.Close) ∷ []))
  closed_reached f fs ts s None e h g = cc
  closed_reached f fs ts s (Some x) e h g =
      let line : h.0 ++ (opening f ++ (h.1 ++ ((Mark P.Close) ∷ []))) ≡ ts ++ ((Mark P.Close) ∷ []) =
      ap (λ l. h.0 ++ l) (sym (append_assoc (opening f) h.1 ((Mark P.Close) ∷ []))) ∙ sym (append_assoc h.0 (opening f ++ h.1) ((Mark P.Close) ∷ [])) ∙ ap (λ l. l ++ ((Mark P.Close) ∷ [])) (sym h.5) in
      subst (λ l. IsReached s.0 s.1 l) line
      (put_reached x fs h.0 (opening f ++ (h.1 ++ ((Mark P.Close) ∷ []))) s h.2 (group_spells f.keyword f.name f.parts (bindings_of fs) x h.1 h.6 h.3 h.4 e) g)

  -- ---- one token, and all of them

  inside_opened : (fs : List Frame) (ts : List (Token Paren)) (s : ParseState) (o : Option PhraseSort) → AreOpen fs ts → inside_open fs o ≡ Ok s → IsReached s.0 s.1 (ts ++ ((Mark P.Open) ∷ []))
  inside_opened fs ts s None h e = cc
  inside_opened fs ts s (Some q) h e = subst (λ n. IsReached n.0 n.1 (ts ++ ((Mark P.Open) ∷ []))) (same_Ok (Opened q, fs) s e) (ts, h, refl)

  worded : (fs : List Frame) (ts : List (Token Paren)) (w : List ℕ) (s : ParseState) (q : PhraseSort) (r : Result Phrase TextFlaw) → lexeme_phrase left (bindings_of fs) q w ≡ r → AreOpen fs ts → (r >>= λ x. put_phrase x fs) ≡ Ok s → IsReached s.0 s.1 (ts ++ (Lexeme w ∷ []))
  worded fs ts w s q (Ok x) f h e = put_reached x fs ts (Lexeme w ∷ []) s h (lexeme_spells (bindings_of fs) q w x (open_names fs ts h) f) e
  worded fs ts w s q (Err flaw) f h e = cc

  inside_worded : (fs : List Frame) (ts : List (Token Paren)) (w : List ℕ) (s : ParseState) (o : Option PhraseSort) → AreOpen fs ts → inside_lexeme left fs w o ≡ Ok s → IsReached s.0 s.1 (ts ++ (Lexeme w ∷ []))
  inside_worded fs ts w s None h e = cc
  inside_worded fs ts w s (Some q) h e = worded fs ts w s q (lexeme_phrase left (bindings_of fs) q w) refl h e

  begun_reached : (h : Keyword) (fs : List Frame) (us ts : List (Token Paren)) (o : Option PhraseSort) → has_keyword profile h ≡ true → binder_sort h ≡ o → AreOpen fs us → ts ≡ us ++ ((Mark P.Open) ∷ Lexeme (keyword_text h) ∷ []) → IsReached (opened h fs o).0 (opened h fs o).1 ts
  begun_reached h fs us ts None had b o e =
      (us, [], o, subst (λ y. IsBinding y []) (sym b) tt, refl, e ∙ ap (λ l. us ++ l) (ap (λ y. (Mark P.Open) ∷ Lexeme (keyword_text h) ∷ (name_tokens y [] ++ [])) (sym b)), had)
  begun_reached h fs us ts (Some q) had b o e = (us, q, o, b, e)

  keyword_reached : (q : PhraseSort) (fs : List Frame) (us ts : List (Token Paren)) (w : List ℕ) (s : ParseState) (o : Option Keyword) → keyword_of profile w ≡ o → AreOpen fs us → ts ≡ us ++ ((Mark P.Open) ∷ []) → opened_keyword q fs o ≡ Ok s → IsReached s.0 s.1 (ts ++ (Lexeme w ∷ []))
  keyword_reached q fs us ts w s None f h e g = cc
  keyword_reached q fs us ts w s (Some k) f h e g =
      let word = keyword_is profile w k f in
      chosen (same_sort (phrase_sort k) q) _ _ _ g (IsReached s.0 s.1 (ts ++ (Lexeme w ∷ [])))
      (λ t i. subst (λ n. IsReached n.0 n.1 (ts ++ (Lexeme w ∷ []))) (same_Ok _ _ i)
      (begun_reached k fs us (ts ++ (Lexeme w ∷ [])) (binder_sort k) word.had refl h (ap (λ l. l ++ (Lexeme w ∷ [])) e ∙ append_assoc us ((Mark P.Open) ∷ []) (Lexeme w ∷ []) ∙ ap (λ y. us ++ ((Mark P.Open) ∷ Lexeme y ∷ [])) word.text)))
      (λ t i. cc)

  binding_reached : (h : Keyword) (fs : List Frame) (ts : List (Token Paren)) (w : List ℕ) (s : ParseState) → IsReached (Binding h) fs ts → binding_step profile left h (Lexeme w) fs ≡ Ok s → IsReached s.0 s.1 (ts ++ (Lexeme w ∷ []))
  binding_reached h fs ts w s r g =
      chosen (is_name profile left w) _ _ _ g (IsReached s.0 s.1 (ts ++ (Lexeme w ∷ [])))
      (λ t i. subst (λ n. IsReached n.0 n.1 (ts ++ (Lexeme w ∷ []))) (same_Ok _ _ i) (
        r.0,
        [],
        r.2,
        subst (λ y. IsBinding y w) (sym r.3) t,
        refl,
        ap (λ l. l ++ (Lexeme w ∷ [])) r.4 ∙ append_assoc r.0 ((Mark P.Open) ∷ Lexeme (keyword_text h) ∷ []) (Lexeme w ∷ []) ∙ ap (λ l. r.0 ++ l) (ap (λ y. (Mark P.Open) ∷ Lexeme (keyword_text h) ∷ (name_tokens y w ++ [])) (sym r.3)),
        binder_had profile h r.1 r.3,
      ))
      (λ t i. cc)

  close_reached : (fs : List Frame) (ts : List (Token Paren)) (s : ParseState) → AreOpen fs ts → close_group fs ≡ Ok s → IsReached s.0 s.1 (ts ++ ((Mark P.Close) ∷ []))
  close_reached [] ts s h e = cc
  close_reached (f ∷ fs) ts s h e = closed_reached f fs ts s (group_phrase f.keyword f.parts) refl h e

  step_reached : (t : Token Paren) (st : Expected) (fs : List Frame) (s : ParseState) (ts : List (Token Paren)) → IsReached st fs ts → parse_step profile left t (st, fs) ≡ Ok s → IsReached s.0 s.1 (ts ++ (t ∷ []))
  unfolding parse_step
  step_reached (Mark P.Open) Inside fs s ts h e = inside_opened fs ts s (awaited_sort fs) h e
  step_reached (Mark P.Close) Inside fs s ts h e = close_reached fs ts s h e
  step_reached (Lexeme w) Inside fs s ts h e = inside_worded fs ts w s (awaited_sort fs) h e
  step_reached (Mark P.Open) (Opened q) fs s ts h e = cc
  step_reached (Mark P.Close) (Opened q) fs s ts h e = cc
  step_reached (Lexeme w) (Opened q) fs s ts h e = keyword_reached q fs h.0 ts w s (keyword_of profile w) refl h.1 h.2 e
  step_reached (Mark P.Open) (Binding k) fs s ts h e = cc
  step_reached (Mark P.Close) (Binding k) fs s ts h e = cc
  step_reached (Lexeme w) (Binding k) fs s ts h e = binding_reached k fs ts w s h e
  step_reached (Mark P.Open) (Whole A) fs s ts h e = cc
  step_reached (Mark P.Close) (Whole A) fs s ts h e = cc
  step_reached (Lexeme w) (Whole A) fs s ts h e = cc

  run_from : (t : Token Paren) (ts us : List (Token Paren)) (s : ParseState) (r : Result ParseState TextFlaw) → ((n : ParseState) → r ≡ Ok n → IsReached n.0 n.1 (us ++ (t ∷ []))) → (r >>= λ n. parse_steps profile left ts n) ≡ Ok s →
      ((n : ParseState) → IsReached n.0 n.1 (us ++ (t ∷ [])) → parse_steps profile left ts n ≡ Ok s → IsReached s.0 s.1 ((us ++ (t ∷ [])) ++ ts)) → IsReached s.0 s.1 (us ++ (t ∷ ts))
  run_from t ts us s (Ok n) f e g = subst (λ l. IsReached s.0 s.1 l) (append_assoc us (t ∷ []) ts) (g n (f n refl) e)
  run_from t ts us s (Err flaw) f e g = cc

  -- what is reached by tokens
  pub run_reached : (ts us : List (Token Paren)) (n s : ParseState) → IsReached n.0 n.1 us → parse_steps profile left ts n ≡ Ok s → IsReached s.0 s.1 (us ++ ts)
  run_reached [] us n s h e = subst (λ l. IsReached s.0 s.1 l) (sym (append-nil us)) (subst (λ m. IsReached m.0 m.1 us) (same_Ok n s e) h)
  run_reached (t ∷ ts) us n s h e = run_from t ts us s (parse_step profile left t n) (λ m f. step_reached t n.0 n.1 m us h f) e (λ m g f. run_reached ts (us ++ (t ∷ [])) m s g f)
