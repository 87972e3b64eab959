-- Each state that tokens lead to can be completed to a formula.
use Rattle.std.proofs.Common.{◌≡◌, ℕ, ◌^◌, ltb, Bool, true, false, cond, List, [], ◌∷◌, ◌++◌, length, map, append_assoc, Option, Some, None, Result, Ok, Err, refl, sym, ap, ◌∙◌, subst}
use Rattle.std.specs.Prelude.{codes, slice_get}
use Rattle.std.specs.Str.{bytes_eq}
use Rattle.std.proofs.lemmas.List.{append-nil, map-append}
use Rattle.std.proofs.lemmas.Bool.{cond-true}
use Rattle.formula_tree.specs.Formulas.{ELit, MMem, Form, FTrue}
use Rattle.text_tokens.specs.declared.parens.Paren.{Paren}
use Rattle.text_tokens.specs.declared.parens.Paren.TheVariants as P
use Rattle.text_tokens.specs.Tokens.{Token, Mark, Lexeme}
use Rattle.text_tokens.specs.Registers.{registers, register_of}
use Rattle.text_tokens.specs.Numbers.{lexeme_number, begins_with_digit}
use Rattle.formula_text.specs.declared.keywords.PhraseSort.{PhraseSort}
use Rattle.formula_text.specs.declared.keywords.PhraseSort.TheVariants as S
use Rattle.formula_text.specs.declared.keywords.Keyword.{Keyword}
use Rattle.formula_text.specs.declared.keywords.Keyword.TheVariants as K
use Rattle.formula_text.specs.declared.fault.TextFlaw.{TextFlaw}
use Rattle.word_ops.specs.Operators.{op_of_keyword}
use Rattle.formula_text.specs.Keywords.{phrase_sort, part_sorts, binder_sort, keyword_of, keywords}
use Rattle.formula_text.specs.Bindings.{is_left, is_name, Bindings, nearest_binding}
use Rattle.formula_text.specs.Grammar.{SpellsForm}
use Rattle.term_table.specs.Steps.{◌>>=◌}
use Rattle.formula_text.specs.Parsing.{number_phrase, variable_exp, variable_mem, named_exp, register_phrase, Phrase, AForm, AnExp, AMem, group_phrase, Frame, Expected, Inside, Opened, Binding, Whole, ParseState, bindings_of, awaited_sort, lexeme_phrase, put_phrase, put_group, close_group, inside_open, inside_lexeme, opened, same_sort, opened_keyword, binding_step, parse_step}
use Rattle.formula_text.proofs.Running.{parse_steps, parse_steps-append}
use Rattle.formula_text.proofs.Reached.{run_reached}
use Rattle.word_ops.specs.declared.Profile.{Profile}

module _ (profile : Profile) (left : Bool) where
  -- ---- the parts that have been read, and those that are missing

  abbrev sort_part : Phrase → PhraseSort
  sort_part (AForm A) = S.Form
  sort_part (AnExp a) = S.Exp
  sort_part (AMem m) = S.Mem

  abbrev sorts_of : List Phrase → List PhraseSort
  sorts_of xs = map sort_part xs

  -- a construct's parts are those that were read, and these
  abbrev Misses : Keyword → List Phrase → List PhraseSort → Type 0
  Misses h k rest = sorts_of k ++ rest ≡ part_sorts h

  -- all parts are there
  whole_built : (h : Keyword) (k : List Phrase) → sorts_of k ≡ part_sorts h → (x : Phrase) × (group_phrase h k ≡ Some x) × (sort_part x ≡ phrase_sort h)
  whole_built (K.Rel p) (AnExp a ∷ AnExp b ∷ []) e = (_, refl, refl)
  whole_built K.Rd (AnExp a ∷ []) e = (_, refl, refl)
  whole_built K.Wr (AnExp a ∷ []) e = (_, refl, refl)
  whole_built K.And (AForm A ∷ AForm B ∷ []) e = (_, refl, refl)
  whole_built K.Or (AForm A ∷ AForm B ∷ []) e = (_, refl, refl)
  whole_built K.Imp (AForm A ∷ AForm B ∷ []) e = (_, refl, refl)
  whole_built K.All (AForm A ∷ []) e = (_, refl, refl)
  whole_built K.Allm (AForm A ∷ []) e = (_, refl, refl)
  whole_built (K.Oper o) (AnExp a ∷ AnExp b ∷ []) e = (_, refl, refl)
  whole_built K.Sel (AMem m ∷ AnExp a ∷ []) e = (_, refl, refl)
  whole_built K.Upd (AMem m ∷ AnExp a ∷ AnExp v ∷ []) e = (_, refl, refl)
  whole_built h k e = cc

  -- one part more, of the sort that is missing
  more_held : (h : Keyword) (k : List Phrase) (x : Phrase) (rest : List PhraseSort) → Misses h k (sort_part x ∷ rest) → Misses h (k ++ x ∷ []) rest
  more_held h k x rest e = ap (λ l. l ++ rest) (map-append sort_part k (x ∷ [])) ∙ append_assoc (sorts_of k) (sort_part x ∷ []) rest ∙ e

  past_by : (k : List Phrase) → slice_get (sorts_of k ++ []) (length k) ≡ None
  past_by [] = refl
  past_by (x ∷ k) = past_by k

  some_same : {A : Type 0} (x y : A) → Some x ≡ Some y → x ≡ y
  some_same x y e = cc

  none_some : {q : PhraseSort} → None ≡ Some q → ⊥
  none_some e = cc

  next_by : (k : List Phrase) (q : PhraseSort) (rest : List PhraseSort) → slice_get (sorts_of k ++ (q ∷ rest)) (length k) ≡ Some q
  next_by [] q rest = refl
  next_by (x ∷ k) q rest = next_by k q rest

  next_sort : (h : Keyword) (k : List Phrase) (q : PhraseSort) (rest : List PhraseSort) → Misses h k (q ∷ rest) → slice_get (part_sorts h) (length k) ≡ Some q
  next_sort h k q rest e = ap (λ l. slice_get l (length k)) (sym e) ∙ next_by k q rest

  -- ---- open parentheses that stand where they may

  abbrev IsNest : List Frame → Type 0
  IsNest [] = Unit {0}
  IsNest (f ∷ fs) = (rest : List PhraseSort) × Misses f.keyword f.parts rest × (awaited_sort fs ≡ Some (phrase_sort f.keyword)) × IsNest fs

  abbrev Completes : ParseState → Type 0
  Completes s = (ts : List (Token Paren)) × (f : Form) × (fs : List Frame) × (parse_steps profile left ts s ≡ Ok (Whole f, fs))

  abbrev CompletesAny : Result ParseState TextFlaw → Type 0
  CompletesAny r = (s : ParseState) × (r ≡ Ok s) × Completes s

  step_on : (t : Token Paren) (s : ParseState) → CompletesAny (parse_step profile left t s) → Completes s
  step_on t s h = (t ∷ h.2.0, h.2.1, h.2.2, ap (λ r. r >>= λ n. parse_steps profile left h.2.0 n) h.1 ∙ h.2.3)

  -- a part of each sort that is one lexeme
  abbrev leaf : PhraseSort → Phrase
  leaf S.Form = AForm FTrue
  leaf S.Exp = AnExp (ELit 0)
  leaf S.Mem = AMem MMem

  abbrev leaf_text : PhraseSort → List ℕ
  leaf_text S.Form = codes "tt"
  leaf_text S.Exp = codes "0"
  leaf_text S.Mem = codes "m"

  leaf_sort : (q : PhraseSort) → sort_part (leaf q) ≡ q
  leaf_sort S.Form = refl
  leaf_sort S.Exp = refl
  leaf_sort S.Mem = refl

  leaf_step : (fs : List Frame) (q : PhraseSort) → awaited_sort fs ≡ Some q → parse_step profile left (Lexeme (leaf_text q)) (Inside, fs) ≡ put_phrase (leaf q) fs
  unfolding parse_step lexeme_phrase
  leaf_step fs S.Form e = ap (inside_lexeme left fs (codes "tt")) e
  leaf_step fs S.Exp e = ap (inside_lexeme left fs (codes "0")) e
  leaf_step fs S.Mem e = ap (inside_lexeme left fs (codes "m")) e

  -- parentheses with these parts missing, where their whole can be given on
  fill : (rest : List PhraseSort) (h : Keyword) (n : List ℕ) (k : List Phrase) (fs : List Frame) → Misses h k rest → ((x : Phrase) → sort_part x ≡ phrase_sort h → CompletesAny (put_phrase x fs)) → Completes (Inside, record { keyword = h; name = n; parts = k } ∷ fs)
  unfolding parse_step put_phrase
  fill [] h n k fs e g =
      let w = whole_built h k (sym (append-nil (sorts_of k)) ∙ e) in
      let c = g w.0 w.2 in
      step_on (Mark P.Close) _ (c.0, ap (λ o. put_group o fs) w.1 ∙ c.1, c.2)
  fill (q ∷ rest) h n k fs e g =
      let m = more_held h k (leaf q) rest (ap (λ p. sorts_of k ++ (p ∷ rest)) (leaf_sort q) ∙ e) in
      step_on (Lexeme (leaf_text q)) _
      ((Inside, record { keyword = h; name = n; parts = k ++ leaf q ∷ [] } ∷ fs), leaf_step (record { keyword = h; name = n; parts = k } ∷ fs) q (next_sort h k q rest e), fill rest h n (k ++ leaf q ∷ []) fs m g)

  give_frame : (f : Frame) (fs : List Frame) (x : Phrase) (rest : List PhraseSort) → Misses f.keyword f.parts rest → awaited_sort (f ∷ fs) ≡ Some (sort_part x) → ((y : Phrase) → sort_part y ≡ phrase_sort f.keyword → CompletesAny (put_phrase y fs)) → CompletesAny (put_phrase x (f ∷ fs))
  unfolding put_phrase
  give_frame f fs x [] m e g = let z : slice_get (part_sorts f.keyword) (length f.parts) ≡ None = ap (λ l. slice_get l (length f.parts)) (sym m) ∙ past_by f.parts in absurd (none_some (sym z ∙ e))
  give_frame f fs x (q ∷ rest) m e g =
      let s : q ≡ sort_part x = some_same _ _ (sym (next_sort f.keyword f.parts q rest m) ∙ e) in
      let j = more_held f.keyword f.parts x rest (ap (λ p. sorts_of f.parts ++ (p ∷ rest)) (sym s) ∙ m) in
      ((Inside, record { keyword = f.keyword; name = f.name; parts = f.parts ++ x ∷ [] } ∷ fs), refl, fill rest f.keyword f.name (f.parts ++ x ∷ []) fs j g)

  -- any part of the awaited sort can be given on
  give_on : (fs : List Frame) (x : Phrase) → IsNest fs → awaited_sort fs ≡ Some (sort_part x) → CompletesAny (put_phrase x fs)
  unfolding put_phrase
  give_on [] (AForm A) h e = ((Whole A, []), refl, ([], A, [], refl))
  give_on [] (AnExp a) h e = cc
  give_on [] (AMem m) h e = cc
  give_on (f ∷ fs) x h e = give_frame f fs x h.0 h.1 e (λ y s. give_on fs y h.3 (h.2 ∙ ap Some (sym s)))

  pub inside_completes : (fs : List Frame) → IsNest fs → Completes (Inside, fs)
  inside_completes [] h = step_on (Lexeme (codes "tt")) _ (subst CompletesAny (sym (leaf_step [] S.Form refl)) (give_on [] (AForm FTrue) tt refl))
  inside_completes (f ∷ fs) h = fill h.0 f.keyword f.name f.parts fs h.1 (λ y s. give_on fs y h.3 (h.2 ∙ ap Some (sym s)))

  -- ---- every state that tokens lead to

  built_sort : (h : Keyword) (k : List Phrase) (x : Phrase) → group_phrase h k ≡ Some x → sort_part x ≡ phrase_sort h
  built_sort (K.Rel p) (AnExp a ∷ AnExp b ∷ []) x e = ap sort_part (sym (some_same _ _ e))
  built_sort K.Rd (AnExp a ∷ []) x e = ap sort_part (sym (some_same _ _ e))
  built_sort K.Wr (AnExp a ∷ []) x e = ap sort_part (sym (some_same _ _ e))
  built_sort K.And (AForm A ∷ AForm B ∷ []) x e = ap sort_part (sym (some_same _ _ e))
  built_sort K.Or (AForm A ∷ AForm B ∷ []) x e = ap sort_part (sym (some_same _ _ e))
  built_sort K.Imp (AForm A ∷ AForm B ∷ []) x e = ap sort_part (sym (some_same _ _ e))
  built_sort K.All (AForm A ∷ []) x e = ap sort_part (sym (some_same _ _ e))
  built_sort K.Allm (AForm A ∷ []) x e = ap sort_part (sym (some_same _ _ e))
  built_sort (K.Oper o) (AnExp a ∷ AnExp b ∷ []) x e = ap sort_part (sym (some_same _ _ e))
  built_sort K.Sel (AMem m ∷ AnExp a ∷ []) x e = ap sort_part (sym (some_same _ _ e))
  built_sort K.Upd (AMem m ∷ AnExp a ∷ AnExp v ∷ []) x e = ap sort_part (sym (some_same _ _ e))
  built_sort h k x e = cc

  chosen : {A : Type 0} (t : Bool) (x y z : A) → cond t x y ≡ z → (P : Type 0) → (t ≡ true → x ≡ z → P) → (t ≡ false → y ≡ z → P) → P
  chosen true x y z e P f g = f refl e
  chosen false x y z e P f g = g refl e

  same_Ok : {A E : Type 0} (x y : A) → ◌≡◌ {A = Result A E} (Ok x) (Ok y) → x ≡ y
  same_Ok x y e = cc

  number_sort : (o : Option ℕ) (x : Phrase) → number_phrase o ≡ Ok x → sort_part x ≡ S.Exp
  number_sort None x e = cc
  number_sort (Some n) x e = chosen (ltb n (2 ^ 64)) _ _ _ e (sort_part x ≡ S.Exp) (λ t f. ap sort_part (sym (same_Ok _ _ f))) (λ t f. cc)

  exp_sort : (o : Option (ℕ × PhraseSort)) (x : Phrase) → variable_exp o ≡ Ok x → sort_part x ≡ S.Exp
  exp_sort None x e = cc
  exp_sort (Some (k, S.Exp)) x e = ap sort_part (sym (same_Ok _ _ e))
  exp_sort (Some (k, S.Mem)) x e = cc
  exp_sort (Some (k, S.Form)) x e = cc

  mem_sort : (o : Option (ℕ × PhraseSort)) (x : Phrase) → variable_mem o ≡ Ok x → sort_part x ≡ S.Mem
  mem_sort None x e = cc
  mem_sort (Some (k, S.Mem)) x e = ap sort_part (sym (same_Ok _ _ e))
  mem_sort (Some (k, S.Exp)) x e = cc
  mem_sort (Some (k, S.Form)) x e = cc

  named_sort : (s : Bindings) (w : List ℕ) (x : Phrase) → named_exp left s w ≡ Ok x → sort_part x ≡ S.Exp
  named_sort s w x e = chosen (is_left left w) _ _ _ e (sort_part x ≡ S.Exp) (λ t f. ap sort_part (sym (same_Ok _ _ f))) (λ t f. exp_sort (nearest_binding s w) x f)

  register_sort : (s : Bindings) (w : List ℕ) (o : Option ℕ) (x : Phrase) → register_phrase left s w o ≡ Ok x → sort_part x ≡ S.Exp
  register_sort s w (Some r) x e = ap sort_part (sym (same_Ok _ _ e))
  register_sort s w None x e = named_sort s w x e

  lexeme_sort : (s : Bindings) (q : PhraseSort) (w : List ℕ) (x : Phrase) → lexeme_phrase left s q w ≡ Ok x → sort_part x ≡ q
  unfolding lexeme_phrase
  lexeme_sort s S.Form w x e = chosen (bytes_eq w (codes "tt")) _ _ _ e (sort_part x ≡ S.Form) (λ t f. ap sort_part (sym (same_Ok _ _ f))) (λ t f. chosen (bytes_eq w (codes "ff")) _ _ _ f (sort_part x ≡ S.Form) (λ u g. ap sort_part (sym (same_Ok _ _ g))) (λ u g. cc))
  lexeme_sort s S.Exp w x e = chosen (begins_with_digit w) _ _ _ e (sort_part x ≡ S.Exp) (λ t f. number_sort (lexeme_number w) x f) (λ t f. register_sort s w (register_of w) x f)
  lexeme_sort s S.Mem w x e = chosen (bytes_eq w (codes "m")) _ _ _ e (sort_part x ≡ S.Mem) (λ t f. ap sort_part (sym (same_Ok _ _ f))) (λ t f. mem_sort (nearest_binding s w) x f)

  abbrev pub IsGood : Expected → List Frame → Type 0
  IsGood Inside fs = IsNest fs
  IsGood (Opened q) fs = IsNest fs × (awaited_sort fs ≡ Some q)
  IsGood (Binding h) fs = IsNest fs × (awaited_sort fs ≡ Some (phrase_sort h))
  IsGood (Whole A) fs = Unit {0}

  frame_good : (f : Frame) (fs : List Frame) (x : Phrase) (s : ParseState) (rest : List PhraseSort) → Misses f.keyword f.parts rest → IsNest (f ∷ fs) → awaited_sort (f ∷ fs) ≡ Some (sort_part x) → put_phrase x (f ∷ fs) ≡ Ok s → IsGood s.0 s.1
  unfolding put_phrase
  frame_good f fs x s [] m h a e = let z : slice_get (part_sorts f.keyword) (length f.parts) ≡ None = ap (λ l. slice_get l (length f.parts)) (sym m) ∙ past_by f.parts in absurd (none_some (sym z ∙ a))
  frame_good f fs x s (q ∷ rest) m h a e =
      let i : q ≡ sort_part x = some_same _ _ (sym (next_sort f.keyword f.parts q rest m) ∙ a) in
      let j = more_held f.keyword f.parts x rest (ap (λ p. sorts_of f.parts ++ (p ∷ rest)) (sym i) ∙ m) in
      subst (λ n. IsGood n.0 n.1) (same_Ok _ s e) (rest, j, h.2, h.3)

  given_good : (x : Phrase) (fs : List Frame) (s : ParseState) → IsNest fs → awaited_sort fs ≡ Some (sort_part x) → put_phrase x fs ≡ Ok s → IsGood s.0 s.1
  unfolding put_phrase
  given_good (AForm A) [] s h a e = subst (λ n. IsGood n.0 n.1) (same_Ok (Whole A, []) s e) tt
  given_good (AnExp b) [] s h a e = cc
  given_good (AMem m) [] s h a e = cc
  given_good x (f ∷ fs) s h a e = frame_good f fs x s h.0 h.1 h a e

  open_good : (fs : List Frame) (s : ParseState) (o : Option PhraseSort) → awaited_sort fs ≡ o → IsNest fs → inside_open fs o ≡ Ok s → IsGood s.0 s.1
  open_good fs s None a h e = cc
  open_good fs s (Some q) a h e = subst (λ n. IsGood n.0 n.1) (same_Ok (Opened q, fs) s e) (h, a)

  lexeme_good : (fs : List Frame) (w : List ℕ) (s : ParseState) (q : PhraseSort) (r : Result Phrase TextFlaw) → awaited_sort fs ≡ Some q → lexeme_phrase left (bindings_of fs) q w ≡ r → IsNest fs → (r >>= λ x. put_phrase x fs) ≡ Ok s → IsGood s.0 s.1
  lexeme_good fs w s q (Ok x) a f h e = given_good x fs s h (a ∙ ap Some (sym (lexeme_sort (bindings_of fs) q w x f))) e
  lexeme_good fs w s q (Err k) a f h e = cc

  inside_good : (fs : List Frame) (w : List ℕ) (s : ParseState) (o : Option PhraseSort) → awaited_sort fs ≡ o → IsNest fs → inside_lexeme left fs w o ≡ Ok s → IsGood s.0 s.1
  inside_good fs w s None a h e = cc
  inside_good fs w s (Some q) a h e = lexeme_good fs w s q (lexeme_phrase left (bindings_of fs) q w) a refl h e

  built_good : (f : Frame) (fs : List Frame) (s : ParseState) (o : Option Phrase) → group_phrase f.keyword f.parts ≡ o → IsNest (f ∷ fs) → put_group o fs ≡ Ok s → IsGood s.0 s.1
  built_good f fs s None b h e = cc
  built_good f fs s (Some x) b h e = given_good x fs s h.3 (h.2 ∙ ap Some (sym (built_sort f.keyword f.parts x b))) e

  close_good : (fs : List Frame) (s : ParseState) → IsNest fs → close_group fs ≡ Ok s → IsGood s.0 s.1
  close_good [] s h e = cc
  close_good (f ∷ fs) s h e = built_good f fs s (group_phrase f.keyword f.parts) refl h e

  sorts_same : (a b : PhraseSort) → same_sort a b ≡ true → b ≡ a
  sorts_same S.Form S.Form e = refl
  sorts_same S.Form S.Exp e = cc
  sorts_same S.Form S.Mem e = cc
  sorts_same S.Exp S.Form e = cc
  sorts_same S.Exp S.Exp e = refl
  sorts_same S.Exp S.Mem e = cc
  sorts_same S.Mem S.Form e = cc
  sorts_same S.Mem S.Exp e = cc
  sorts_same S.Mem S.Mem e = refl

  new_nest : (h : Keyword) (n : List ℕ) (fs : List Frame) → IsNest fs → awaited_sort fs ≡ Some (phrase_sort h) → IsNest (record { keyword = h; name = n; parts = [] } ∷ fs)
  new_nest h n fs g a = (part_sorts h, refl, a, g)

  opened_good : (h : Keyword) (fs : List Frame) (o : Option PhraseSort) → IsNest fs → awaited_sort fs ≡ Some (phrase_sort h) → IsGood (opened h fs o).0 (opened h fs o).1
  opened_good h fs None g a = new_nest h [] fs g a
  opened_good h fs (Some q) g a = (g, a)

  keyword_good : (q : PhraseSort) (fs : List Frame) (s : ParseState) (o : Option Keyword) → IsNest fs → awaited_sort fs ≡ Some q → opened_keyword q fs o ≡ Ok s → IsGood s.0 s.1
  keyword_good q fs s None g a e = cc
  keyword_good q fs s (Some h) g a e =
      chosen (same_sort (phrase_sort h) q) _ _ _ e (IsGood s.0 s.1)
      (λ t f. subst (λ n. IsGood n.0 n.1) (same_Ok _ _ f) (opened_good h fs (binder_sort h) g (a ∙ ap Some (sorts_same (phrase_sort h) q t))))
      (λ t f. cc)

  naming_good : (h : Keyword) (fs : List Frame) (w : List ℕ) (s : ParseState) → IsNest fs → awaited_sort fs ≡ Some (phrase_sort h) → binding_step profile left h (Lexeme w) fs ≡ Ok s → IsGood s.0 s.1
  naming_good h fs w s g a e =
      chosen (is_name profile left w) _ _ _ e (IsGood s.0 s.1)
      (λ t f. subst (λ n. IsGood n.0 n.1) (same_Ok _ _ f) (new_nest h w fs g a))
      (λ t f. cc)

  step_good : (t : Token Paren) (st : Expected) (fs : List Frame) (s : ParseState) → IsGood st fs → parse_step profile left t (st, fs) ≡ Ok s → IsGood s.0 s.1
  unfolding parse_step
  step_good (Mark P.Open) Inside fs s h e = open_good fs s (awaited_sort fs) refl h e
  step_good (Mark P.Close) Inside fs s h e = close_good fs s h e
  step_good (Lexeme w) Inside fs s h e = inside_good fs w s (awaited_sort fs) refl h e
  step_good (Mark P.Open) (Opened q) fs s h e = cc
  step_good (Mark P.Close) (Opened q) fs s h e = cc
  step_good (Lexeme w) (Opened q) fs s h e = keyword_good q fs s (keyword_of profile w) h.0 h.1 e
  step_good (Mark P.Open) (Binding k) fs s h e = cc
  step_good (Mark P.Close) (Binding k) fs s h e = cc
  step_good (Lexeme w) (Binding k) fs s h e = naming_good k fs w s h.0 h.1 e
  step_good (Mark P.Open) (Whole A) fs s h e = cc
  step_good (Mark P.Close) (Whole A) fs s h e = cc
  step_good (Lexeme w) (Whole A) fs s h e = cc

  good_from : (ts : List (Token Paren)) (s : ParseState) (r : Result ParseState TextFlaw) → ((n : ParseState) → r ≡ Ok n → IsGood n.0 n.1) → (r >>= λ n. parse_steps profile left ts n) ≡ Ok s → ((n : ParseState) → IsGood n.0 n.1 → parse_steps profile left ts n ≡ Ok s → IsGood s.0 s.1) → IsGood s.0 s.1
  good_from ts s (Ok n) f e g = g n (f n refl) e
  good_from ts s (Err k) f e g = cc

  run_good : (ts : List (Token Paren)) (n s : ParseState) → IsGood n.0 n.1 → parse_steps profile left ts n ≡ Ok s → IsGood s.0 s.1
  run_good [] n s h e = subst (λ m. IsGood m.0 m.1) (same_Ok n s e) h
  run_good (t ∷ ts) n s h e = good_from ts s (parse_step profile left t n) (λ m f. step_good t n.0 n.1 m h f) e (λ m g f. run_good ts m s g f)

  -- ---- and can be completed

  opened_completes : (fs : List Frame) (q : PhraseSort) → IsNest fs → awaited_sort fs ≡ Some q → Completes (Opened q, fs)
  unfolding parse_step keyword_of keywords op_of_keyword
  opened_completes fs S.Form g a = step_on (Lexeme (codes "rd")) (Opened S.Form, fs) ((Inside, record { keyword = K.Rd; name = []; parts = [] } ∷ fs), refl, inside_completes _ (new_nest K.Rd [] fs g a))
  opened_completes fs S.Exp g a = step_on (Lexeme (codes "sel")) (Opened S.Exp, fs) ((Inside, record { keyword = K.Sel; name = []; parts = [] } ∷ fs), refl, inside_completes _ (new_nest K.Sel [] fs g a))
  opened_completes fs S.Mem g a = step_on (Lexeme (codes "upd")) (Opened S.Mem, fs) ((Inside, record { keyword = K.Upd; name = []; parts = [] } ∷ fs), refl, inside_completes _ (new_nest K.Upd [] fs g a))

  x_is_name : is_name profile left (codes "x") ≡ true
  unfolding is_name register_of registers keyword_of keywords op_of_keyword
  x_is_name = refl

  good_completes : (st : Expected) (fs : List Frame) → IsGood st fs → Completes (st, fs)
  unfolding parse_step
  good_completes Inside fs h = inside_completes fs h
  good_completes (Opened q) fs h = opened_completes fs q h.0 h.1
  good_completes (Binding k) fs h = step_on (Lexeme (codes "x")) (Binding k, fs) ((Inside, record { keyword = k; name = codes "x"; parts = [] } ∷ fs), cond-true (is_name profile left (codes "x")) _ _ x_is_name, inside_completes _ (new_nest k (codes "x") fs h.0 h.1))
  good_completes (Whole A) fs h = ([], A, fs, refl)

  -- what is taken begins some formula
  pub taken_begins : (ts : List (Token Paren)) (n : ParseState) → parse_steps profile left ts (Inside, []) ≡ Ok n → (f : Form) × (more : List (Token Paren)) × SpellsForm profile left f [] (ts ++ more)
  taken_begins ts n e =
      let c = good_completes n.0 n.1 (run_good ts (Inside, []) n tt e) in
      let r : parse_steps profile left (ts ++ c.0) (Inside, []) ≡ Ok (Whole c.1, c.2) = parse_steps-append profile left ts c.0 (Inside, []) ∙ ap (λ q. q >>= λ m. parse_steps profile left c.0 m) e ∙ c.3 in
      (c.1, c.0, run_reached profile left (ts ++ c.0) [] (Inside, []) (Whole c.1, c.2) refl r)
