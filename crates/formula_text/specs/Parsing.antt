-- Parsing a text as a formula, a token at a time: the first token that may not stand where it stands is the fault.
use Rattle.term_table.specs.Steps.{◌>>=◌}
use Rattle.std.specs.Prelude.{ℕ, ◌^◌, Bool, true, false, nat_lt, if◌then◌else◌, List, [], ◌∷◌, ◌++◌, codes, length, slice_get, Option, Some, None, Result, Ok, Err}
use Rattle.std.specs.Str.{bytes_eq}
use Rattle.word_ops.specs.declared.Profile.{Profile}
use Rattle.formula_tree.specs.Formulas.{Exp, EReg, ELeft, EVar, ELit, EOp, ESel, MemExp, MMem, MVar, MUpd, Form, FTrue, FFalse, FRel, FRd, FWr, FAnd, FOr, FImp, FAll, FAllm}
use Rattle.text_tokens.specs.declared.parens.Paren.{Paren}
use Rattle.text_tokens.specs.declared.parens.Paren.TheVariants as P
use Rattle.text_tokens.specs.Tokens.{Token, Mark, Lexeme, Placed, tokens_at}
use Rattle.text_tokens.specs.Registers.{register_of}
use Rattle.text_tokens.specs.Numbers.{lexeme_number, begins_with_digit}
use Rattle.text_tokens.specs.Parens.{paren_class}
use Rattle.formula_text.specs.declared.keywords.PhraseSort.{PhraseSort}
use Rattle.formula_text.specs.declared.keywords.PhraseSort.TheVariants as S
use Rattle.formula_text.specs.declared.keywords.Keyword.{Keyword}
use Rattle.formula_text.specs.declared.keywords.Keyword.TheVariants as K
use Rattle.formula_text.specs.declared.fault.TextFlaw.{TextFlaw}
use Rattle.formula_text.specs.declared.fault.TextFlaw.TheVariants.{Shape, Name, Number, Trailing}
use Rattle.formula_text.specs.Keywords.{phrase_sort, part_sorts, binder_sort, keyword_of}
use Rattle.formula_text.specs.Bindings.{is_left, is_name, Bindings, nearest_binding}

-- a position, and what is wrong there
abbrev pub FaultAt : Type 0
FaultAt = ℕ × TextFlaw

-- what a lexeme or a pair of parentheses stands for
pub data Phrase : Type 0 where
  AForm : Form → Phrase
  AnExp : Exp → Phrase
  AMem : MemExp → Phrase

-- what parentheses with this keyword stand for, where these are their parts
abbrev pub group_phrase : Keyword → List Phrase → Option Phrase
group_phrase (K.Rel p) (AnExp a ∷ AnExp b ∷ []) = Some (AForm (FRel p a b))
group_phrase K.Rd (AnExp a ∷ []) = Some (AForm (FRd a))
group_phrase K.Wr (AnExp a ∷ []) = Some (AForm (FWr a))
group_phrase K.And (AForm A ∷ AForm B ∷ []) = Some (AForm (FAnd A B))
group_phrase K.Or (AForm A ∷ AForm B ∷ []) = Some (AForm (FOr A B))
group_phrase K.Imp (AForm A ∷ AForm B ∷ []) = Some (AForm (FImp A B))
group_phrase K.All (AForm A ∷ []) = Some (AForm (FAll A))
group_phrase K.Allm (AForm A ∷ []) = Some (AForm (FAllm A))
group_phrase (K.Oper o) (AnExp a ∷ AnExp b ∷ []) = Some (AnExp (EOp o a b))
group_phrase K.Sel (AMem m ∷ AnExp a ∷ []) = Some (AnExp (ESel m a))
group_phrase K.Upd (AMem m ∷ AnExp a ∷ AnExp v ∷ []) = Some (AMem (MUpd m a v))
group_phrase k parts = None

-- parentheses that are open: their keyword, the name that they bind, if they bind one, and the parts so far
pub record Frame : Type 0 where
  pub keyword : Keyword
  pub name : List ℕ
  pub parts : List Phrase

-- what may come next: a part of the nearest parentheses or their end; a keyword of this sort; the name that is bound; or nothing behind a formula
pub data Expected : Type 0 where
  Inside : Expected
  Opened : PhraseSort → Expected
  Binding : Keyword → Expected
  Whole : Form → Expected

-- what may come next, and the parentheses that are open, the nearest first
abbrev pub ParseState : Type 0
ParseState = Expected × List Frame

-- a name in front of others, where parentheses bind one
abbrev pub with_binding : Option PhraseSort → List ℕ → Bindings → Bindings
with_binding None x s = s
with_binding (Some q) x s = (x, q) ∷ s

-- the names that the open parentheses bind
abbrev pub bindings_of : List Frame → Bindings
bindings_of [] = []
bindings_of (f ∷ fs) = with_binding (binder_sort f.keyword) f.name (bindings_of fs)

-- the sort of the next part, if one may stand here
abbrev pub awaited_sort : List Frame → Option PhraseSort
awaited_sort [] = Some S.Form
awaited_sort (f ∷ fs) = slice_get (part_sorts f.keyword) (length f.parts)

-- ---- a lexeme in the place of a part

-- a number as a word
abbrev pub number_phrase : Option ℕ → Result Phrase TextFlaw
number_phrase None = Err Number
number_phrase (Some n) = if nat_lt n (2 ^ 64) then Ok (AnExp (ELit n)) else Err Number

-- a bound name in the place of an expression
abbrev pub variable_exp : Option (ℕ × PhraseSort) → Result Phrase TextFlaw
variable_exp (Some (n, S.Exp)) = Ok (AnExp (EVar n))
variable_exp found = Err Name

-- a bound name in the place of a memory
abbrev pub variable_mem : Option (ℕ × PhraseSort) → Result Phrase TextFlaw
variable_mem (Some (n, S.Mem)) = Ok (AMem (MVar n))
variable_mem found = Err Name

-- the steps that are left, where the flag allows their name, else a bound name
abbrev pub named_exp : Bool → Bindings → List ℕ → Result Phrase TextFlaw
named_exp left s w =
    if is_left left w then Ok (AnExp ELeft) else variable_exp (nearest_binding s w)

-- a register, else such a name
abbrev pub register_phrase : Bool → Bindings → List ℕ → Option ℕ → Result Phrase TextFlaw
register_phrase left s w (Some r) = Ok (AnExp (EReg r))
register_phrase left s w None = named_exp left s w

-- a lexeme in the place of an expression
abbrev pub exp_lexeme : Bool → Bindings → List ℕ → Result Phrase TextFlaw
exp_lexeme left s w =
    if begins_with_digit w then number_phrase (lexeme_number w) else
    register_phrase left s w (register_of w)

-- in the place of a memory
abbrev pub mem_lexeme : Bindings → List ℕ → Result Phrase TextFlaw
mem_lexeme s w = if bytes_eq w (codes "m") then Ok (AMem MMem) else variable_mem (nearest_binding s w)

-- in the place of a formula
abbrev pub form_lexeme : List ℕ → Result Phrase TextFlaw
form_lexeme w = if bytes_eq w (codes "tt") then Ok (AForm FTrue) else if bytes_eq w (codes "ff") then Ok (AForm FFalse) else Err Shape

-- what the lexeme stands for in the place of this sort
unfoldable pub lexeme_phrase : Bool → Bindings → PhraseSort → List ℕ → Result Phrase TextFlaw
lexeme_phrase left s S.Form w = form_lexeme w
lexeme_phrase left s S.Exp w = exp_lexeme left s w
lexeme_phrase left s S.Mem w = mem_lexeme s w

-- ---- one token

-- a phrase behind which nothing is open
abbrev pub whole_form : Phrase → Result ParseState TextFlaw
whole_form (AForm A) = Ok (Whole A, [])
whole_form x = Err Shape

-- a phrase goes behind the parts of the nearest parentheses; where none are open it is the formula
unfoldable pub put_phrase : Phrase → List Frame → Result ParseState TextFlaw
put_phrase x [] = whole_form x
put_phrase x (f ∷ fs) = Ok (Inside, record { keyword = f.keyword; name = f.name; parts = f.parts ++ x ∷ [] } ∷ fs)

-- what parentheses that end stand for
abbrev pub put_group : Option Phrase → List Frame → Result ParseState TextFlaw
put_group None fs = Err Shape
put_group (Some x) fs = put_phrase x fs

-- the end of the nearest parentheses
abbrev pub close_group : List Frame → Result ParseState TextFlaw
close_group [] = Err Shape
close_group (f ∷ fs) = put_group (group_phrase f.keyword f.parts) fs

-- a parenthesis opens in the place of a part of this sort, if one may stand there
abbrev pub inside_open : List Frame → Option PhraseSort → Result ParseState TextFlaw
inside_open fs None = Err Shape
inside_open fs (Some q) = Ok (Opened q, fs)

-- a lexeme in the place of such a part
abbrev pub inside_lexeme : Bool → List Frame → List ℕ → Option PhraseSort
    → Result ParseState TextFlaw
inside_lexeme left fs w None = Err Shape
inside_lexeme left fs w (Some q) = lexeme_phrase left (bindings_of fs) q w >>= λ x. put_phrase x fs

-- a token where a part of the nearest parentheses, or their end, may come
abbrev pub inside_step : Bool → Token Paren → List Frame → Result ParseState TextFlaw
inside_step left (Mark P.Open) fs = inside_open fs (awaited_sort fs)
inside_step left (Mark P.Close) fs = close_group fs
inside_step left (Lexeme w) fs = inside_lexeme left fs w (awaited_sort fs)

-- whether two sorts are the same
abbrev pub same_sort : PhraseSort → PhraseSort → Bool
same_sort S.Form S.Form = true
same_sort S.Exp S.Exp = true
same_sort S.Mem S.Mem = true
same_sort a b = false

-- parentheses with this keyword are open; next comes the name, where they bind one
abbrev pub opened : Keyword → List Frame → Option PhraseSort → ParseState
opened k fs None = (Inside, record { keyword = k; name = []; parts = [] } ∷ fs)
opened k fs (Some q) = (Binding k, fs)

-- the same, where it is a keyword of the sort
abbrev pub opened_keyword : PhraseSort → List Frame → Option Keyword → Result ParseState TextFlaw
opened_keyword q fs None = Err Shape
opened_keyword q fs (Some k) = if same_sort (phrase_sort k) q then Ok (opened k fs (binder_sort k)) else Err Shape

-- a token where a keyword has to come
abbrev pub keyword_step : Profile → PhraseSort → Token Paren → List Frame → Result ParseState TextFlaw
keyword_step profile q (Mark p) fs = Err Shape
keyword_step profile q (Lexeme w) fs = opened_keyword q fs (keyword_of profile w)

-- a token where the name that is bound has to come
abbrev pub binding_step : Profile → Bool → Keyword → Token Paren → List Frame
    → Result ParseState TextFlaw
binding_step profile left k (Mark p) fs = Err Shape
binding_step profile left k (Lexeme w) fs =
    if is_name profile left w then
    Ok (Inside, record { keyword = k; name = w; parts = [] } ∷ fs)
    else Err Name

-- the state behind one token, or what is wrong with it
unfoldable pub parse_step : Profile → Bool → Token Paren → ParseState → Result ParseState TextFlaw
parse_step profile left t (Inside, fs) = inside_step left t fs
parse_step profile left t (Opened q, fs) = keyword_step profile q t fs
parse_step profile left t (Binding k, fs) = binding_step profile left k t fs
parse_step profile left t (Whole f, fs) = Err Trailing

-- ---- all tokens

-- a fault with its position
abbrev pub at_position : {A : Type 0} → ℕ → Result A TextFlaw → Result A FaultAt
at_position p (Ok x) = Ok x
at_position p (Err flaw) = Err (p, flaw)

-- the formula, where all tokens were read; end is the length of the text
abbrev pub parse_end : ℕ → Expected → Result Form FaultAt
parse_end end (Whole f) = Ok f
parse_end end next = Err (end, Shape)

-- the formula of all tokens, or the first fault
unfoldable pub parsed_tokens : Profile → Bool → ℕ → List (Placed Paren) → ParseState
    → Result Form FaultAt
parsed_tokens profile left end [] s = parse_end end s.0
parsed_tokens profile left end (t ∷ ts) s =
    at_position t.0 (parse_step profile left t.1 s) >>= λ next.
    parsed_tokens profile left end ts next

-- The formula over the profile's operators that the text is parsed as, or the first fault. The flag
-- says whether the formula may name the steps that are left.
unfoldable pub parsed_form : Profile → Bool → List ℕ → Result Form FaultAt
parsed_form profile left text =
    parsed_tokens profile left (length text) (tokens_at paren_class 0 text) (Inside, [])
