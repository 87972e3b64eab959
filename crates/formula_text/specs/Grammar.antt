-- The grammar of formulas as text: which texts spell a formula.
--
--   form = tt | ff | (REL exp exp) | (rd exp) | (wr exp) | (and form form) | (or form form) | (imp form form) | (all NAME form) | (allm NAME form)
--   exp  = REGISTER | left | NAME | NUMBER | (OPERATOR exp exp) | (sel mem exp)
--   mem  = m | NAME | (upd mem exp exp)
--
-- The operators and the names are those of a profile: the words of operators that it lacks may be
-- bound. Where the steps that are left may be named, `left` stands for them and may not be bound;
-- elsewhere it is a name like others. Blanks, parentheses and lexemes stand in text_tokens
-- (specs/Tokens, specs/Parens), as registers (specs/Registers) and numbers (specs/Numbers) do;
-- relations and operators stand in specs/Keywords, names in specs/Bindings.
use Rattle.std.specs.Prelude.{◌≡◌, ℕ, ◌<◌, ◌^◌, Bool, true, T, List, [], ◌∷◌, ◌++◌, codes, Some}
use Rattle.word_ops.specs.declared.Profile.{Profile}
use Rattle.word_ops.specs.Operators.{has_op}
use Rattle.formula_tree.specs.Formulas.{Exp, EReg, ELeft, EVar, ELit, EOp, ESel, MemExp, MMem, MVar, MUpd, Form, FTrue, FFalse, FRel, FRd, FWr, FAnd, FOr, FImp, FAll, FAllm}
use Rattle.text_tokens.specs.declared.parens.Paren.{Paren}
use Rattle.text_tokens.specs.declared.parens.Paren.TheVariants as P
use Rattle.text_tokens.specs.Tokens.{Token, Mark, Lexeme, Consists}
use Rattle.text_tokens.specs.Parens.{paren_class}
use Rattle.text_tokens.specs.Registers.{IsRegister}
use Rattle.text_tokens.specs.Numbers.{IsNumber}
use Rattle.formula_text.specs.declared.keywords.PhraseSort.TheVariants as S
use Rattle.formula_text.specs.declared.keywords.Keyword.{Keyword}
use Rattle.formula_text.specs.declared.keywords.Keyword.TheVariants as K
use Rattle.formula_text.specs.Keywords.{keyword_text}
use Rattle.formula_text.specs.Bindings.{is_name, Bindings, nearest_binding}

-- parentheses with a keyword and what stands behind it
abbrev pub group : Keyword → List (Token Paren) → List (Token Paren)
group k ts = Mark P.Open ∷ Lexeme (keyword_text k) ∷ (ts ++ (Mark P.Close ∷ []))

module _ (profile : Profile) (left : Bool) where
  -- the tokens spell the expression, where these names are bound
  abbrev mutual
    pub SpellsExp : Exp → Bindings → List (Token Paren) → Type 0
    SpellsExp (EReg r) s ts = (w : List ℕ) × IsRegister r w × (ts ≡ Lexeme w ∷ [])
    SpellsExp ELeft s ts = T left × (ts ≡ Lexeme (codes "left") ∷ [])
    SpellsExp (EVar n) s ts = (x : List ℕ) × (is_name profile left x ≡ true) × (nearest_binding s x ≡ Some (n, S.Exp)) × (ts ≡ Lexeme x ∷ [])
    SpellsExp (ELit n) s ts = (w : List ℕ) × IsNumber w n × (n < 2 ^ 64) × (ts ≡ Lexeme w ∷ [])
    SpellsExp (EOp o a b) s ts = (us vs : List (Token Paren)) × SpellsExp a s us × SpellsExp b s vs × (ts ≡ group (K.Oper o) (us ++ vs)) × (has_op profile o ≡ true)
    SpellsExp (ESel m a) s ts = (us vs : List (Token Paren)) × SpellsMem m s us × SpellsExp a s vs × (ts ≡ group K.Sel (us ++ vs))

    pub SpellsMem : MemExp → Bindings → List (Token Paren) → Type 0
    SpellsMem MMem s ts = ts ≡ Lexeme (codes "m") ∷ []
    SpellsMem (MVar n) s ts = (x : List ℕ) × (is_name profile left x ≡ true) × (nearest_binding s x ≡ Some (n, S.Mem)) × (ts ≡ Lexeme x ∷ [])
    SpellsMem (MUpd m a v) s ts = (us vs ws : List (Token Paren)) × SpellsMem m s us × SpellsExp a s vs × SpellsExp v s ws × (ts ≡ group K.Upd ((us ++ vs) ++ ws))

  -- the tokens spell the formula; a name that it binds hides those outside
  abbrev pub SpellsForm : Form → Bindings → List (Token Paren) → Type 0
  SpellsForm FTrue s ts = ts ≡ Lexeme (codes "tt") ∷ []
  SpellsForm FFalse s ts = ts ≡ Lexeme (codes "ff") ∷ []
  SpellsForm (FRel p a b) s ts = (us vs : List (Token Paren)) × SpellsExp a s us × SpellsExp b s vs × (ts ≡ group (K.Rel p) (us ++ vs))
  SpellsForm (FRd a) s ts = (us : List (Token Paren)) × SpellsExp a s us × (ts ≡ group K.Rd us)
  SpellsForm (FWr a) s ts = (us : List (Token Paren)) × SpellsExp a s us × (ts ≡ group K.Wr us)
  SpellsForm (FAnd A B) s ts = (us vs : List (Token Paren)) × SpellsForm A s us × SpellsForm B s vs × (ts ≡ group K.And (us ++ vs))
  SpellsForm (FOr A B) s ts = (us vs : List (Token Paren)) × SpellsForm A s us × SpellsForm B s vs × (ts ≡ group K.Or (us ++ vs))
  SpellsForm (FImp A B) s ts = (us vs : List (Token Paren)) × SpellsForm A s us × SpellsForm B s vs × (ts ≡ group K.Imp (us ++ vs))
  SpellsForm (FAll A) s ts = (x : List ℕ) × (us : List (Token Paren)) × (is_name profile left x ≡ true) × SpellsForm A ((x, S.Exp) ∷ s) us × (ts ≡ group K.All (Lexeme x ∷ us))
  SpellsForm (FAllm A) s ts = (x : List ℕ) × (us : List (Token Paren)) × (is_name profile left x ≡ true) × SpellsForm A ((x, S.Mem) ∷ s) us × (ts ≡ group K.Allm (Lexeme x ∷ us))

  -- The text spells the formula over the profile's operators, in which all variables are bound. It
  -- names the steps that are left only where the flag is true.
  pub record Spells (text : List ℕ) (f : Form) : Type 0 where
    pub tokens : List (Token Paren)
    pub consists : Consists paren_class text tokens
    pub spelled : SpellsForm f [] tokens
