-- A formula is less high than its text is long: what stands within another has parentheses and a
-- keyword around it.
use Rattle.std.proofs.Common.{◌≡◌, ℕ, ◌+◌, ◌*◌, ◌≤◌, false, List, [], ◌∷◌, ◌++◌, length, length-append, ap, arith}
use Rattle.word_ops.specs.declared.Profile.{Profile}
use Rattle.formula_tree.specs.Formulas.{Exp, EReg, ELeft, EVar, ELit, EOp, ESel, MemExp, MMem, MVar, MUpd, Form, FTrue, FFalse, FRel, FRd, FWr, FAnd, FOr, FImp, FAll, FAllm}
use Rattle.formula_tree.specs.Sizes.{exp_height, mem_height, form_height}
use Rattle.text_tokens.specs.declared.parens.Paren.{Paren}
use Rattle.text_tokens.specs.declared.parens.Paren.TheVariants as P
use Rattle.text_tokens.specs.declared.tokens.Class.{Class}
use Rattle.text_tokens.specs.Parens.{paren_class}
use Rattle.text_tokens.specs.Tokens.{Token, Mark, Lexeme, Consists, nothing, blank, mark, lexeme}
use Rattle.formula_text.specs.declared.keywords.PhraseSort.TheVariants as S
use Rattle.formula_text.specs.declared.keywords.Keyword.{Keyword}
use Rattle.formula_text.specs.declared.keywords.Keyword.TheVariants as K
use Rattle.formula_text.specs.Bindings.{Bindings}
use Rattle.formula_text.specs.Grammar.{group, SpellsExp, SpellsMem, SpellsForm, Spells}
use Rattle.policy_set.specs.declared.limits.TheConstants.{MAX_FORM_HEIGHT, MAX_FORM_LINE}

-- ---- tokens

-- a text has no more tokens than bytes
tokens-few : {M : Type 0} (c : ℕ → Class M) (text : List ℕ) (ts : List (Token M))
    → Consists c text ts → length ts ≤ length text
tokens-few c text ts nothing = omega arith
tokens-few c text ts (blank {bs = bs} {ts = us} e d) = omega (arith, tokens-few c bs us d)
tokens-few c text ts (mark {bs = bs} {ts = us} e d) = omega (arith, tokens-few c bs us d)
tokens-few c text ts (lexeme {w = w} {bs = bs} {ts = us} h g d) =
    omega (arith, length-append w bs, h.some, tokens-few c bs us d)

-- parentheses and a keyword are three tokens
group-length : (k : Keyword) (us ts : List (Token Paren)) → ts ≡ group k us
    → length ts ≡ length us + 3
group-length k us ts e = omega (arith, ap length e, length-append us (Mark P.Close ∷ []))

two-length : (k : Keyword) (us vs ts : List (Token Paren)) → ts ≡ group k (us ++ vs)
    → length ts ≡ (length us + length vs) + 3
two-length k us vs ts e = omega (arith, group-length k (us ++ vs) ts e, length-append us vs)

three-length : (k : Keyword) (us vs ws ts : List (Token Paren)) → ts ≡ group k ((us ++ vs) ++ ws)
    → length ts ≡ ((length us + length vs) + length ws) + 3
three-length k us vs ws ts e =
    omega (arith, two-length k (us ++ vs) ws ts e, length-append us vs)

-- ---- three tokens for each step of the height, but the first

module _ (profile : Profile) where
  mutual
    exp-low : (a : Exp) (s : Bindings) (ts : List (Token Paren)) → SpellsExp profile false a s ts
        → 3 * exp_height a ≤ length ts + 2
    exp-low (EReg r) s ts h = omega (arith, ap length h.2)
    exp-low ELeft s ts h = absurd h.0
    exp-low (EVar n) s ts h = omega (arith, ap length h.3)
    exp-low (ELit n) s ts h = omega (arith, ap length h.3)
    exp-low (EOp o a b) s ts h =
        let l = two-length (K.Oper o) h.0 h.1 ts h.4 in
        omega (arith, l, exp-low a s h.0 h.2, exp-low b s h.1 h.3)
    exp-low (ESel m a) s ts h =
        let l = two-length K.Sel h.0 h.1 ts h.4 in
        omega (arith, l, mem-low m s h.0 h.2, exp-low a s h.1 h.3)

    mem-low : (m : MemExp) (s : Bindings) (ts : List (Token Paren)) → SpellsMem profile false m s ts
        → 3 * mem_height m ≤ length ts + 2
    mem-low MMem s ts h = omega (arith, ap length h)
    mem-low (MVar n) s ts h = omega (arith, ap length h.3)
    mem-low (MUpd m a v) s ts h =
        let l = three-length K.Upd h.0 h.1 h.2 ts h.6 in
        omega (arith, l, mem-low m s h.0 h.3, exp-low a s h.1 h.4, exp-low v s h.2 h.5)

  form-low : (A : Form) (s : Bindings) (ts : List (Token Paren)) → SpellsForm profile false A s ts
      → 3 * form_height A ≤ length ts + 2
  form-low FTrue s ts h = omega (arith, ap length h)
  form-low FFalse s ts h = omega (arith, ap length h)
  form-low (FRel p a b) s ts h =
      let l = two-length (K.Rel p) h.0 h.1 ts h.4 in
      omega (arith, l, exp-low a s h.0 h.2, exp-low b s h.1 h.3)
  form-low (FRd a) s ts h = omega (arith, group-length K.Rd h.0 ts h.2, exp-low a s h.0 h.1)
  form-low (FWr a) s ts h = omega (arith, group-length K.Wr h.0 ts h.2, exp-low a s h.0 h.1)
  form-low (FAnd A B) s ts h =
      let l = two-length K.And h.0 h.1 ts h.4 in
      omega (arith, l, form-low A s h.0 h.2, form-low B s h.1 h.3)
  form-low (FOr A B) s ts h =
      let l = two-length K.Or h.0 h.1 ts h.4 in
      omega (arith, l, form-low A s h.0 h.2, form-low B s h.1 h.3)
  form-low (FImp A B) s ts h =
      let l = two-length K.Imp h.0 h.1 ts h.4 in
      omega (arith, l, form-low A s h.0 h.2, form-low B s h.1 h.3)
  form-low (FAll A) s ts h =
      let l = group-length K.All (Lexeme h.0 ∷ h.1) ts h.4 in
      omega (arith, l, form-low A ((h.0, S.Exp) ∷ s) h.1 h.3)
  form-low (FAllm A) s ts h =
      let l = group-length K.Allm (Lexeme h.0 ∷ h.1) ts h.4 in
      omega (arith, l, form-low A ((h.0, S.Mem) ∷ s) h.1 h.3)

  -- a formula whose text isn't long isn't high
  pub spelled-low : (text : List ℕ) (F : Form) → Spells profile false text F → length text ≤ MAX_FORM_LINE
      → form_height F ≤ MAX_FORM_HEIGHT
  spelled-low text F h short =
      omega (arith, short, tokens-few paren_class text h.tokens h.consists, form-low F [] h.tokens h.spelled)
