-- The tokens of a text are no longer than it, and a formula no higher than its tokens are long.
use Rattle.std.proofs.Common.{◌≡◌, ℕ, ◌+◌, ◌≤◌, max, Bool, List, [], ◌∷◌, ◌++◌, length, ap, ◌∙◌, arith, length-append}
use Rattle.formula_tree.specs.Formulas.{Exp, EReg, ELeft, EVar, ELit, EOp, ESel, MemExp, MMem, MVar, MUpd, Form, FTrue, FFalse, FRel, FRd, FWr, FAnd, FOr, FImp, FAll, FAllm}
use Rattle.formula_tree.specs.Sizes.{exp_height, mem_height, form_height}
use Rattle.text_tokens.specs.declared.parens.Paren.{Paren}
use Rattle.text_tokens.specs.declared.parens.Paren.TheVariants as P
use Rattle.text_tokens.specs.Tokens.{Token, Mark, Lexeme, Consists, nothing, blank, mark, lexeme, token_length}
use Rattle.text_tokens.specs.Parens.{paren_class}
use Rattle.formula_text.specs.declared.keywords.PhraseSort.TheVariants as S
use Rattle.formula_text.specs.declared.keywords.Keyword.{Keyword}
use Rattle.formula_text.specs.declared.keywords.Keyword.TheVariants as K
use Rattle.formula_text.specs.Keywords.{keyword_text}
use Rattle.formula_text.specs.Bindings.{Bindings}
use Rattle.formula_text.specs.Grammar.{group, SpellsExp, SpellsMem, SpellsForm}
use Rattle.formula_text.proofs.Closed.{spelled_closed}
use Rattle.pcc_asm.specs.Inside.Views.{IsEncodableForm}
use Rattle.pcc_asm.proofs.Ranges.{IsTextual}
use Rattle.word_ops.specs.declared.Profile.{Profile}

-- how many bytes the tokens have
abbrev pub size : List (Token Paren) → ℕ
size [] = 0
size (t ∷ ts) = token_length t + size ts

pub size-append : (us vs : List (Token Paren)) → size (us ++ vs) ≡ size us + size vs
size-append [] vs = omega arith
size-append (u ∷ us) vs = let h = size-append us vs in omega (arith, h)

pub size-group : (k : Keyword) (ts : List (Token Paren)) → size (group k ts) ≡ 2 + (length (keyword_text k) + size ts)
size-group k ts = let h = size-append ts (Mark P.Close ∷ []) in omega (arith, h)

pub size-two : (k : Keyword) (us vs ts : List (Token Paren)) → ts ≡ group k (us ++ vs) → size ts ≡ 2 + (length (keyword_text k) + (size us + size vs))
size-two k us vs ts e = let h = size-append us vs in ap size e ∙ size-group k (us ++ vs) ∙ ap (λ n. 2 + (length (keyword_text k) + n)) h

pub size-one : (k : Keyword) (us ts : List (Token Paren)) → ts ≡ group k us → size ts ≡ 2 + (length (keyword_text k) + size us)
size-one k us ts e = ap size e ∙ size-group k us

pub size-within : (text : List ℕ) (ts : List (Token Paren)) → Consists paren_class text ts → size ts ≤ length text
size-within text ts (nothing) = omega arith
size-within text ts (blank c h) = let k = size-within _ _ h in omega (arith, k)
size-within text ts (mark c h) = let k = size-within _ _ h in omega (arith, k)
size-within text ts (lexeme {w = w} {bs = bs} l g h) = let k = size-within _ _ h in let a = length-append w bs in omega (arith, k, a)

high : (a b n : ℕ) → a ≤ 1 + n → b ≤ 1 + n → max a b ≤ 1 + n
high a b n h g = omega (arith, h, g)

mutual
  exp_high : (prof : Profile) (left : Bool) (a : Exp) (s : Bindings) (ts : List (Token Paren))
      → SpellsExp prof left a s ts → exp_height a ≤ 1 + size ts
  exp_high prof left (EReg r) s ts h = omega arith
  exp_high prof left ELeft s ts h = omega arith
  exp_high prof left (EVar n) s ts h = omega arith
  exp_high prof left (ELit n) s ts h = omega arith
  exp_high prof left (EOp o a b) s ts h =
      let z = size-two (K.Oper o) h.0 h.1 ts h.4 in
      let l = exp_high prof left a s h.0 h.2 in
      let r = exp_high prof left b s h.1 h.3 in
      omega (arith, z, l, r)
  exp_high prof left (ESel m a) s ts h =
      let z = size-two K.Sel h.0 h.1 ts h.4 in
      let l = mem_high prof left m s h.0 h.2 in
      let r = exp_high prof left a s h.1 h.3 in
      omega (arith, z, l, r)

  mem_high : (prof : Profile) (left : Bool) (m : MemExp) (s : Bindings) (ts : List (Token Paren))
      → SpellsMem prof left m s ts → mem_height m ≤ 1 + size ts
  mem_high prof left MMem s ts h = omega arith
  mem_high prof left (MVar n) s ts h = omega arith
  mem_high prof left (MUpd m a v) s ts h =
      let y = size-append h.0 h.1 in
      let z = size-two K.Upd (h.0 ++ h.1) h.2 ts h.6 in
      let l = mem_high prof left m s h.0 h.3 in
      let r = exp_high prof left a s h.1 h.4 in
      let w = exp_high prof left v s h.2 h.5 in
      omega (arith, y, z, l, r, w)

form_high : (prof : Profile) (left : Bool) (F : Form) (s : Bindings) (ts : List (Token Paren))
    → SpellsForm prof left F s ts → form_height F ≤ 1 + size ts
form_high prof left FTrue s ts h = omega arith
form_high prof left FFalse s ts h = omega arith
form_high prof left (FRel p a b) s ts h =
    let z = size-two (K.Rel p) h.0 h.1 ts h.4 in
    let l = exp_high prof left a s h.0 h.2 in
    let r = exp_high prof left b s h.1 h.3 in
    omega (arith, z, l, r)
form_high prof left (FRd a) s ts h =
    let z = size-one K.Rd h.0 ts h.2 in let l = exp_high prof left a s h.0 h.1 in omega (arith, z, l)
form_high prof left (FWr a) s ts h =
    let z = size-one K.Wr h.0 ts h.2 in let l = exp_high prof left a s h.0 h.1 in omega (arith, z, l)
form_high prof left (FAnd A B) s ts h =
    let z = size-two K.And h.0 h.1 ts h.4 in
    let l = form_high prof left A s h.0 h.2 in
    let r = form_high prof left B s h.1 h.3 in
    omega (arith, z, l, r)
form_high prof left (FOr A B) s ts h =
    let z = size-two K.Or h.0 h.1 ts h.4 in
    let l = form_high prof left A s h.0 h.2 in
    let r = form_high prof left B s h.1 h.3 in
    omega (arith, z, l, r)
form_high prof left (FImp A B) s ts h =
    let z = size-two K.Imp h.0 h.1 ts h.4 in
    let l = form_high prof left A s h.0 h.2 in
    let r = form_high prof left B s h.1 h.3 in
    omega (arith, z, l, r)
form_high prof left (FAll A) s ts h =
    let z = size-one K.All (Lexeme h.0 ∷ h.1) ts h.4 in let l = form_high prof left A ((h.0, S.Exp) ∷ s)
    h.1 h.3 in omega (arith, z, l)
form_high prof left (FAllm A) s ts h =
    let z = size-one K.Allm (Lexeme h.0 ∷ h.1) ts h.4 in let l = form_high prof left A ((h.0, S.Mem) ∷ s)
    h.1 h.3 in omega (arith, z, l)

pub textual_closed : (prof : Profile) (left : Bool) (F : Form) → IsTextual prof left F → IsEncodableForm left F
textual_closed prof left F h =
    let k = form_high prof left F [] h.2.tokens h.2.spelled in
    let w = size-within h.0 h.2.tokens h.2.consists in
    (spelled_closed prof left h.0 F h.2, omega (arith, k, w, h.1))
