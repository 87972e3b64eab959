-- A spelled formula names registers below 32 and variables that it binds.
use Rattle.std.proofs.Common.{◌≡◌, ℕ, suc, ◌<◌, Bool, true, false, cond, List, [], ◌∷◌, Option, Some, None, refl, subst, arith}
use Rattle.std.specs.Str.{bytes_eq}
use Rattle.std.specs.Option.{option_map}
use Rattle.std.proofs.lemmas.Option.{slice_get_within}
use Rattle.formula_tree.specs.Formulas.{Exp, EReg, ELeft, EVar, ELit, EOp, ESel, MemExp, MMem, MVar, MUpd, Form, FTrue, FFalse, FRel, FRd, FWr, FAnd, FOr, FImp, FAll, FAllm}
use Rattle.formula_tree.specs.Scope.{VarSort, OfWord, OfMem, OfProof, sort_at, IsWithinExp, IsWithinMem, IsWithin}
use Rattle.text_tokens.specs.declared.parens.Paren.{Paren}
use Rattle.text_tokens.specs.Tokens.{Token}
use Rattle.text_tokens.specs.Registers.{registers, IsRegister}
use Rattle.text_tokens.proofs.Known.{length-registers}
use Rattle.formula_text.specs.declared.keywords.PhraseSort.{PhraseSort}
use Rattle.formula_text.specs.declared.keywords.PhraseSort.TheVariants as S
use Rattle.formula_text.specs.Bindings.{Bindings, nearest_binding}
use Rattle.formula_text.specs.Grammar.{SpellsExp, SpellsMem, SpellsForm, Spells}
use Rattle.word_ops.specs.declared.Profile.{Profile}
use Rattle.word_ops.specs.declared.Op.{Op}
use Rattle.word_ops.specs.Operators.{has_op}
use Rattle.formula_tree.specs.Operators.{UsesExp, UsesMem, Uses}

module _ (profile : Profile) (left : Bool) where
  abbrev var_sort : PhraseSort → VarSort
  var_sort S.Exp = OfWord
  var_sort S.Mem = OfMem
  var_sort S.Form = OfProof

  -- what bound names stand for
  abbrev sorts_of : Bindings → List VarSort
  sorts_of [] = []
  sorts_of (b ∷ bs) = var_sort b.1 ∷ sorts_of bs

  abbrev HasSort : List VarSort → ℕ × PhraseSort → Type 0
  HasSort q p = sort_at q p.0 ≡ Some (var_sort p.1)

  some_same : {A : Type 0} (x y : A) → Some x ≡ Some y → x ≡ y
  some_same x y e = cc

  binding_by : (b : List ℕ × PhraseSort) (bs : Bindings) (p : ℕ × PhraseSort) (t : Bool) (o : Option (ℕ × PhraseSort)) → cond t (Some (0, b.1)) (option_map (λ p. (suc p.0, p.1)) o) ≡ Some p →
      ((q : ℕ × PhraseSort) → o ≡ Some q → HasSort (sorts_of bs) q) → HasSort (sorts_of (b ∷ bs)) p
  binding_by b bs p true o e g = subst (λ y. HasSort (sorts_of (b ∷ bs)) y) (some_same (0, b.1) p e) refl
  binding_by b bs p false None e g = cc
  binding_by b bs p false (Some q) e g = subst (λ y. HasSort (sorts_of (b ∷ bs)) y) (some_same (suc q.0, q.1) p e) (g q refl)

  binding_sort : (s : Bindings) (x : List ℕ) (p : ℕ × PhraseSort) → nearest_binding s x ≡ Some p → HasSort (sorts_of s) p
  binding_sort [] x p e = cc
  binding_sort (b ∷ bs) x p e = binding_by b bs p (bytes_eq b.0 x) (nearest_binding bs x) e (λ q f. binding_sort bs x q f)

  register_below : (r : ℕ) (w : List ℕ) → IsRegister r w → r < 32
  register_below r w h = let l = slice_get_within registers r h.0 h.1 in omega (arith, l, length-registers)

  mutual
    exp_closed : (a : Exp) (s : Bindings) (ts : List (Token Paren)) → SpellsExp profile left a s ts → IsWithinExp left 32 a (sorts_of s)
    exp_closed (EReg r) s ts h = register_below r h.0 h.1
    exp_closed ELeft s ts h = h.0
    exp_closed (EVar n) s ts h = binding_sort s h.0 (n, S.Exp) h.2
    exp_closed (ELit n) s ts h = h.2
    exp_closed (EOp o a b) s ts h = (exp_closed a s h.0 h.2, exp_closed b s h.1 h.3)
    exp_closed (ESel m a) s ts h = (mem_closed m s h.0 h.2, exp_closed a s h.1 h.3)

    mem_closed : (m : MemExp) (s : Bindings) (ts : List (Token Paren)) → SpellsMem profile left m s ts → IsWithinMem left 32 m (sorts_of s)
    mem_closed MMem s ts h = omega arith
    mem_closed (MVar n) s ts h = binding_sort s h.0 (n, S.Mem) h.2
    mem_closed (MUpd m a v) s ts h = (mem_closed m s h.0 h.3, exp_closed a s h.1 h.4, exp_closed v s h.2 h.5)

  form_closed : (A : Form) (s : Bindings) (ts : List (Token Paren)) → SpellsForm profile left A s ts → IsWithin left 32 A (sorts_of s)
  form_closed FTrue s ts h = tt
  form_closed FFalse s ts h = tt
  form_closed (FRel p a b) s ts h = (exp_closed a s h.0 h.2, exp_closed b s h.1 h.3)
  form_closed (FRd a) s ts h = exp_closed a s h.0 h.1
  form_closed (FWr a) s ts h = exp_closed a s h.0 h.1
  form_closed (FAnd A B) s ts h = (form_closed A s h.0 h.2, form_closed B s h.1 h.3)
  form_closed (FOr A B) s ts h = (form_closed A s h.0 h.2, form_closed B s h.1 h.3)
  form_closed (FImp A B) s ts h = (form_closed A s h.0 h.2, form_closed B s h.1 h.3)
  form_closed (FAll A) s ts h = form_closed A ((h.0, S.Exp) ∷ s) h.1 h.3
  form_closed (FAllm A) s ts h = form_closed A ((h.0, S.Mem) ∷ s) h.1 h.3

  pub spelled_closed : (text : List ℕ) (f : Form) → Spells profile left text f → IsWithin left 32 f []
  spelled_closed text f h = form_closed f [] h.tokens h.spelled

  -- the profile has the operator
  abbrev Had : Op → Type 0
  Had o = has_op profile o ≡ true

  mutual
    exp_uses : (a : Exp) (s : Bindings) (ts : List (Token Paren)) → SpellsExp profile left a s ts → UsesExp Had a
    exp_uses (EReg r) s ts h = tt
    exp_uses ELeft s ts h = tt
    exp_uses (EVar n) s ts h = tt
    exp_uses (ELit n) s ts h = tt
    exp_uses (EOp o a b) s ts h = (h.5, exp_uses a s h.0 h.2, exp_uses b s h.1 h.3)
    exp_uses (ESel m a) s ts h = (mem_uses m s h.0 h.2, exp_uses a s h.1 h.3)

    mem_uses : (m : MemExp) (s : Bindings) (ts : List (Token Paren)) → SpellsMem profile left m s ts → UsesMem Had m
    mem_uses MMem s ts h = tt
    mem_uses (MVar n) s ts h = tt
    mem_uses (MUpd m a v) s ts h = (mem_uses m s h.0 h.3, exp_uses a s h.1 h.4, exp_uses v s h.2 h.5)

  form_uses : (A : Form) (s : Bindings) (ts : List (Token Paren)) → SpellsForm profile left A s ts → Uses Had A
  form_uses FTrue s ts h = tt
  form_uses FFalse s ts h = tt
  form_uses (FRel p a b) s ts h = (exp_uses a s h.0 h.2, exp_uses b s h.1 h.3)
  form_uses (FRd a) s ts h = exp_uses a s h.0 h.1
  form_uses (FWr a) s ts h = exp_uses a s h.0 h.1
  form_uses (FAnd A B) s ts h = (form_uses A s h.0 h.2, form_uses B s h.1 h.3)
  form_uses (FOr A B) s ts h = (form_uses A s h.0 h.2, form_uses B s h.1 h.3)
  form_uses (FImp A B) s ts h = (form_uses A s h.0 h.2, form_uses B s h.1 h.3)
  form_uses (FAll A) s ts h = form_uses A ((h.0, S.Exp) ∷ s) h.1 h.3
  form_uses (FAllm A) s ts h = form_uses A ((h.0, S.Mem) ∷ s) h.1 h.3

  pub spelled_uses : (text : List ℕ) (f : Form) → Spells profile left text f → Uses Had f
  spelled_uses text f h = form_uses f [] h.tokens h.spelled
