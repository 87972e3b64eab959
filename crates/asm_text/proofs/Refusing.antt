-- Tokens behind a mnemonic aren't parsed exactly where they are no operands of it.
use Rattle.std.proofs.Common.{◌≡◌, ◌⊎◌, ⊎_elim, inl, inr, ℕ, ◌<◌, Bool, true, false, cond, List, [], ◌∷◌, Option, Some, None, Result, Ok, Err, refl, sym, ap, ◌∙◌, subst, arith}
use Rattle.std.specs.Prelude.{◌==◌, is_some, nat_le, nat_lt, ℤ, pos}
use Rattle.word_ops.specs.declared.Op.{Op}
use Rattle.alpha_words.specs.Formats.{memory_insn}
use Rattle.alpha_words.specs.declared.conditions.Cond.{Cond}
use Rattle.alpha_words.specs.declared.insn.Insn.TheVariants as I
use Rattle.alpha_words.specs.declared.insn.Rhs.TheVariants as R
use Rattle.text_tokens.specs.Tokens.{Token, Mark, Lexeme}
use Rattle.text_tokens.specs.Registers.{register_of}
use Rattle.term_table.specs.Steps.{◌>>=◌}
use Rattle.asm_text.specs.declared.fault.LineFlaw.{LineFlaw}
use Rattle.asm_text.specs.declared.fault.LineFlaw.TheVariants as L
use Rattle.asm_text.specs.declared.marks.Punct.{Punct}
use Rattle.asm_text.specs.declared.marks.Punct.TheVariants as M
use Rattle.asm_text.specs.declared.mnemonics.Mnemonic.{Mnemonic}
use Rattle.asm_text.specs.declared.mnemonics.Mnemonic.TheVariants as N
use Rattle.asm_text.specs.Marks.{same_mark}
use Rattle.asm_text.specs.Labels.{is_label}
use Rattle.asm_text.specs.Integers.{Integer, lexeme_integer, is_integer, integer_value}
use Rattle.asm_text.specs.Insns.{SourceInsn, Plain, BranchTo, BrTo}
use Rattle.asm_text.specs.InsnParsing.{next_lexeme, behind, at_end, displacement_at, memory_form, operate_form, last_label, branch_form, label_form, integer_or_flaw, return_form, some_register, register_at, fixed_register, is_displacement, in_displacement, displacement_of, in_count, count_of, memory_operands, rhs_by, parsed_operate, parsed_branch, br_by, parsed_br, parsed_return, nop, parsed_operands}
use Rattle.asm_text.specs.Operands.{Operand, ARegister, TheRegister, ADisplacement, ARhs, ACount, HasMemoryForm, HasOperateForm, HasBranchForm, HasBrForm, HasReturnForm, HasOperandForm, IsRightOperand, operand_flaw, FirstWrong, AreNoOperands}
use Rattle.asm_text.proofs.Operands as parse

same_Err : {A : Type 0} (j k : LineFlaw) → ◌≡◌ {A = Result A LineFlaw} (Err j) (Err k) → j ≡ k
same_Err j k e = cc

differ : {A : Type 0} (r : Result A LineFlaw) (x : A) (k : LineFlaw) → r ≡ Ok x → r ≡ Err k → ⊥
differ r x k e f = cc

-- ---- forms

-- what isn't given is told as Operand
abbrev ByForm : {A : Type 0} → Result A LineFlaw → Type 0
ByForm r = (k : LineFlaw) → r ≡ Err k → L.Operand ≡ k

form_bind : {A B : Type 0} (r : Result A LineFlaw) (f : A → Result B LineFlaw) → ByForm r → ((x : A) → ByForm (f x)) → ByForm (r >>= f)
form_bind (Ok x) f h g k e = g x k e
form_bind (Err j) f h g k e = h k (ap Err (same_Err j k e))

form_ok : {A : Type 0} (x : A) → ByForm (Ok x)
form_ok x k e = cc

form_test : {A : Type 0} (t : Bool) (x : A) → ByForm (cond t (Ok x) (Err L.Operand))
form_test true x k e = cc
form_test false x k e = same_Err _ _ e

test_kind : {A : Type 0} (t : Bool) (x : A) (j k : LineFlaw) → cond t (Ok x) (Err j) ≡ Err k → j ≡ k
test_kind true x j k e = cc
test_kind false x j k e = same_Err _ _ e

form_lexeme : (ts : List (Token Punct)) → ByForm (next_lexeme ts)
form_lexeme [] k e = same_Err _ _ e
form_lexeme (Mark m ∷ ts) k e = same_Err _ _ e
form_lexeme (Lexeme w ∷ ts) k e = cc

form_behind : (m : Punct) (ts : List (Token Punct)) → ByForm (behind m ts)
form_behind m [] k e = same_Err _ _ e
form_behind m (Lexeme w ∷ ts) k e = same_Err _ _ e
form_behind m (Mark j ∷ ts) k e = form_test (same_mark j m) ts k e

form_end : {A : Type 0} (x : A) (ts : List (Token Punct)) → ByForm (at_end x ts)
form_end x [] k e = cc
form_end x (t ∷ ts) k e = same_Err _ _ e

form_displacement : (ts : List (Token Punct)) → ByForm (displacement_at ts)
form_displacement [] k e = cc
form_displacement (Mark m ∷ ts) k e = cc
form_displacement (Lexeme w ∷ ts) k e = form_test (is_integer w) (Some w, ts) k e

form_label_by : (t : Bool) (x : List ℕ) (ts : List (Token Punct)) → ByForm (cond t (at_end x ts) (Err L.Operand))
form_label_by true x ts k e = form_end x ts k e
form_label_by false x ts k e = same_Err _ _ e

form_label : (l : List ℕ × List (Token Punct)) → ByForm (last_label l)
form_label l = form_label_by (is_label l.0) l.0 l.1

memory_by_form : (ts : List (Token Punct)) → ByForm (memory_form ts)
unfolding memory_form
memory_by_form ts =
    form_bind (next_lexeme ts) _ (form_lexeme ts) (λ x. form_bind (behind M.Comma x.1) _ (form_behind M.Comma x.1)
    (λ a. form_bind (displacement_at a) _ (form_displacement a) (λ d. form_bind (behind M.Open d.1) _ (form_behind M.Open d.1)
    (λ b. form_bind (next_lexeme b) _ (form_lexeme b) (λ y. form_bind (behind M.Close y.1) _ (form_behind M.Close y.1)
    (λ c. form_end (x.0, d.0, y.0) c))))))

operate_by_form : (ts : List (Token Punct)) → ByForm (operate_form ts)
unfolding operate_form
operate_by_form ts =
    form_bind (next_lexeme ts) _ (form_lexeme ts) (λ x. form_bind (behind M.Comma x.1) _ (form_behind M.Comma x.1)
    (λ a. form_bind (next_lexeme a) _ (form_lexeme a) (λ y. form_bind (behind M.Comma y.1) _ (form_behind M.Comma y.1)
    (λ b. form_bind (next_lexeme b) _ (form_lexeme b) (λ z. form_end (x.0, y.0, z.0) z.1)))))

branch_by_form : (ts : List (Token Punct)) → ByForm (branch_form ts)
unfolding branch_form
branch_by_form ts =
    form_bind (next_lexeme ts) _ (form_lexeme ts) (λ x. form_bind (behind M.Comma x.1) _ (form_behind M.Comma x.1)
    (λ a. form_bind (next_lexeme a) _ (form_lexeme a) (λ l. form_bind (last_label l) _ (form_label l) (λ y. form_ok (x.0, y)))))

label_by_form : (ts : List (Token Punct)) → ByForm (label_form ts)
unfolding label_form
label_by_form ts =
    form_bind (behind M.Comma ts) _ (form_behind M.Comma ts) (λ a. form_bind (next_lexeme a) _ (form_lexeme a) (λ l. form_label l))

return_by_form : (ts : List (Token Punct)) → ByForm (return_form ts)
unfolding return_form
return_by_form ts =
    form_bind (next_lexeme ts) _ (form_lexeme ts) (λ x. form_bind (behind M.Comma x.1) _ (form_behind M.Comma x.1)
    (λ a. form_bind (behind M.Open a) _ (form_behind M.Open a) (λ b. form_bind (next_lexeme b) _ (form_lexeme b)
    (λ y. form_bind (behind M.Close y.1) _ (form_behind M.Close y.1) (λ c. form_bind (behind M.Comma c) _ (form_behind M.Comma c)
    (λ d. form_bind (next_lexeme d) _ (form_lexeme d) (λ n. form_bind (integer_or_flaw n.0) _ (form_test (is_integer n.0) n.0)
    (λ w. form_end (x.0, y.0, w) n.1))))))))

-- ---- operands

-- the operand is right and given, or wrong and told as its kind
abbrev Judged : {A : Type 0} → Operand → Result A LineFlaw → Type 0
Judged {A = A} o r = ((x : A) × (r ≡ Ok x) × IsRightOperand o) ⊎ ((r ≡ Err (operand_flaw o)) × (IsRightOperand o → ⊥))

judged_by : {A : Type 0} (o : Operand) (r : Result A LineFlaw) → ((x : A) → r ≡ Ok x → IsRightOperand o) → (IsRightOperand o → (x : A) × (r ≡ Ok x)) →
    ((j : LineFlaw) → r ≡ Err j → operand_flaw o ≡ j) → Judged o r
judged_by o (Ok x) f g h = inl (x, refl, f x refl)
judged_by o (Err j) f g h = inr (ap Err (sym (h j refl)), λ i. differ (Err j) (g i).0 j (g i).1 refl)

register_kind : (o : Option ℕ) (j : LineFlaw) → some_register o ≡ Err j → L.Register ≡ j
register_kind None j e = same_Err _ _ e
register_kind (Some r) j e = cc

register_judged : (w : List ℕ) → Judged (ARegister w) (register_at w)
register_judged w =
    judged_by (ARegister w) (register_at w) (λ r e. (r, parse.register_ok w r e)) (λ h. (h.0, parse.register_is_at w h.0 h.1)) (register_kind (register_of w))

fixed_kind : (k : ℕ) (o : Option ℕ) (j : LineFlaw) → (some_register o >>= λ r. cond (r == k) (Ok r) (Err L.Register)) ≡ Err j → L.Register ≡ j
fixed_kind k None j e = same_Err _ _ e
fixed_kind k (Some r) j e = test_kind (r == k) r L.Register j e

fixed_judged : (k : ℕ) (w : List ℕ) → Judged (TheRegister k w) (fixed_register k w)
fixed_judged k w =
    judged_by (TheRegister k w) (fixed_register k w) (λ r e. parse.fixed_ok k w r e) (λ h. (k, parse.fixed_of k w h)) (fixed_kind k (register_of w))

displacement_kind : (o : Option Integer) (j : LineFlaw) → is_some o ≡ true → in_displacement o ≡ Err j → L.Range ≡ j
displacement_kind None j t e = cc
displacement_kind (Some z) j t e = test_kind (is_displacement z) (integer_value z) L.Range j e

displacement_right : (w : List ℕ) (d : ℤ) → displacement_of (Some w) ≡ Ok d → IsRightOperand (ADisplacement w)
displacement_right w d e = let h = parse.in_displacement_ok w (lexeme_integer w) d refl e in (h.0, h.1, h.2)

displacement_judged : (w : List ℕ) → is_integer w ≡ true → Judged (ADisplacement w) (displacement_of (Some w))
displacement_judged w t =
    judged_by (ADisplacement w) (displacement_of (Some w)) (displacement_right w)
    (λ h. (integer_value h.0, parse.in_displacement_of w (integer_value h.0) (h.0, h.1, h.2, refl))) (λ j e. displacement_kind (lexeme_integer w) j t e)

count_kind : (t a b : Bool) (x y : ℕ) (j : LineFlaw) → cond t (cond a (Ok x) (Err L.Range)) (cond b (Ok y) (Err L.Range)) ≡ Err j → L.Range ≡ j
count_kind true a b x y j e = test_kind a x L.Range j e
count_kind false a b x y j e = test_kind b y L.Range j e

in_count_kind : (limit : ℕ) (z : Integer) (j : LineFlaw) → in_count limit z ≡ Err j → L.Range ≡ j
in_count_kind limit z j e = count_kind z.0 (nat_le z.1 0) (nat_lt z.1 limit) 0 z.1 j e

wrap_err : {A B : Type 0} (r : Result A LineFlaw) (f : A → B) (k : LineFlaw) → (r >>= λ x. Ok (f x)) ≡ Err k → r ≡ Err k
wrap_err (Ok x) f k e = cc
wrap_err (Err j) f k e = ap Err (same_Err j k e)

rhs_kind : (y : List ℕ) (o : Option Integer) (j : LineFlaw) → rhs_by y o ≡ Err j → cond (is_some o) L.Range L.Register ≡ j
rhs_kind y None j e = register_kind (register_of y) j (wrap_err (register_at y) (λ r. R.Reg r) j e)
rhs_kind y (Some z) j e = in_count_kind 256 z j (wrap_err (in_count 256 z) (λ n. R.Lit n) j e)

rhs_judged : (y : List ℕ) → Judged (ARhs y) (rhs_by y (lexeme_integer y))
rhs_judged y =
    judged_by (ARhs y) (rhs_by y (lexeme_integer y)) (λ rhs e. (rhs, parse.rhs_ok y rhs (lexeme_integer y) refl e))
    (λ h. (h.0, parse.rhs_of y h.0 h.1)) (λ j e. rhs_kind y (lexeme_integer y) j e)

count_of_kind : (limit : ℕ) (o : Option Integer) (j : LineFlaw) → is_some o ≡ true → count_of limit o ≡ Err j → L.Range ≡ j
count_of_kind limit None j t e = cc
count_of_kind limit (Some z) j t e = in_count_kind limit z j e

count_right : (limit : ℕ) (w : List ℕ) (n : ℕ) → 0 < limit → count_of limit (lexeme_integer w) ≡ Ok n → IsRightOperand (ACount limit w)
count_right limit w n l e = let h = parse.count_ok limit w (lexeme_integer w) n l refl e in (h.0, n, h.1, h.2)

count_judged : (limit : ℕ) (w : List ℕ) → 0 < limit → is_integer w ≡ true → Judged (ACount limit w) (count_of limit (lexeme_integer w))
count_judged limit w l t =
    judged_by (ACount limit w) (count_of limit (lexeme_integer w)) (λ n e. count_right limit w n l e)
    (λ h. (h.1, ap (count_of limit) (parse.integer_found w h.0 h.2) ∙ parse.in_count_of limit h.0 h.1 h.3))
    (λ j e. count_of_kind limit (lexeme_integer w) j t e)

-- ---- operands in turn

-- what is told of the operands is what the first wrong one is told as
abbrev Tells : {A : Type 0} → List Operand → Result A LineFlaw → Type 0
Tells os r = ((k : LineFlaw) → r ≡ Err k → FirstWrong os k) × ((k : LineFlaw) → FirstWrong os k → r ≡ Err k)

turn_fails : {A B : Type 0} (o : Operand) (os : List Operand) (r : Result A LineFlaw) (f : A → Result B LineFlaw) (k : LineFlaw) → Judged o r →
    ((x : A) → Tells os (f x)) → (r >>= f) ≡ Err k → FirstWrong (o ∷ os) k
turn_fails o os r f k j g e =
    ⊎_elim (λ a. inr (a.2, (g a.0).0 k (ap (λ q. q >>= f) (sym a.1) ∙ e)))
    (λ a. inl (a.1, same_Err (operand_flaw o) k (ap (λ q. q >>= f) (sym a.0) ∙ e))) j

fails_turn : {A B : Type 0} (o : Operand) (os : List Operand) (r : Result A LineFlaw) (f : A → Result B LineFlaw) (k : LineFlaw) → Judged o r →
    ((x : A) → Tells os (f x)) → FirstWrong (o ∷ os) k → (r >>= f) ≡ Err k
fails_turn o os r f k j g h =
    ⊎_elim (λ a. ap (λ q. q >>= f) a.1 ∙ ⊎_elim (λ b. absurd (b.0 a.2)) (λ b. (g a.0).1 k b.1) h)
    (λ a. ap (λ q. q >>= f) a.0 ∙ ⊎_elim (λ b. ap Err b.1) (λ b. absurd (a.1 b.0)) h) j

turn : {A B : Type 0} (o : Operand) (os : List Operand) (r : Result A LineFlaw) (f : A → Result B LineFlaw) → Judged o r → ((x : A) → Tells os (f x)) →
    Tells (o ∷ os) (r >>= f)
turn o os r f j g = (λ k e. turn_fails o os r f k j g e, λ k h. fails_turn o os r f k j g h)

all_given : {A : Type 0} (x : A) → Tells [] (Ok x)
all_given x = (λ k e. cc, λ k h. absurd h)

-- ---- a form with what follows

-- no operands have the form, or the first wrong one is told
abbrev NoOperands : (List Operand → Type 0) → LineFlaw → Type 0
NoOperands P k = (((os : List Operand) → P os → ⊥) × (L.Operand ≡ k)) ⊎ ((os : List Operand) × P os × FirstWrong os k)

-- a form is found exactly where the tokens have it, and what follows tells of its operands
record Scheme {F B : Type 0} (form : Result F LineFlaw) (tail : F → Result B LineFlaw) (P : List Operand → Type 0) : Type 0 where
  by : ByForm form
  has : (g : F) → form ≡ Ok g → (os : List Operand) × P os × Tells os (tail g)
  is : (os : List Operand) → P os → (g : F) × (form ≡ Ok g) × Tells os (tail g)

scheme_fails : {F B : Type 0} (form : Result F LineFlaw) (tail : F → Result B LineFlaw) (P : List Operand → Type 0) (k : LineFlaw)
    (r : Result F LineFlaw) → Scheme form tail P → form ≡ r → (r >>= tail) ≡ Err k → NoOperands P k
scheme_fails form tail P k (Ok g) s f e = let h = s.has g f in inr (h.0, h.1, h.2.0 k e)
scheme_fails form tail P k (Err j) s f e = inl (λ os h. let g = s.is os h in differ form g.0 j g.1 f, s.by j f ∙ same_Err j k e)

scheme_none : {F B : Type 0} (form : Result F LineFlaw) (tail : F → Result B LineFlaw) (P : List Operand → Type 0) (k : LineFlaw) (r : Result F LineFlaw) →
    Scheme form tail P → form ≡ r → ((os : List Operand) → P os → ⊥) → L.Operand ≡ k → (r >>= tail) ≡ Err k
scheme_none form tail P k (Ok g) s f h e = let a = s.has g f in absurd (h a.0 a.1)
scheme_none form tail P k (Err j) s f h e = ap Err (sym (s.by j f) ∙ e)

-- the tokens are refused exactly where they are no operands
abbrev Refuses : {B : Type 0} → (List Operand → Type 0) → Result B LineFlaw → Type 0
Refuses P r = ((k : LineFlaw) → r ≡ Err k → NoOperands P k) × ((k : LineFlaw) → NoOperands P k → r ≡ Err k)

scheme : {F B : Type 0} (form : Result F LineFlaw) (tail : F → Result B LineFlaw) (P : List Operand → Type 0) → Scheme form tail P → Refuses P (form >>= tail)
scheme form tail P s = (
  λ k e. scheme_fails form tail P k form s refl e,
  λ k h. ⊎_elim (λ a. scheme_none form tail P k form s refl a.0 a.1) (λ a. let g = s.is a.0 a.1 in ap (λ q. q >>= tail) g.1 ∙ g.2.1 k a.2) h,
)

wrapped : {A B : Type 0} (P : List Operand → Type 0) (r : Result A LineFlaw) (f : A → B) → Refuses P r → Refuses P (r >>= λ x. Ok (f x))
wrapped P r f h = (λ k e. h.0 k (wrap_err r f k e), λ k g. ap (λ q. q >>= λ x. Ok (f x)) (h.1 k g))

tells_as : {A : Type 0} (os us : List Operand) (r : Result A LineFlaw) → us ≡ os → Tells os r → Tells us r
tells_as os us r e h = subst (λ l. Tells l r) (sym e) h

-- ---- each form

abbrev memory_tail : List ℕ × Option (List ℕ) × List ℕ → Result (ℕ × ℤ × ℕ) LineFlaw
memory_tail f = register_at f.0 >>= λ ra. displacement_of f.1 >>= λ disp. register_at f.2 >>= λ rb. Ok (ra, disp, rb)

short_tells : (x y : List ℕ) → Tells (ARegister x ∷ ARegister y ∷ []) (memory_tail (x, None, y))
short_tells x y =
    turn (ARegister x) (ARegister y ∷ []) (register_at x) (λ ra. register_at y >>= λ rb. Ok (ra, pos 0, rb)) (register_judged x)
    (λ ra. turn (ARegister y) [] (register_at y) (λ rb. Ok (ra, pos 0, rb)) (register_judged y) (λ rb. all_given (ra, pos 0, rb)))

long_tells : (x d y : List ℕ) → is_integer d ≡ true → Tells (ARegister x ∷ ADisplacement d ∷ ARegister y ∷ []) (memory_tail (x, Some d, y))
long_tells x d y t =
    turn (ARegister x) (ADisplacement d ∷ ARegister y ∷ []) (register_at x)
    (λ ra. displacement_of (Some d) >>= λ disp. register_at y >>= λ rb. Ok (ra, disp, rb))
    (register_judged x)
    (λ ra. turn (ADisplacement d) (ARegister y ∷ []) (displacement_of (Some d)) (λ disp. register_at y >>= λ rb. Ok (ra, disp, rb)) (displacement_judged d t)
    (λ disp. turn (ARegister y) [] (register_at y) (λ rb. Ok (ra, disp, rb)) (register_judged y) (λ rb. all_given (ra, disp, rb))))

integer_there : (x y d : List ℕ) (g : List ℕ × Option (List ℕ) × List ℕ) →
    memory_form (Lexeme x ∷ Mark M.Comma ∷ Lexeme d ∷ Mark M.Open ∷ Lexeme y ∷ Mark M.Close ∷ []) ≡ Ok g → is_integer d ≡ true
unfolding memory_form
integer_there x y d g e =
    let b = parse.bind_ok (displacement_at (Lexeme d ∷ Mark M.Open ∷ Lexeme y ∷ Mark M.Close ∷ [])) _ g e in
    (parse.if_ok (is_integer d) (Some d, Mark M.Open ∷ Lexeme y ∷ Mark M.Close ∷ []) b.0 L.Operand b.1).0

memory_has : (ts : List (Token Punct)) (g : List ℕ × Option (List ℕ) × List ℕ) → memory_form ts ≡ Ok g →
    (os : List Operand) × HasMemoryForm os ts × Tells os (memory_tail g)
memory_has ts g e =
    ⊎_elim
    (λ p. (
      ARegister g.0 ∷ ARegister g.2 ∷ [],
      (g.0, g.2, inl (refl, p.1)),
      subst (λ o. Tells (ARegister g.0 ∷ ARegister g.2 ∷ []) (memory_tail (g.0, o, g.2))) (sym p.0) (short_tells g.0 g.2),
    ))
    (λ p. let t = integer_there g.0 g.2 p.0 g (ap memory_form (sym p.2) ∙ e) in (
      ARegister g.0 ∷ ADisplacement p.0 ∷ ARegister g.2 ∷ [],
      (g.0, g.2, inr (p.0, t, refl, p.2)),
      subst (λ o. Tells (ARegister g.0 ∷ ADisplacement p.0 ∷ ARegister g.2 ∷ []) (memory_tail (g.0, o, g.2))) (sym p.1) (long_tells g.0 p.0 g.2 t),
    ))
    (parse.memory_form_ok ts g e)

memory_is : (ts : List (Token Punct)) (os : List Operand) → HasMemoryForm os ts →
    (g : List ℕ × Option (List ℕ) × List ℕ) × (memory_form ts ≡ Ok g) × Tells os (memory_tail g)
memory_is ts os h =
    ⊎_elim
    (λ p. ((h.0, None, h.1), ap memory_form p.1 ∙ parse.memory_form_short h.0 h.1, tells_as _ os _ p.0 (short_tells h.0 h.1)))
    (λ p. ((h.0, Some p.0, h.1), ap memory_form p.3 ∙ parse.memory_form_long h.0 h.1 p.0 p.1, tells_as _ os _ p.2 (long_tells h.0 p.0 h.1 p.1)))
    h.2

memory_refuses : (ts : List (Token Punct)) → Refuses (λ os. HasMemoryForm os ts) (memory_operands ts)
unfolding memory_operands
memory_refuses ts = scheme (memory_form ts) memory_tail (λ os. HasMemoryForm os ts) (record { by = memory_by_form ts; has = memory_has ts; is = memory_is ts })

abbrev operate_tail : Op → List ℕ × List ℕ × List ℕ → Result SourceInsn LineFlaw
operate_tail op f = register_at f.0 >>= λ ra. rhs_by f.1 (lexeme_integer f.1) >>= λ rhs. register_at f.2 >>= λ rc. Ok (Plain (I.Oper op ra rhs rc))

operate_tells : (op : Op) (f : List ℕ × List ℕ × List ℕ) → Tells (ARegister f.0 ∷ ARhs f.1 ∷ ARegister f.2 ∷ []) (operate_tail op f)
operate_tells op f =
    turn (ARegister f.0) (ARhs f.1 ∷ ARegister f.2 ∷ []) (register_at f.0)
    (λ ra. rhs_by f.1 (lexeme_integer f.1) >>= λ rhs. register_at f.2 >>= λ rc. Ok (Plain (I.Oper op ra rhs rc))) (register_judged f.0)
    (λ ra. turn (ARhs f.1) (ARegister f.2 ∷ []) (rhs_by f.1 (lexeme_integer f.1))
    (λ rhs. register_at f.2 >>= λ rc. Ok (Plain (I.Oper op ra rhs rc))) (rhs_judged f.1)
    (λ rhs. turn (ARegister f.2) [] (register_at f.2) (λ rc. Ok (Plain (I.Oper op ra rhs rc))) (register_judged f.2)
    (λ rc. all_given (Plain (I.Oper op ra rhs rc)))))

operate_refuses : (op : Op) (ts : List (Token Punct)) → Refuses (λ os. HasOperateForm os ts) (parsed_operate op ts)
unfolding parsed_operate
operate_refuses op ts = scheme (operate_form ts) (operate_tail op) (λ os. HasOperateForm os ts) (record {
  by = operate_by_form ts;
  has = λ g e. (ARegister g.0 ∷ ARhs g.1 ∷ ARegister g.2 ∷ [], (g.0, g.1, g.2, refl, parse.operate_form_ok ts g e), operate_tells op g);
  is = λ os h. ((h.0, h.1, h.2), ap operate_form h.4 ∙ parse.operate_form_of h.0 h.1 h.2, tells_as _ os _ h.3 (operate_tells op (h.0, h.1, h.2)));
})

abbrev branch_tail : Cond → List ℕ × List ℕ → Result SourceInsn LineFlaw
branch_tail j f = register_at f.0 >>= λ ra. Ok (BranchTo j ra f.1)

branch_tells : (j : Cond) (f : List ℕ × List ℕ) → Tells (ARegister f.0 ∷ []) (branch_tail j f)
branch_tells j f = turn (ARegister f.0) [] (register_at f.0) (λ ra. Ok (BranchTo j ra f.1)) (register_judged f.0) (λ ra. all_given (BranchTo j ra f.1))

branch_form_ok : (ts : List (Token Punct)) (f : List ℕ × List ℕ) → branch_form ts ≡ Ok f →
    (is_label f.1 ≡ true) × (ts ≡ Lexeme f.0 ∷ Mark M.Comma ∷ Lexeme f.1 ∷ [])
unfolding branch_form
branch_form_ok ts f e =
    let p = parse.bind_ok (next_lexeme ts) _ f e in
    let q = parse.bind_ok (behind M.Comma p.0.1) _ f p.2 in
    let r = parse.bind_ok (next_lexeme q.0) _ f q.2 in
    let s = parse.bind_ok (last_label r.0) _ f r.2 in
    let l = parse.label_ok r.0 s.0 s.1 in
    let same : (p.0.0, s.0) ≡ f = parse.same_Ok _ _ s.2 in (
      subst (λ y. is_label y.1 ≡ true) same l.0,
      parse.lexeme_ok ts p.0 p.1 ∙ ap (λ y. Lexeme p.0.0 ∷ y)
          (parse.behind_ok M.Comma p.0.1 q.0 q.1 ∙ ap (λ y. Mark M.Comma ∷ y) (parse.lexeme_ok q.0 r.0 r.1 ∙ ap (λ y. Lexeme y.0 ∷ y.1) l.1))
          ∙ ap (λ y. Lexeme y.0 ∷ Mark M.Comma ∷ Lexeme y.1 ∷ []) same,
    )

branch_form_of : (x l : List ℕ) → is_label l ≡ true → branch_form (Lexeme x ∷ Mark M.Comma ∷ Lexeme l ∷ []) ≡ Ok (x, l)
unfolding branch_form
branch_form_of x l e = rw e refl

branch_refuses : (j : Cond) (ts : List (Token Punct)) → Refuses (λ os. HasBranchForm os ts) (parsed_branch j ts)
unfolding parsed_branch
branch_refuses j ts = scheme (branch_form ts) (branch_tail j) (λ os. HasBranchForm os ts) (record {
  by = branch_by_form ts;
  has = λ g e. let h = branch_form_ok ts g e in (ARegister g.0 ∷ [], (g.0, g.1, h.0, refl, h.1), branch_tells j g);
  is = λ os h. ((h.0, h.1), ap branch_form h.4 ∙ branch_form_of h.0 h.1 h.2, tells_as _ os _ h.3 (branch_tells j (h.0, h.1)));
})

-- where no operands have the form
refuses_all : {B : Type 0} (P : List Operand → Type 0) → ((os : List Operand) → P os → ⊥) → Refuses {B = B} P (Err L.Operand)
refuses_all P h = (λ k e. inl (h, same_Err L.Operand k e), λ k g. ⊎_elim (λ a. ap Err a.1) (λ a. absurd (h a.0 a.1)) g)

-- where the form has no operands, and is there
refuses_none : {B : Type 0} (P : List Operand → Type 0) (x : B) → P [] → ((os : List Operand) → P os → os ≡ []) → Refuses P (Ok x)
refuses_none P x h f = (λ k e. cc, λ k g. ⊎_elim (λ a. absurd (a.0 [] h)) (λ a. absurd (subst (λ l. FirstWrong l k) (f a.0 a.1) a.2)) g)

first_same : (x y : Token Punct) (xs ys : List (Token Punct)) → x ∷ xs ≡ y ∷ ys → (x ≡ y) × (xs ≡ ys)
first_same x y xs ys e = (cc, cc)

words_same : (x y : List ℕ) → ◌≡◌ {A = Token Punct} (Lexeme x) (Lexeme y) → x ≡ y
words_same x y e = cc

label_refuses_by : (x : List ℕ) (t : Bool) → is_label x ≡ t →
    Refuses (λ os. HasBrForm os (Lexeme x ∷ [])) (cond t (Ok x) (Err L.Operand) >>= λ l. Ok (BrTo l))
label_refuses_by x true e =
    refuses_none (λ os. HasBrForm os (Lexeme x ∷ [])) (BrTo x) (x, e, inl (refl, refl)) (λ os h. ⊎_elim (λ p. p.0) (λ p. let f = p.2 in cc) h.2)
label_refuses_by x false e = refuses_all (λ os. HasBrForm os (Lexeme x ∷ [])) (λ os h. ⊎_elim
    (λ p. let s : x ≡ h.0 = words_same x h.0 (first_same _ _ _ _ p.1).0 in let f : is_label x ≡ true = ap is_label s ∙ h.1 in cc)
    (λ p. let f = p.2 in cc) h.2)

far_refuses : (x : List ℕ) (m : Punct) (ts : List (Token Punct)) → Refuses (λ os. HasBrForm os (Lexeme x ∷ Mark m ∷ ts)) (br_by x (Mark m ∷ ts))
far_refuses x m ts = scheme (label_form (Mark m ∷ ts)) (λ l. fixed_register 31 x >>= λ r. Ok (BrTo l)) (λ os. HasBrForm os (Lexeme x ∷ Mark m ∷ ts)) (record {
  by = label_by_form (Mark m ∷ ts);
  has = λ l e. let h = parse.label_form_ok (Mark m ∷ ts) l e in (TheRegister 31 x ∷ [], (l, h.0, inr (x, refl, ap (λ y. Lexeme x ∷ y) h.1)), far_tells x l);
  is = λ os h. ⊎_elim
      (λ p. let f = p.1 in cc)
      (λ p. let s = first_same _ _ _ _ p.2 in let w : p.0 ≡ x = words_same p.0 x (sym s.0) in (
        h.0,
        ap label_form s.1 ∙ parse.label_form_of h.0 h.1,
        tells_as (TheRegister 31 x ∷ []) os _
            (p.1 ∙ ap (λ y. TheRegister 31 y ∷ []) w) (far_tells x h.0),
      ))
      h.2;
})
  where
    far_tells : (x l : List ℕ) → Tells (TheRegister 31 x ∷ []) (fixed_register 31 x >>= λ r. Ok (BrTo l))
    far_tells x l = turn (TheRegister 31 x) [] (fixed_register 31 x) (λ r. Ok (BrTo l)) (fixed_judged 31 x) (λ r. all_given (BrTo l))

br_refuses : (ts : List (Token Punct)) → Refuses (λ os. HasBrForm os ts) (parsed_br ts)
unfolding parsed_br
br_refuses [] = refuses_all (λ os. HasBrForm os []) (λ os h. ⊎_elim (λ p. let f = p.1 in cc) (λ p. let f = p.2 in cc) h.2)
br_refuses (Mark m ∷ ts) = refuses_all (λ os. HasBrForm os (Mark m ∷ ts)) (λ os h. ⊎_elim (λ p. let f = p.1 in cc) (λ p. let f = p.2 in cc) h.2)
br_refuses (Lexeme x ∷ []) = label_refuses_by x (is_label x) refl
br_refuses (Lexeme x ∷ Lexeme w ∷ ts) =
    refuses_all (λ os. HasBrForm os (Lexeme x ∷ Lexeme w ∷ ts)) (λ os h. ⊎_elim (λ p. let f = p.1 in cc) (λ p. let f = p.2 in cc) h.2)
br_refuses (Lexeme x ∷ Mark m ∷ ts) = far_refuses x m ts

abbrev return_tail : List ℕ × List ℕ × List ℕ → Result SourceInsn LineFlaw
return_tail f = fixed_register 31 f.0 >>= λ r. fixed_register 26 f.1 >>= λ s. count_of 16384 (lexeme_integer f.2) >>= λ k. Ok (Plain I.Ret)

return_tells : (f : List ℕ × List ℕ × List ℕ) → is_integer f.2 ≡ true →
    Tells (TheRegister 31 f.0 ∷ TheRegister 26 f.1 ∷ ACount 16384 f.2 ∷ []) (return_tail f)
return_tells f t =
    turn (TheRegister 31 f.0) (TheRegister 26 f.1 ∷ ACount 16384 f.2 ∷ []) (fixed_register 31 f.0)
    (λ r. fixed_register 26 f.1 >>= λ s. count_of 16384 (lexeme_integer f.2) >>= λ k. Ok (Plain I.Ret)) (fixed_judged 31 f.0)
    (λ r. turn (TheRegister 26 f.1) (ACount 16384 f.2 ∷ []) (fixed_register 26 f.1)
    (λ s. count_of 16384 (lexeme_integer f.2) >>= λ k. Ok (Plain I.Ret)) (fixed_judged 26 f.1)
    (λ s. turn (ACount 16384 f.2) [] (count_of 16384 (lexeme_integer f.2)) (λ k. Ok (Plain I.Ret))
    (count_judged 16384 f.2 (omega arith) t) (λ k. all_given (Plain I.Ret))))

return_integer : (x y d : List ℕ) (g : List ℕ × List ℕ × List ℕ) →
    return_form (Lexeme x ∷ Mark M.Comma ∷ Mark M.Open ∷ Lexeme y ∷ Mark M.Close ∷ Mark M.Comma ∷ Lexeme d ∷ []) ≡ Ok g → is_integer d ≡ true
unfolding return_form
return_integer x y d g e = let b = parse.bind_ok (integer_or_flaw d) _ g e in (parse.integer_ok d b.0 b.1).0

return_refuses : (ts : List (Token Punct)) → Refuses (λ os. HasReturnForm os ts) (parsed_return ts)
unfolding parsed_return
return_refuses [] = refuses_none (λ os. HasReturnForm os []) (Plain I.Ret) (inl (refl, refl)) (λ os h. ⊎_elim (λ p. p.0) (λ p. let f = p.5 in cc) h)
return_refuses (t ∷ ts) = scheme (return_form (t ∷ ts)) return_tail (λ os. HasReturnForm os (t ∷ ts)) (record {
  by = return_by_form (t ∷ ts);
  has = λ g e. let h = parse.return_form_ok (t ∷ ts) g e in let i = return_integer g.0 g.1 g.2 g (ap return_form (sym h) ∙ e) in
      (TheRegister 31 g.0 ∷ TheRegister 26 g.1 ∷ ACount 16384 g.2 ∷ [], inr (g.0, g.1, g.2, i, refl, h), return_tells g i);
  is = λ os h. ⊎_elim
      (λ p. let f = p.1 in cc)
      (λ p. ((p.0, p.1, p.2), ap return_form p.5 ∙ parse.return_form_of p.0 p.1 p.2 p.3, tells_as _ os _ p.4 (return_tells (p.0, p.1, p.2) p.3)))
      h;
})

nop_refuses : (ts : List (Token Punct)) → Refuses (λ os. HasOperandForm N.Nop os ts) (at_end nop ts)
nop_refuses [] = refuses_none (λ os. HasOperandForm N.Nop os []) nop (refl, refl) (λ os h. h.0)
nop_refuses (t ∷ ts) = refuses_all (λ os. HasOperandForm N.Nop os (t ∷ ts)) (λ os h. let f = h.1 in cc)

-- ---- all mnemonics

pub operands_refuse : (m : Mnemonic) (ts : List (Token Punct)) → Refuses (λ os. HasOperandForm m os ts) (parsed_operands m ts)
operands_refuse (N.Memory op) ts = wrapped (λ os. HasMemoryForm os ts) (memory_operands ts) (λ m. Plain (memory_insn op m.0 m.2 m.1)) (memory_refuses ts)
operands_refuse (N.Oper op) ts = operate_refuses op ts
operands_refuse (N.Branch j) ts = branch_refuses j ts
operands_refuse N.Br ts = br_refuses ts
operands_refuse N.Ret ts = return_refuses ts
operands_refuse N.Nop ts = nop_refuses ts

pub operands_fail : (m : Mnemonic) (ts : List (Token Punct)) (k : LineFlaw) → parsed_operands m ts ≡ Err k → AreNoOperands m ts k
operands_fail m ts k e = (operands_refuse m ts).0 k e

pub fail_operands : (m : Mnemonic) (ts : List (Token Punct)) (k : LineFlaw) → AreNoOperands m ts k → parsed_operands m ts ≡ Err k
fail_operands m ts k h = (operands_refuse m ts).1 k h
