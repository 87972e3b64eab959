-- Where an operand is told to be wrong, one is found.
use Rattle.std.proofs.Common.{◌≡◌, ◌⊎◌, ⊎_elim, ℕ, ◌<◌, Bool, true, false, cond, List, [], ◌∷◌, length, map, Option, Some, None, is_some, Ok, Err, refl, sym}
use Rattle.std.proofs.Common.{ap, ◌∙◌, subst, arith}
use Rattle.std.specs.Prelude.{nat_le, nat_lt}
use Rattle.std.proofs.lemmas.List.{length-map}
use Rattle.std.proofs.lemmas.Bool.{cond-true, eqb-true, false≢true}
use Rattle.alpha_words.specs.declared.insn.Rhs.TheVariants as R
use Rattle.term_table.specs.Steps.{◌>>=◌}
use Rattle.text_tokens.specs.Registers.{register_of}
use Rattle.text_tokens.proofs.Known.{register_is}
use Rattle.text_tokens.specs.Tokens.{Token, Mark, Lexeme, Placed}
use Rattle.asm_text.specs.declared.fault.LineFlaw.{LineFlaw}
use Rattle.asm_text.specs.declared.fault.LineFlaw.TheVariants as L
use Rattle.asm_text.specs.declared.marks.Punct.{Punct}
use Rattle.asm_text.specs.declared.mnemonics.Mnemonic.{Mnemonic}
use Rattle.asm_text.specs.declared.mnemonics.Mnemonic.TheVariants as N
use Rattle.asm_text.specs.Integers.{Integer, lexeme_integer, integer_value}
use Rattle.asm_text.specs.InsnParsing.{in_count, some_register, is_displacement}
use Rattle.asm_text.specs.Operands.{Operand, ARegister, TheRegister, ADisplacement, ARhs, ACount, IsRightOperand, FirstWrong, HasMemoryForm, HasOperateForm}
use Rattle.asm_text.specs.Operands.{HasBranchForm, HasBrForm, HasReturnForm, HasOperandForm}
use Rattle.asm_text.proofs.Operands.{in_displacement_ok, count_ok, rhs_ok}
use Rattle.view_source_faults.specs.declared.operands.Wanted.{Wanted}
use Rattle.view_source_faults.specs.declared.operands.Wanted.TheVariants as W
use Rattle.view_source_faults.specs.declared.forms.OperandForm.{OperandForm}
use Rattle.view_source_faults.specs.declared.forms.OperandForm.TheVariants as O
use Rattle.view_faults.specs.Marking.{Span}
use Rattle.view_source_faults.specs.SourceLines.{PlacedLexeme, lexemes_of}
use Rattle.view_source_faults.specs.WrongOperands.{mnemonic_form, wanted_by, is_number_within, is_register, is_second, is_right, first_wrong}

-- ---- what passes the tests is right

some_is : (w : List ℕ) (o : Option ℕ) → register_of w ≡ o → is_some o ≡ true → (r : ℕ) × (register_of w ≡ Some r)
some_is w None e h = absurd (false≢true h)
some_is w (Some r) e h = (r, e)

right_register : (w : List ℕ) → is_right W.Register w ≡ true → IsRightOperand (ARegister w)
right_register w h = let s = some_is w (register_of w) refl h in (s.0, register_is w s.0 s.1)

fixed_by : (k : ℕ) (o : Option ℕ) → is_register k o ≡ true → o ≡ Some k
fixed_by k None h = absurd (false≢true h)
fixed_by k (Some r) h = ap Some (eqb-true r k h)

right_fixed : (k : ℕ) (w : List ℕ) → is_right (W.Fixed k) w ≡ true → IsRightOperand (TheRegister k w)
right_fixed k w h = register_is w k (fixed_by k (register_of w) h)

displacement_by : (w : List ℕ) (o : Option Integer) → lexeme_integer w ≡ o → is_number_within 32768 32768 o ≡ true → IsRightOperand (ADisplacement w)
displacement_by w None e h = absurd (false≢true h)
displacement_by w (Some z) e h =
    let d = in_displacement_ok w (Some z) (integer_value z) e (cond-true (is_displacement z) (Ok (integer_value z)) (Err L.Range) h) in
    (d.0, d.1, d.2)

right_displacement : (w : List ℕ) → is_right (W.Number 32768 32768) w ≡ true → IsRightOperand (ADisplacement w)
right_displacement w h = displacement_by w (lexeme_integer w) refl h

counted : (limit n : ℕ) (t : Bool) → cond t (nat_le n 0) (nat_lt n limit) ≡ true → (m : ℕ) × (in_count limit (t, n) ≡ Ok m)
counted limit n true h = (0, cond-true (nat_le n 0) (Ok 0) (Err L.Range) h)
counted limit n false h = (n, cond-true (nat_lt n limit) (Ok n) (Err L.Range) h)

count_by : (limit : ℕ) (w : List ℕ) (o : Option Integer) → 0 < limit → lexeme_integer w ≡ o
    → is_number_within 0 limit o ≡ true → IsRightOperand (ACount limit w)
count_by limit w None l e h = absurd (false≢true h)
count_by limit w (Some (t, n)) l e h =
    let m = counted limit n t h in
    let k = count_ok limit w (Some (t, n)) m.0 l e m.1 in
    (k.0, m.0, k.1, k.2)

right_count : (w : List ℕ) → is_right (W.Number 0 16384) w ≡ true → IsRightOperand (ACount 16384 w)
right_count w h = count_by 16384 w (lexeme_integer w) (omega arith) refl h

second_by : (w : List ℕ) (o : Option Integer) → lexeme_integer w ≡ o → is_second w o ≡ true → IsRightOperand (ARhs w)
second_by w None e h =
    let s = some_is w (register_of w) refl h in
    (R.Reg s.0, rhs_ok w (R.Reg s.0) None e (ap (λ o. some_register o >>= λ r. Ok (R.Reg r)) s.1))
second_by w (Some (t, n)) e h =
    let m = counted 256 n t h in
    (R.Lit m.0, rhs_ok w (R.Lit m.0) (Some (t, n)) e (ap (λ x. x >>= λ k. Ok (R.Lit k)) m.1))

right_second : (w : List ℕ) → is_right W.Right w ≡ true → IsRightOperand (ARhs w)
right_second w h = second_by w (lexeme_integer w) refl h

-- ---- one is found

-- whether one of the lexemes isn't what has to stand there
abbrev any_wrong : List Wanted → List (List ℕ) → Bool
any_wrong [] ws = false
any_wrong (k ∷ ks) [] = false
any_wrong (k ∷ ks) (w ∷ ws) = cond (is_right k w) (any_wrong ks ws) true

some_by : (t : Bool) (o : Option Span) (s : Span) (b : Bool) → is_some o ≡ b → is_some (cond t o (Some s)) ≡ cond t b true
some_by true o s b e = e
some_by false o s b e = refl

wrong_same : (ks : List Wanted) (ws : List PlacedLexeme) → is_some (first_wrong ks ws) ≡ any_wrong ks (map (λ w. w.1) ws)
wrong_same [] ws = refl
wrong_same (k ∷ ks) [] = refl
wrong_same (k ∷ ks) (w ∷ ws) = some_by (is_right k w.1) (first_wrong ks ws) (w.0, length w.1) (any_wrong ks (map (λ x. x.1) ws)) (wrong_same ks ws)

wrong_by : (o : Operand) (os : List Operand) (flaw : LineFlaw) (b t : Bool) → FirstWrong (o ∷ os) flaw → (t ≡ true → IsRightOperand o) →
    (FirstWrong os flaw → b ≡ true) → cond t b true ≡ true
wrong_by o os flaw b false f g h = refl
wrong_by o os flaw b true f g h = ⊎_elim (λ p. absurd (p.0 (g refl))) (λ p. h p.1) f

-- one operand, and those behind it
next_wrong : (o : Operand) (os : List Operand) (flaw : LineFlaw) (k : Wanted) (ks : List Wanted) (w : List ℕ) (ws : List (List ℕ)) →
    FirstWrong (o ∷ os) flaw → (is_right k w ≡ true → IsRightOperand o) → (FirstWrong os flaw → any_wrong ks ws ≡ true) → any_wrong (k ∷ ks) (w ∷ ws) ≡ true
next_wrong o os flaw k ks w ws f g h = wrong_by o os flaw (any_wrong ks ws) (is_right k w) f g h

-- the lexemes among tokens without places
abbrev words_of : List (Token Punct) → List (List ℕ)
words_of [] = []
words_of (Mark m ∷ ts) = words_of ts
words_of (Lexeme w ∷ ts) = w ∷ words_of ts

words_same : (ts : List (Placed Punct)) → map (λ w. w.1) (lexemes_of ts) ≡ words_of (map (λ t. t.1) ts)
words_same [] = refl
words_same ((p, Mark m) ∷ ts) = words_same ts
words_same ((p, Lexeme w) ∷ ts) = ap (λ l. w ∷ l) (words_same ts)

-- the words are so, and one of them is wrong
abbrev Finds : OperandForm → List (Token Punct) → Type 0
Finds form ts = any_wrong (wanted_by form (length (words_of ts))) (words_of ts) ≡ true

memory_finds : (ts : List (Token Punct)) (os : List Operand) (flaw : LineFlaw) → HasMemoryForm os ts → FirstWrong os flaw → Finds O.Memory ts
memory_finds ts os flaw h f =
    let x = h.0 in
    let y = h.1 in
    ⊎_elim
    (λ g. subst (λ us. Finds O.Memory us) (sym g.1)
    (let f1 = subst (λ l. FirstWrong l flaw) g.0 f in
    next_wrong (ARegister x) (ARegister y ∷ []) flaw (W.Register) (W.Register ∷ []) x (y ∷ []) f1 (right_register x) (λ f2.
    next_wrong (ARegister y) ([]) flaw (W.Register) ([]) y ([]) f2 (right_register y) (λ f3. absurd f3))))
    (λ g. let d = g.0 in subst (λ us. Finds O.Memory us) (sym g.3)
    (let f1 = subst (λ l. FirstWrong l flaw) g.2 f in
    next_wrong (ARegister x) (ADisplacement d ∷ ARegister y ∷ [])
    flaw (W.Register) (W.Number 32768 32768 ∷ W.Register ∷ []) x (d ∷ y ∷ []) f1 (right_register x) (λ f2.
    next_wrong (ADisplacement d) (ARegister y ∷ []) flaw (W.Number 32768 32768) (W.Register ∷ []) d (y ∷ []) f2 (right_displacement d) (λ f3.
    next_wrong (ARegister y) ([]) flaw (W.Register) ([]) y ([]) f3 (right_register y) (λ f4. absurd f4)))))
    h.2

operate_finds : (ts : List (Token Punct)) (os : List Operand) (flaw : LineFlaw) → HasOperateForm os ts → FirstWrong os flaw → Finds O.Operate ts
operate_finds ts os flaw h f =
    let x = h.0 in
    let y = h.1 in
    let z = h.2 in
    subst (λ us. Finds O.Operate us) (sym h.4)
    (let f1 = subst (λ l. FirstWrong l flaw) h.3 f in
    next_wrong (ARegister x) (ARhs y ∷ ARegister z ∷ []) flaw (W.Register) (W.Right ∷ W.Register ∷ []) x (y ∷ z ∷ []) f1 (right_register x) (λ f2.
    next_wrong (ARhs y) (ARegister z ∷ []) flaw (W.Right) (W.Register ∷ []) y (z ∷ []) f2 (right_second y) (λ f3.
    next_wrong (ARegister z) ([]) flaw (W.Register) ([]) z ([]) f3 (right_register z) (λ f4. absurd f4))))

branch_finds : (ts : List (Token Punct)) (os : List Operand) (flaw : LineFlaw) → HasBranchForm os ts → FirstWrong os flaw → Finds O.Branch ts
branch_finds ts os flaw h f =
    let x = h.0 in
    let l = h.1 in
    subst (λ us. Finds O.Branch us) (sym h.4)
    (let f1 = subst (λ k. FirstWrong k flaw) h.3 f in
    next_wrong (ARegister x) [] flaw W.Register [] x (l ∷ []) f1 (right_register x) (λ f2. absurd f2))

br_finds : (ts : List (Token Punct)) (os : List Operand) (flaw : LineFlaw) → HasBrForm os ts → FirstWrong os flaw → Finds O.Br ts
br_finds ts os flaw h f =
    let l = h.0 in
    ⊎_elim
    (λ g. absurd (subst (λ k. FirstWrong k flaw) g.0 f))
    (λ g. let x = g.0 in subst (λ us. Finds O.Br us) (sym g.2)
    (let f1 = subst (λ k. FirstWrong k flaw) g.1 f in
    next_wrong (TheRegister 31 x) [] flaw (W.Fixed 31) [] x (l ∷ []) f1 (right_fixed 31 x) (λ f2. absurd f2)))
    h.2

return_finds : (ts : List (Token Punct)) (os : List Operand) (flaw : LineFlaw) → HasReturnForm os ts → FirstWrong os flaw → Finds O.Return ts
return_finds ts os flaw h f =
    ⊎_elim
    (λ g. absurd (subst (λ k. FirstWrong k flaw) g.0 f))
    (λ g. let x = g.0 in let y = g.1 in let d = g.2 in subst (λ us. Finds O.Return us) (sym g.5)
    (let f1 = subst (λ k. FirstWrong k flaw) g.4 f in
    next_wrong (TheRegister 31 x) (TheRegister 26 y ∷ ACount 16384 d ∷ [])
    flaw (W.Fixed 31) (W.Fixed 26 ∷ W.Number 0 16384 ∷ []) x (y ∷ d ∷ []) f1 (right_fixed 31 x) (λ f2.
    next_wrong (TheRegister 26 y) (ACount 16384 d ∷ []) flaw (W.Fixed 26) (W.Number 0 16384 ∷ []) y (d ∷ []) f2 (right_fixed 26 y) (λ f3.
    next_wrong (ACount 16384 d) ([]) flaw (W.Number 0 16384) ([]) d ([]) f3 (right_count d) (λ f4. absurd f4)))))
    h

-- where the operands of a mnemonic have their form, and one is wrong, one is found
pub operand_finds : (m : Mnemonic) (ts : List (Token Punct)) (os : List Operand) (flaw : LineFlaw) → HasOperandForm m os ts → FirstWrong os flaw →
    Finds (mnemonic_form (Some m)) ts
operand_finds (N.Memory o) ts os flaw h f = memory_finds ts os flaw h f
operand_finds (N.Oper o) ts os flaw h f = operate_finds ts os flaw h f
operand_finds (N.Branch j) ts os flaw h f = branch_finds ts os flaw h f
operand_finds N.Br ts os flaw h f = br_finds ts os flaw h f
operand_finds N.Ret ts os flaw h f = return_finds ts os flaw h f
operand_finds N.Nop ts os flaw h f = absurd (subst (λ l. FirstWrong l flaw) h.0 f)

-- the same of tokens with their places
pub placed_finds : (form : OperandForm) (ts : List (Placed Punct)) → Finds form (map (λ t. t.1) ts) →
    is_some (first_wrong (wanted_by form (length (lexemes_of ts))) (lexemes_of ts)) ≡ true
placed_finds form ts h =
    let words = words_same ts in
    let count : length (lexemes_of ts) ≡ length (words_of (map (λ t. t.1) ts)) =
    sym (length-map (lexemes_of ts) (λ w. w.1)) ∙ ap length words in
    wrong_same (wanted_by form (length (lexemes_of ts))) (lexemes_of ts)
    ∙ ap (any_wrong (wanted_by form (length (lexemes_of ts)))) words
    ∙ ap (λ n. any_wrong (wanted_by form n) (words_of (map (λ t. t.1) ts))) count
    ∙ h
