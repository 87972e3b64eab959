-- The lexemes of what is printed: registers, numbers, labels and mnemonics.
use Rattle.std.proofs.Common.{◌≡◌, ◌⊎◌, ⊎_elim, ℕ, zero, suc, ◌+◌, ◌^◌, ◌<◌, ◌≤◌, Bool, true, false, ltb, List, [], ◌∷◌, length, Some, inl, inr, refl, sym, ap, ◌∙◌, arith}
use Rattle.std.specs.Prelude.{◌&&◌, ◌==◌, slice_get, codes, decimal, ℤ, pos, negsuc}
use Rattle.std.specs.Fmt.{digits, signed_decimal}
use Rattle.std.specs.Str.{bytes_eq}
use Rattle.std.specs.Str.Parse.{AllDigits}
use Rattle.std.specs.List.{AllByRecursion, list_all}
use Rattle.std.proofs.lemmas.Bool.{and_parts, and_from, or_right, ltb-true, eqb-true, le-leb, cond-false, false_from_ne_true}
use Rattle.std.proofs.lemmas.Str.Parse.{digit_from_value}
use Rattle.std.proofs.lemmas.Fmt.{decimal_is_IsNumeral, length-decimal-le}
use Rattle.word_ops.specs.declared.Op.{Op}
use Rattle.word_ops.specs.Operators.{op_mnemonic}
use Rattle.word_ops.proofs.EachOp.{each_op}
use Rattle.alpha_words.specs.declared.conditions.Cond.{Cond}
use Rattle.alpha_words.proofs.EachCond.{each_cond}
use Rattle.alpha_words.specs.declared.insn.Rhs.{Rhs}
use Rattle.alpha_words.specs.declared.insn.Rhs.TheVariants as R
use Rattle.alpha_words.specs.declared.memory.MemoryOp.{MemoryOp}
use Rattle.alpha_words.specs.MemoryOps.{memory_mnemonic}
use Rattle.alpha_words.specs.Encoding.{HasBits, IsRhs}
use Rattle.alpha_words.proofs.EachMemoryOp.{each_memory_op}
use Rattle.text_tokens.specs.declared.tokens.Class.{Class}
use Rattle.text_tokens.specs.declared.tokens.Class.TheVariants as C
use Rattle.text_tokens.specs.Tokens.{is_ordinary, IsLexeme}
use Rattle.text_tokens.specs.Registers.{registers, IsRegister}
use Rattle.text_tokens.proofs.Known.{same_bytes}
use Rattle.asm_text.specs.declared.marks.Punct.{Punct}
use Rattle.asm_text.specs.Marks.{source_class}
use Rattle.asm_text.specs.Labels.{is_letter, are_letters_or_digits, is_label}
use Rattle.asm_text.specs.Integers.{Integer, IsInteger, integer_value}
use Rattle.alpha_words.specs.Conditions.{cond_mnemonic}
use Rattle.asm_text.specs.Insns.{IsDisplacement, SpellsRhs}
use Rattle.asm_print.specs.Printing.{label_text, register_text, rhs_text}

-- a byte of a line without a comment: from the blank to the tilde, and not `#`
abbrev pub IsText : ℕ → Type 0
IsText b = (b ≡ 32) ⊎ ((35 < b) × (b < 127))

-- such a byte, which stands in lexemes
abbrev IsInner : ℕ → Type 0
IsInner b = (source_class b ≡ C.Ordinary) × IsText b

-- a lexeme of such bytes, at most so long
pub record IsWord (n : ℕ) (w : List ℕ) : Type 0 where
  pub lexeme : IsLexeme source_class w
  pub bytes : AllByRecursion IsText w
  pub short : length w ≤ n

halves : {X : Type 0} (P Q : X → Type 0) (xs : List X) → AllByRecursion (λ x. P x × Q x) xs
    → AllByRecursion P xs × AllByRecursion Q xs
halves P Q [] h = (tt, tt)
halves P Q (x ∷ xs) h = let g = halves P Q xs h.1 in ((h.0.0, g.0), (h.0.1, g.1))

word_of : (n : ℕ) (w : List ℕ) → 0 < length w → length w ≤ n → AllByRecursion IsInner w → IsWord n w
word_of n w some short h =
    let g = halves (λ b. source_class b ≡ C.Ordinary) IsText w h in
    record { lexeme = record { some = some; whole = g.0 }; bytes = g.1; short = short }

-- ---- bytes

differs : (a b : ℕ) → (a < b) ⊎ (b < a) → (a == b) ≡ false
differs a b h =
    false_from_ne_true (a == b) (λ e.
    let s = eqb-true a b e in ⊎_elim (λ l. absurd (omega arith)) (λ l. absurd (omega arith)) h)

-- a byte past the marks, but for the colon
inner_byte : (b : ℕ) → 44 < b → (b < 58) ⊎ (58 < b) → b < 127 → IsInner b
unfolding source_class
inner_byte b low other high = (
  cond-false (b == 32) _ _ (differs b 32 (inr (omega arith)))
      ∙ cond-false (b == 9) _ _ (differs b 9 (inr (omega arith)))
      ∙ cond-false (b == 44) _ _ (differs b 44 (inr (omega arith)))
      ∙ cond-false (b == 40) _ _ (differs b 40 (inr (omega arith)))
      ∙ cond-false (b == 41) _ _ (differs b 41 (inr (omega arith)))
      ∙ cond-false (b == 58) _ _ (differs b 58 other),
  inr (omega arith, high),
)

-- ---- digits

digits_inner : (ds : List ℕ) → AllDigits 10 ds → AllByRecursion IsInner ds
digits_inner [] h = tt
digits_inner (c ∷ cs) h =
    let r = digit_from_value c h.0 in (
      inner_byte c (omega (arith, r.0)) (inl (omega (arith, r.1))) (omega (arith, r.1)),
      digits_inner cs h.1,
    )

digits_letters : (ds : List ℕ) → AllDigits 10 ds → are_letters_or_digits ds ≡ true
digits_letters [] h = refl
digits_letters (c ∷ cs) h =
    let r = digit_from_value c h.0 in
    let digit = and_from _ _ (le-leb 48 c r.0) (le-leb c 57 r.1) in
    and_from _ (are_letters_or_digits cs) (or_right (is_letter c) _ digit) (digits_letters cs h.1)

-- ---- numbers, with or without a byte before them

number_word : (k n : ℕ) → 0 < k → n < 10 ^ k → n < 2 ^ 64 → IsWord k (decimal n)
number_word k n some small h =
    let d = (decimal_is_IsNumeral n h).0 in
    word_of k (decimal n) d.0 (length-decimal-le k n some small h) (digits_inner (decimal n) d.1)

lettered_word : (b k n : ℕ) → IsInner b → 0 < k → n < 10 ^ k → n < 2 ^ 64
    → IsWord (suc k) (b ∷ decimal n)
lettered_word b k n inner some small h =
    let d = (decimal_is_IsNumeral n h).0 in
    let short = length-decimal-le k n some small h in
    word_of (suc k) (b ∷ decimal n) (omega arith) (omega (arith, short))
    (inner, digits_inner (decimal n) d.1)

-- ---- registers

pub register_word : (r : ℕ) → r < 32 → IsWord 3 (register_text r)
register_word r h =
    let letter = inner_byte 114 (omega arith) (inr (omega arith)) (omega arith) in
    lettered_word 114 2 r letter (omega arith) (omega arith) (omega arith)

abbrev all_decimal : List (List ℕ × List ℕ) → ℕ → Bool
all_decimal [] k = true
all_decimal (row ∷ rows) k = bytes_eq row.0 (decimal k) && all_decimal rows (suc k)

each_decimal : all_decimal registers 0 ≡ true
unfolding registers digits
each_decimal = refl

decimal_at : (rows : List (List ℕ × List ℕ)) (k i : ℕ) → all_decimal rows k ≡ true
    → i < length rows
    → (row : List ℕ × List ℕ) × (slice_get rows i ≡ Some row) × (row.0 ≡ decimal (k + i))
decimal_at [] k i h l = absurd (omega arith)
decimal_at (row ∷ rows) k zero h l =
    let z : k ≡ k + 0 = omega arith in
    let first = (and_parts _ (all_decimal rows (suc k)) h).0 in
    (row, refl, same_bytes row.0 (decimal k) first ∙ ap decimal z)
decimal_at (row ∷ rows) k (suc i) h l =
    let rest = (and_parts (bytes_eq row.0 (decimal k)) (all_decimal rows (suc k)) h).1 in
    let r = decimal_at rows (suc k) i rest (omega arith) in
    let z : suc k + i ≡ k + suc i = omega arith in
    (r.0, r.1, r.2 ∙ ap decimal z)

rows_count : length registers ≡ 32
unfolding registers
rows_count = refl

pub register_named : (r : ℕ) → r < 32 → IsRegister r (register_text r)
register_named r h =
    let f = decimal_at registers 0 r each_decimal (omega (arith, rows_count)) in
    let z : 0 + r ≡ r = omega arith in
    (f.0, f.1, inr (inl (ap (λ l. 114 ∷ l) (sym (f.2 ∙ ap decimal z)))))

-- ---- displacements

pub displacement_word : (z : ℤ) → HasBits 15 z → IsWord 6 (signed_decimal z)
displacement_word (pos n) h =
    let w = number_word 5 n (omega arith) (omega arith) (omega arith) in
    record { lexeme = w.lexeme; bytes = w.bytes; short = omega (arith, w.short) }
displacement_word (negsuc n) h =
    let minus = inner_byte 45 (omega arith) (inl (omega arith)) (omega arith) in
    lettered_word 45 5 (suc n) minus (omega arith) (omega arith) (omega arith)

-- the integer that the text of a displacement is
abbrev IsShown : ℤ → Type 0
IsShown disp =
    (z : Integer) × IsInteger (signed_decimal disp) z × IsDisplacement z × (disp ≡ integer_value z)

pub displacement_shown : (disp : ℤ) → HasBits 15 disp → IsShown disp
displacement_shown (pos n) h =
    let d = decimal_is_IsNumeral n (omega arith) in
    ((false, n), inl (refl, inl (d.0, sym d.1)), inr (refl, omega arith), refl)
displacement_shown (negsuc n) h =
    let d = decimal_is_IsNumeral (suc n) (omega arith) in
    let low : suc n ≤ 32768 = omega arith in
    ((true, suc n), inr (decimal (suc n), refl, d.0, refl, sym d.1), inl (refl, low), refl)

-- ---- the second operand

pub rhs_word : (rhs : Rhs) → IsRhs rhs → IsWord 3 (rhs_text rhs)
rhs_word (R.Reg r) h = register_word r h
rhs_word (R.Lit n) h = number_word 3 n (omega arith) (omega arith) (omega arith)

pub rhs_spelled : (rhs : Rhs) → IsRhs rhs → SpellsRhs rhs (rhs_text rhs)
rhs_spelled (R.Reg r) h = register_named r h
rhs_spelled (R.Lit n) h =
    let d = decimal_is_IsNumeral n (omega arith) in
    ((false, n), inl (refl, inl (d.0, sym d.1)), (inl refl, refl, h))

-- ---- labels

pub label_word : (i : ℕ) → i < 2 ^ 32 → IsWord 11 (label_text i)
label_word i h =
    let letter = inner_byte 76 (omega arith) (inr (omega arith)) (omega arith) in
    lettered_word 76 10 i letter (omega arith) (omega arith) (omega arith)

pub label_is : (i : ℕ) → i < 2 ^ 64 → is_label (label_text i) ≡ true
label_is i h = digits_letters (decimal i) (decimal_is_IsNumeral i h).0.1

-- ---- mnemonics

abbrev is_inner : ℕ → Bool
is_inner b = is_ordinary (source_class b) && (ltb 35 b && ltb b 127)

-- a lexeme of at most so many bytes
abbrev is_word : ℕ → List ℕ → Bool
is_word n w = (ltb 0 (length w) && ltb (length w) (suc n)) && list_all is_inner w

ordinary : (k : Class Punct) → is_ordinary k ≡ true → k ≡ C.Ordinary
ordinary C.Blank e = cc
ordinary (C.Mark m) e = cc
ordinary C.Ordinary e = refl

inner_by_test : (w : List ℕ) → list_all is_inner w ≡ true → AllByRecursion IsInner w
inner_by_test [] h = tt
inner_by_test (b ∷ bs) h =
    let p = and_parts (is_inner b) (list_all is_inner bs) h in
    let q = and_parts (is_ordinary (source_class b)) (ltb 35 b && ltb b 127) p.0 in
    let r = and_parts (ltb 35 b) (ltb b 127) q.1 in (
      (ordinary (source_class b) q.0, inr (ltb-true 35 b r.0, ltb-true b 127 r.1)),
      inner_by_test bs p.1,
    )

word_by_test : (n : ℕ) (w : List ℕ) → is_word n w ≡ true → IsWord n w
word_by_test n w h =
    let p = and_parts (ltb 0 (length w) && ltb (length w) (suc n)) (list_all is_inner w) h in
    let l = and_parts (ltb 0 (length w)) (ltb (length w) (suc n)) p.0 in
    let short = ltb-true (length w) (suc n) l.1 in
    word_of n w (ltb-true 0 (length w) l.0) (omega (arith, short)) (inner_by_test w p.1)

pub op_word : (op : Op) → IsWord 6 (op_mnemonic op)
unfolding source_class
op_word op = word_by_test 6 (op_mnemonic op) (each_op (λ o. is_word 6 (op_mnemonic o)) refl op)

branch_test : (cond : Cond) → is_word 4 (cond_mnemonic cond) ≡ true
unfolding source_class
branch_test = each_cond (λ c. is_word 4 (cond_mnemonic c)) refl

pub branch_word : (cond : Cond) → IsWord 4 (cond_mnemonic cond)
branch_word cond = word_by_test 4 (cond_mnemonic cond) (branch_test cond)

pub memory_op_word : (op : MemoryOp) → IsWord 5 (memory_mnemonic op)
unfolding source_class
memory_op_word op = word_by_test 5 (memory_mnemonic op) (each_memory_op (λ o. is_word 5 (memory_mnemonic o)) refl op)

pub br_word : IsWord 2 (codes "br")
unfolding source_class
br_word = word_by_test 2 (codes "br") refl

pub ret_word : IsWord 3 (codes "ret")
unfolding source_class
ret_word = word_by_test 3 (codes "ret") refl
