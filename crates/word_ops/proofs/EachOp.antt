-- What a test finds true of the list of operators is true of every operator; what operators give is a word; they are found by
-- what names them, and by nothing else.
use Rattle.std.proofs.Common.{◌≡◌, ℕ, zero, suc, ◌-◌, ◌*◌, ◌%◌, ◌^◌, ◌<◌, Bool, true, false, cond, ◌==◌, ◌&&◌, List, [], ◌∷◌, map, slice_get, Some, refl, sym, ◌∙◌, ap, find, eqb-true, arith}
use Rattle.std.specs.List.{list_all}
use Rattle.std.specs.Int.Bits.{bit_xor}
use Rattle.std.specs.Option.{option_map}
use Rattle.std.specs.Str.{bytes_eq}
use Rattle.std.proofs.lemmas.Slice.Eq.{bytes_eq-Decides}
use Rattle.std.proofs.lemmas.Bool.{and_parts}
use Rattle.std.proofs.lemmas.Nat.{and_le_l, or_lt, xor_lt, shr_le, mod_below}
use Rattle.std.proofs.lemmas.Option.{same_Some, slice_get-map}
use Rattle.word_ops.specs.declared.Op.{Op}
use Rattle.word_ops.specs.declared.Op.TheVariants.{Add, Sub, Band, Bis, Sll, Srl, Cmpeq, Cmplt, Cmple, Cmpult, Cmpule, Xor, Bic, S4add, S8add, Sra, Extb, Extw, Extl}
use Rattle.word_ops.specs.declared.Rel.TheVariants.{Eq, Ult, Ule, Slt, Sle}
use Rattle.word_ops.specs.Words.{word_of, test_of, from_byte}
use Rattle.word_ops.specs.Operators.{operators, Last, has_op, op_number, op_constant, op_keyword, op_mnemonic, op_opcode, op_function, op_of, op_of_constant, op_of_keyword, op_of_mnemonic, op_of_code}
use Rattle.word_ops.proofs.Bounds.{flag_of-below, shifted_signed-below}

-- ---- every operator is listed

listed : (o : Op) → slice_get operators (op_number o) ≡ Some o
listed Add = refl
listed Sub = refl
listed Band = refl
listed Bis = refl
listed Sll = refl
listed Srl = refl
listed Cmpeq = refl
listed Cmplt = refl
listed Cmple = refl
listed Cmpult = refl
listed Cmpule = refl
listed Xor = refl
listed Bic = refl
listed S4add = refl
listed S8add = refl
listed Sra = refl
listed Extb = refl
listed Extw = refl
listed Extl = refl

-- a test that each entry of a list passes
pub list_all-get : {X : Type 0} (test : X → Bool) (xs : List X) (n : ℕ) (x : X) → list_all test xs ≡ true → slice_get xs n ≡ Some x → test x ≡ true
list_all-get test [] n x h e = cc
list_all-get test (y ∷ xs) zero x h e = ap test (sym (same_Some y x e)) ∙ (and_parts (test y) (list_all test xs) h).0
list_all-get test (y ∷ xs) (suc n) x h e = list_all-get test xs n x (and_parts (test y) (list_all test xs) h).1 e

-- what a test finds true of the list is true of every operator
pub each_op : (test : Op → Bool) → list_all test operators ≡ true → (o : Op) → test o ≡ true
each_op test h o = list_all-get test operators (op_number o) o h (listed o)

value_at : {A : Type 0} (f : Op → A) (o : Op) → slice_get (map f operators) (op_number o) ≡ Some (f o)
value_at f o = slice_get-map f operators (op_number o) ∙ ap (option_map f) (listed o)

-- what has the same values at the list has them at every operator
pub each_op_same : {A : Type 0} (f g : Op → A) → map f operators ≡ map g operators → (o : Op) → f o ≡ g o
each_op_same f g e o = same_Some (f o) (g o) (sym (value_at f o) ∙ ap (λ l. slice_get l (op_number o)) e ∙ value_at g o)

-- the last profile has every operator
pub last_has : (o : Op) → has_op Last o ≡ true
last_has = each_op (has_op Last) refl

-- ---- what an operator gives is a word

pub word_of-below : (op : Op) (a b : ℕ) → a < 2 ^ 64 → b < 2 ^ 64 → word_of op a b < 2 ^ 64
word_of-below Add a b p q = omega arith
word_of-below Sub a b p q = omega arith
word_of-below Band a b p q = omega (arith, and_le_l a b)
word_of-below Bis a b p q = or_lt 64 a b p q
word_of-below Sll a b p q = mod_below (a * 2 ^ (b % 64)) (2 ^ 64) (omega arith)
word_of-below Srl a b p q = omega (arith, shr_le a (b % 64))
word_of-below Cmpeq a b p q = flag_of-below (test_of Eq a b)
word_of-below Cmplt a b p q = flag_of-below (test_of Slt a b)
word_of-below Cmple a b p q = flag_of-below (test_of Sle a b)
word_of-below Cmpult a b p q = flag_of-below (test_of Ult a b)
word_of-below Cmpule a b p q = flag_of-below (test_of Ule a b)
word_of-below Xor a b p q = xor_lt 64 a b p q
word_of-below Bic a b p q = omega (arith, and_le_l a (bit_xor b (2 ^ 64 - 1)))
word_of-below S4add a b p q = omega arith
word_of-below S8add a b p q = omega arith
word_of-below Sra a b p q = shifted_signed-below a (b % 64) p
word_of-below Extb a b p q = omega (arith, mod_below (from_byte a b) (2 ^ 8) (omega arith))
word_of-below Extw a b p q = omega (arith, mod_below (from_byte a b) (2 ^ 16) (omega arith))
word_of-below Extl a b p q = omega (arith, mod_below (from_byte a b) (2 ^ 32) (omega arith))

-- ---- what a search finds

-- the test passes at what is found
found_by : {X : Type 0} (test : X → Bool) (xs : List X) (y x : X) (t : Bool) → test y ≡ t → cond t (Some y) (find test xs) ≡ Some x → (find test xs ≡ Some x → test x ≡ true) → test x ≡ true
found_by test xs y x true h e on = ap test (sym (same_Some y x e)) ∙ h
found_by test xs y x false h e on = on e

pub find-passes : {X : Type 0} (test : X → Bool) (xs : List X) (x : X) → find test xs ≡ Some x → test x ≡ true
find-passes test [] x e = cc
find-passes test (y ∷ xs) x e = found_by test xs y x (test y) refl e (find-passes test xs x)

-- an operator is found by its number, its constant, its keyword, its mnemonic and its code
pub op_of-op_number : (o : Op) → op_of (op_number o) ≡ Some o
op_of-op_number = each_op_same (λ o. op_of (op_number o)) Some refl

pub op_of_constant-op_constant : (o : Op) → op_of_constant (op_constant o) ≡ Some o
op_of_constant-op_constant = each_op_same (λ o. op_of_constant (op_constant o)) Some refl

pub op_of_keyword-op_keyword : (o : Op) → op_of_keyword (op_keyword o) ≡ Some o
unfolding op_of_keyword
op_of_keyword-op_keyword = each_op_same (λ o. op_of_keyword (op_keyword o)) Some refl

pub op_of_mnemonic-op_mnemonic : (o : Op) → op_of_mnemonic (op_mnemonic o) ≡ Some o
unfolding op_of_mnemonic
op_of_mnemonic-op_mnemonic = each_op_same (λ o. op_of_mnemonic (op_mnemonic o)) Some refl

pub op_of_code-op_code : (o : Op) → op_of_code (op_opcode o) (op_function o) ≡ Some o
op_of_code-op_code = each_op_same (λ o. op_of_code (op_opcode o) (op_function o)) Some refl

-- what is found by a number, a constant, a keyword, a mnemonic or a code has it
pub op_number_is : (n : ℕ) (o : Op) → op_of n ≡ Some o → op_number o ≡ n
op_number_is n o e = eqb-true (op_number o) n (find-passes (λ p. op_number p == n) operators o e)

pub op_constant_is : (c : ℕ) (o : Op) → op_of_constant c ≡ Some o → op_constant o ≡ c
op_constant_is c o e = eqb-true (op_constant o) c (find-passes (λ p. op_constant p == c) operators o e)

pub op_keyword_is : (w : List ℕ) (o : Op) → op_of_keyword w ≡ Some o → w ≡ op_keyword o
unfolding op_of_keyword
op_keyword_is w o e = (bytes_eq-Decides w (op_keyword o)).0 (find-passes (λ p. bytes_eq w (op_keyword p)) operators o e)

pub op_mnemonic_is : (w : List ℕ) (o : Op) → op_of_mnemonic w ≡ Some o → w ≡ op_mnemonic o
unfolding op_of_mnemonic
op_mnemonic_is w o e = (bytes_eq-Decides w (op_mnemonic o)).0 (find-passes (λ p. bytes_eq w (op_mnemonic p)) operators o e)

pub op_code_is : (opcode function : ℕ) (o : Op) → op_of_code opcode function ≡ Some o → (op_opcode o ≡ opcode) × (op_function o ≡ function)
op_code_is opcode function o e =
    let p = and_parts (op_opcode o == opcode) (op_function o == function) (find-passes (λ p. op_opcode p == opcode && op_function p == function) operators o e) in
    (eqb-true (op_opcode o) opcode p.0, eqb-true (op_function o) function p.1)
