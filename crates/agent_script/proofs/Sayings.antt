-- What a line says, read word by word.
use Rattle.std.proofs.Common.{◌≡◌, ℕ, ◌<◌, ◌≤◌, ◌^◌, Bool, true, false, cond, ◌&&◌, List, [], ◌∷◌}
use Rattle.std.proofs.Common.{length, Option, Some, None, Result, Ok, Err, refl, sym, ap, ◌∙◌}
use Rattle.std.proofs.Common.{subst, arith}
use Rattle.std.specs.Prelude.{◌==◌, not, nat_le, nat_lt, codes, ok_or}
use Rattle.std.specs.Char.{digit_value}
use Rattle.std.specs.Str.{IsUtf8, bytes_eq, is_utf8}
use Rattle.std.specs.Str.Parse.{AllDigits, digits_value}
use Rattle.std.proofs.lemmas.Bool.{cond-true, and_parts, and_from, and_left, and_right}
use Rattle.std.proofs.lemmas.Bool.{false_from_ne_true, ltb-true, le-leb}
use Rattle.std.proofs.lemmas.Str.{IsUtf8-from_is_utf8, is_utf8-from_IsUtf8}
use Rattle.std.proofs.lemmas.Str.Parse.{IsNumeralModel, numerals_by_value, tells_digits}
use Rattle.std.proofs.lemmas.Str.Parse.{digits_value_short}
use Rattle.text_tokens.specs.Numbers.{are_digits, numeral}
use Rattle.agent_script.specs.declared.statement.TheConstants.{MAX_DIGITS}
use Rattle.agent_script.specs.declared.statement.Statement as code
use Rattle.agent_script.specs.declared.fault.ScriptFlaw.{ScriptFlaw}
use Rattle.agent_script.specs.declared.fault.ScriptFlaw.TheVariants as flaws
use Rattle.agent_script.specs.Statements.{load_named, ScriptLine, load, turn}
use Rattle.agent_script.specs.Statements.{short_number, is_script_name}
use Rattle.agent_script.specs.Statements.{load_operands, turn_operands, statement_of}
use Rattle.agent_script.specs.Inside.Reading.{IsStatement, IsStatementRead}

-- ---- numbers

digits-all : (ds : List ℕ) → are_digits 10 ds ≡ true → AllDigits 10 ds
digits-all [] e = tt
digits-all (d ∷ ds) e = let p = and_parts (nat_lt (digit_value d) 10) (are_digits 10 ds) e in
    (ltb-true (digit_value d) 10 p.0, digits-all ds p.1)

own : IsNumeralModel (AllDigits 10) (digits_value 10)
own = numerals_by_value (AllDigits 10) tells_digits

small-by : (word : List ℕ) (n : ℕ) (t : Bool) → are_digits 10 word ≡ t
    → cond t (Some (digits_value 10 word)) None ≡ Some n → length word ≤ 10 → n < 10 ^ 10
small-by word n true d e l =
    let same : digits_value 10 word ≡ n = cc in
    subst (λ m. m < 10 ^ 10) same (digits_value_short own word 10 (digits-all word d) l)
small-by word n false d e l = absurd cc

-- ten digits are below 2^64
pub short-small : (word : List ℕ) (n : ℕ) → length word ≤ 10 → numeral 10 word ≡ Some n
    → n < 10 ^ 10
short-small [] n l e = absurd cc
short-small (d ∷ ds) n l e = small-by (d ∷ ds) n (are_digits 10 (d ∷ ds)) refl e l

pub short-is : (word : List ℕ) (o : Option ℕ) → length word ≤ 10 → numeral 10 word ≡ o
    → o ≡ short_number word
short-is word o l e = sym e
    ∙ sym (cond-true (nat_le (length word) MAX_DIGITS) (numeral 10 word) None
    (le-leb (length word) 10 l))

-- ---- names

pub right-name : (word : List ℕ) → (length word == 0) ≡ false → IsUtf8 word → is_script_name word ≡ true
right-name word some h =
    and_from (not (length word == 0)) (is_utf8 word) (ap not some) (is_utf8-from_IsUtf8 word h)

pub no-name : (word : List ℕ) → (length word == 0) ≡ true → is_script_name word ≡ false
no-name word none = and_left (not (length word == 0)) (is_utf8 word) (ap not none)

pub wrong-name : (word : List ℕ) → (IsUtf8 word → ⊥) → is_script_name word ≡ false
wrong-name word h =
    and_right (not (length word == 0)) (is_utf8 word)
    (false_from_ne_true (is_utf8 word) (λ e. h (IsUtf8-from_is_utf8 word e)))

-- ---- loads

module _ (policy file packets : List ℕ) where
  loads-if : (t : Bool) → (is_script_name policy && is_script_name file && is_script_name packets) ≡ t
      → load_operands (policy ∷ file ∷ packets ∷ []) ≡ cond t
      (Ok (load (load_named policy file packets))) (Err flaws.Form)
  loads-if t e =
      ap (λ (b : Bool). cond b (Ok (load (load_named policy file packets))) (Err flaws.Form)) e

  pub wrong-policy : is_script_name policy ≡ false
      → load_operands (policy ∷ file ∷ packets ∷ []) ≡ Err flaws.Form
  wrong-policy h =
      loads-if false
      (and_left (is_script_name policy && is_script_name file) (is_script_name packets)
      (and_left (is_script_name policy) (is_script_name file) h))

  pub wrong-file : is_script_name file ≡ false
      → load_operands (policy ∷ file ∷ packets ∷ []) ≡ Err flaws.Form
  wrong-file h =
      loads-if false
      (and_left (is_script_name policy && is_script_name file) (is_script_name packets)
      (and_right (is_script_name policy) (is_script_name file) h))

  pub wrong-packets : is_script_name packets ≡ false
      → load_operands (policy ∷ file ∷ packets ∷ []) ≡ Err flaws.Form
  wrong-packets h = loads-if false (and_right (is_script_name policy && is_script_name file) (is_script_name packets) h)

  pub right-names : (p f k : List ℕ) → is_script_name policy ≡ true → is_script_name file ≡ true
      → is_script_name packets ≡ true → p ≡ policy → f ≡ file → k ≡ packets
      → load_operands (policy ∷ file ∷ packets ∷ []) ≡ Ok (load (load_named p f k))
  right-names p f k a b c ep ef ek =
      loads-if true
      (and_from (is_script_name policy && is_script_name file) (is_script_name packets)
      (and_from (is_script_name policy) (is_script_name file) a b) c)
      ∙ ap (λ x. Ok (load (load_named x file packets))) (sym ep)
      ∙ ap (λ x. Ok (load (load_named p x packets))) (sym ef)
      ∙ ap (λ x. Ok (load (load_named p f x))) (sym ek)

-- ---- lines

-- a test against a text that is the literal
pub same-test : (word text literal : List ℕ) (t : Bool) → text ≡ literal → bytes_eq word text ≡ t
    → bytes_eq word literal ≡ t
same-test word text literal t e h = subst (λ (x : List ℕ). bytes_eq word x ≡ t) e h

pub load-line : (words rest : List (List ℕ)) (word : List ℕ) → words ≡ word ∷ rest
    → bytes_eq word (codes "load") ≡ true
    → statement_of words ≡ load_operands rest
unfolding statement_of
load-line words rest word e h =
    ap statement_of e
    ∙ ap (λ (t : Bool). cond t (load_operands rest)
    (cond (bytes_eq word (codes "turn")) (turn_operands rest) (Err flaws.Word))) h

pub turn-line : (words rest : List (List ℕ)) (word : List ℕ) → words ≡ word ∷ rest
    → bytes_eq word (codes "load") ≡ false
    → bytes_eq word (codes "turn") ≡ true → statement_of words ≡ turn_operands rest
unfolding statement_of
turn-line words rest word e h g =
    ap statement_of e
    ∙ ap (λ (t : Bool). cond t (load_operands rest)
    (cond (bytes_eq word (codes "turn")) (turn_operands rest) (Err flaws.Word))) h
    ∙ ap (λ (t : Bool). cond t (turn_operands rest) (Err flaws.Word)) g

pub other-line : (words rest : List (List ℕ)) (word : List ℕ) → words ≡ word ∷ rest
    → bytes_eq word (codes "load") ≡ false
    → bytes_eq word (codes "turn") ≡ false → statement_of words ≡ Err flaws.Word
unfolding statement_of
other-line words rest word e h g =
    ap statement_of e
    ∙ ap (λ (t : Bool). cond t (load_operands rest)
    (cond (bytes_eq word (codes "turn")) (turn_operands rest) (Err flaws.Word))) h
    ∙ ap (λ (t : Bool). cond t (turn_operands rest) (Err flaws.Word)) g

pub no-line : (words : List (List ℕ)) → words ≡ [] → statement_of words ≡ Err flaws.Word
unfolding statement_of
no-line words e = ap statement_of e

-- the statement of operands is that of the line
pub formed : (said made : Result ScriptLine ScriptFlaw) (o : Option code.Statement)
    (r : Result code.Statement ScriptFlaw) → said ≡ made
    → IsStatement made o → r ≡ ok_or o flaws.Form → IsStatementRead said r
formed said made (Some statement) r e h q = subst (λ x. IsStatementRead said x) (sym q) (e ∙ h)
formed said made None r e h q = subst (λ x. IsStatementRead said x) (sym q) (e ∙ h)
