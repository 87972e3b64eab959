-- Where numbered constants are found, and which signatures of word arithmetic have them.
use Rattle.std.proofs.Common.{◌≡◌, ℕ, ◌+◌, ◌<◌, ◌≤◌, Bool, true, false, not, cond, ◌&&◌, nat_lt, nat_le, if◌then◌else◌, List, [], ◌∷◌, length, find, Option, Some, None, option_map, inl, inr, refl, sym, ◌∙◌, ap, arith, ◌==◌, eqb-true}
use Rattle.std.specs.List.{list_all}
use Rattle.std.proofs.lemmas.Bool.{ltb-true, lt-ltb, le-ltb, leb-true, cases_lt}
use Rattle.word_ops.specs.declared.Op.{Op}
use Rattle.word_ops.specs.Operators.{operators, op_of, op_number, op_constant, has_op}
use Rattle.word_ops.proofs.EachOp.{each_op, each_op_same, op_number_is}
use Rattle.term_table.specs.Tree.{Tree, Pi, Const, Num, Lit, Calc, Fact, Deny, Lemma, at}
use Rattle.term_table.proofs.Options.{bind_some, map_some}
use Rattle.lf_signature.specs.declared.editions.WordSignature.{WordSignature}
use Rattle.lf_signature.specs.declared.editions.WordSignature.TheVariants.{Sigma1}
use Rattle.lf_signature.specs.declared.tables.Place.{Place}
use Rattle.lf_signature.specs.declared.tables.Place.TheVariants.{Made, ByRule}
use Rattle.lf_signature.specs.declared.tables.Stretch.{Stretch}
use Rattle.lf_signature.specs.declared.numbers.TheConstants.{FIRST_RULE, XOR, COUNT}
use Rattle.lf_signature.specs.Terms.{exp}
use Rattle.lf_signature.specs.Rules.{Rule, rule_type}
use Rattle.lf_signature.specs.Constants.{constant_types, the_rules, layout, place_in, place_of, type_in, rule_at, Longest, size_of, operators_of, op_count_of, op_in, is_word, calc_type, declared}
use Rattle.lf_signature.specs.Known.{IsLemma, IsKnownType, listed, lemma, IsKnownSignature, HasOp}
use Rattle.lf_signature.specs.Laws.Booleans.{cond_is, both, at_past}
use Rattle.lf_signature.specs.Laws.Signatures.{all_below, each_below, each_signature}
use Rattle.word_ops.specs.declared.Profile.TheVariants.{One}

-- the number at an index among the rules, or among the symbols, by the stretches
abbrev number_in : Bool → List Stretch → ℕ → ℕ
number_in ruled [] i = i
number_in ruled (s ∷ ss) i =
    if cond ruled s.are_rules (not s.are_rules) && nat_lt (i + s.others) s.end then i + s.others else number_in ruled ss i

-- the number of a symbol, by its place in its table
abbrev pub made_number : ℕ → ℕ
made_number i = number_in false layout i

-- the number of a rule, by its place in its table
abbrev pub rule_number : ℕ → ℕ
rule_number i = number_in true layout i

-- the number of a place
abbrev number_of : Place → ℕ
number_of (Made i) = made_number i
number_of (ByRule i) = rule_number i

-- whether a place is that of a symbol
abbrev is_made : Place → ℕ → Bool
is_made (Made i) k = i == k
is_made (ByRule i) k = false

made_is : (p : Place) (k : ℕ) → is_made p k ≡ true → p ≡ Made k
made_is (Made i) k h = ap Made (eqb-true i k h)
made_is (ByRule i) k h = cc

-- the first constants are symbols
pub place-made : (n : ℕ) → n < FIRST_RULE → place_of n ≡ Made n
place-made n h = made_is (place_of n) n (each_below (λ k. is_made (place_of k) k) FIRST_RULE n refl h)

past_stretches : (l : List Stretch) (n : ℕ) → list_all (λ (s : Stretch). nat_le s.end COUNT) l ≡ true → COUNT ≤ n
    → find (λ (s : Stretch). nat_lt n s.end) l ≡ None
past_stretches [] n h q = refl
past_stretches (s ∷ ss) n h q =
    let w = both (nat_le s.end COUNT) (list_all (λ (t : Stretch). nat_le t.end COUNT) ss) h in
    let low : s.end ≤ COUNT = leb-true s.end COUNT w.0 in
    ap (λ b. cond b (Some s) (find (λ (t : Stretch). nat_lt n t.end) ss)) (le-ltb n s.end (omega (arith, low, q)))
    ∙ past_stretches ss n w.1 q

-- past the last there are rules alone
pub place-past : (n : ℕ) → COUNT ≤ n → place_of n ≡ ByRule n
place-past n q = ap (λ o. place_in o n) (past_stretches layout n refl q)

few_rules : nat_le (length the_rules) COUNT ≡ true
unfolding the_rules
few_rules = refl

-- and none of them is in the table
pub type-past : (n : ℕ) → COUNT ≤ n → type_in (place_of n) ≡ None
type-past n q =
    let few : length the_rules ≤ COUNT = leb-true (length the_rules) COUNT few_rules in
    ap type_in (place-past n q) ∙ ap (option_map rule_type) (at_past the_rules n (omega (arith, few, q)))

-- the place of a number that has a type, and what stands there
pub data Found (n : ℕ) (a : Tree) : Type 0 where
  made : (i : ℕ) → place_of n ≡ Made i → made_number i ≡ n → at constant_types i ≡ Some a → Found n a
  ruled : (i : ℕ) (r : Rule) → place_of n ≡ ByRule i → rule_number i ≡ n → rule_at n ≡ Some r → at the_rules i ≡ Some r → rule_type r ≡ a → Found n a

at_place : (n : ℕ) (p : Place) → place_of n ≡ p → (a : Tree) → type_in p ≡ Some a → number_of p ≡ n → Found n a
at_place n (Made i) e a h q = made i e q h
at_place n (ByRule i) e a h q =
    let w = map_some (at the_rules i) rule_type a h in
    ruled i w.0 e q (ap (λ p. Rattle.lf_signature.specs.Constants.rule_in p) e ∙ w.1) w.1 w.2

-- each number has its place
placed : all_below (λ n. number_of (place_of n) == n) COUNT ≡ true
placed = refl

-- a number whose place has a type is found
pub found : (n : ℕ) (a : Tree) → type_in (place_of n) ≡ Some a → Found n a
found n a h = elim (cases_lt n COUNT) [
  | inl l ↦
      at_place n (place_of n) refl a h
      (eqb-true (number_of (place_of n)) n (each_below (λ k. number_of (place_of k) == k) COUNT n placed l))
  | inr q ↦ let wrong : None ≡ Some a = sym (type-past n q) ∙ h in cc
]

-- a number that a signature declares is below its count, and has its type
pub declared-number : (s : WordSignature) (n : ℕ) (a : Tree) → declared s (Num n) ≡ Some a → (n < size_of s) × Found n a
declared-number s n a e = let h = cond_is (nat_lt n (size_of s)) (type_in (place_of n)) a e in (ltb-true n (size_of s) h.0, found n a h.1)

-- below its count the type is the place's
pub declared-below : (s : WordSignature) (n : ℕ) → n < size_of s → declared s (Num n) ≡ type_in (place_of n)
declared-below s n h = ap (λ b. cond b (type_in (place_of n)) None) (lt-ltb n (size_of s) h)

-- a signature that has more
pub declared-more : (s u : WordSignature) → size_of s ≤ size_of u → op_count_of s ≤ op_count_of u → (c : Const) (a : Tree) → declared s c ≡ Some a → declared u c ≡ Some a
declared-more s u h k (Num n) a e =
    let w = cond_is (nat_lt n (size_of s)) (type_in (place_of n)) a e in
    declared-below u n (omega (arith, ltb-true n (size_of s) w.0, h)) ∙ w.1
declared-more s u h k (Lit w) a e = e
declared-more s u h k (Fact r x y) a e = e
declared-more s u h k (Deny r x y) a e = e
declared-more s u h k (Lemma n) a e = e
declared-more s u h k (Calc o x y) a e =
    let of_op : Op → Option Tree = λ p. cond (is_word x && is_word y) (Some (calc_type p x y)) None in
    let w = bind_some (op_in s o) of_op a e in
    let v = cond_is (nat_lt o (op_count_of s)) (op_of o) w.0 w.1 in
    let g : op_in u o ≡ Some w.0 = ap (λ b. cond b (op_of o) None) (lt-ltb o (op_count_of u) (omega (arith, ltb-true o (op_count_of s) v.0, k))) ∙ v.1 in
    ap (λ z. Rattle.term_table.specs.Subst.bind z of_op) g ∙ w.2

-- the first has no more than each, and the longest no less
least : (s : WordSignature) → (XOR ≤ size_of s) × (size_of s ≤ size_of Longest) × (op_count_of s ≤ op_count_of Longest)
least s =
    let few = nat_le (op_count_of s) (op_count_of Longest) in
    let short = nat_le (size_of s) (size_of Longest) in
    let w = both (nat_le XOR (size_of s)) (short && few)
    (each_signature (λ z. nat_le XOR (size_of z) && (nat_le (size_of z) (size_of Longest) && nat_le (op_count_of z) (op_count_of Longest))) refl s) in
    let v = both short few w.1 in
    (leb-true XOR (size_of s) w.0, leb-true (size_of s) (size_of Longest) v.0, leb-true (op_count_of s) (op_count_of Longest) v.1)

-- no signature has more constants than the longest
pub few-constants : (s : WordSignature) → size_of s ≤ size_of Longest
few-constants s = (least s).1

-- the same of operators
pub few-operators : (s : WordSignature) → op_count_of s ≤ op_count_of Longest
few-operators s = (least s).2

-- each has the first rules
pub first-rules : (s : WordSignature) → XOR ≤ size_of s
first-rules s = (least s).0

-- each has the first symbols
pub declared-made : (s : WordSignature) (n : ℕ) → n < FIRST_RULE → declared s (Num n) ≡ at constant_types n
declared-made s n h = declared-below s n (omega (arith, h, (least s).0)) ∙ ap type_in (place-made n h)

-- the longest signature has what each has
pub declared-longest : (s : WordSignature) (c : Const) (a : Tree) → declared s c ≡ Some a → declared Longest c ≡ Some a
declared-longest s = declared-more s Longest (least s).1 (least s).2

-- each signature of word arithmetic is known
pub declared_known : (s : WordSignature) → IsKnownSignature (declared s)
declared_known s = record {
  words = λ w. refl;
  basic = λ n h. declared-below s n (omega (arith, h, (least s).0)) ∙ sym (declared-below Sigma1 n (omega (arith, h)));
  within = λ c a e. listed (declared-longest s c a e);
}

-- a known type of a constant that is no lemma is that of the longest signature
pub known-longest : (c : Const) (a : Tree) → (IsLemma c → ⊥) → IsKnownType c a → declared Longest c ≡ Some a
known-longest c a none (listed e) = e
known-longest c a none (lemma l p) = absurd (none l)

-- a signature has the constants of its operators, and of no others
op_constant-below : (s : WordSignature) (o : Op) → op_number o < op_count_of s → op_constant o < size_of s
op_constant-below s o h =
    ltb-true (op_constant o) (size_of s)
    (sym (ap (λ b. cond b (nat_lt (op_constant o) (size_of s)) true) (lt-ltb (op_number o) (op_count_of s) h))
    ∙ each_op (λ p. cond (nat_lt (op_number p) (op_count_of s)) (nat_lt (op_constant p) (size_of s)) true)
    (each_signature (λ z. list_all (λ p. cond (nat_lt (op_number p) (op_count_of z)) (nat_lt (op_constant p) (size_of z)) true) operators) refl s) o)

op_number-below : (s : WordSignature) (o : Op) → op_constant o < size_of s → has_op (operators_of s) o ≡ true
op_number-below s o h =
    sym (ap (λ b. cond b (has_op (operators_of s) o) true) (lt-ltb (op_constant o) (size_of s) h))
    ∙ each_op (λ p. cond (nat_lt (op_constant p) (size_of s)) (has_op (operators_of s) p) true)
    (each_signature (λ z. list_all (λ p. cond (nat_lt (op_constant p) (size_of z)) (has_op (operators_of z) p) true) operators) refl s) o

op_type : (o : Op) → type_in (place_of (op_constant o)) ≡ Some (Pi exp (Pi exp exp))
unfolding constant_types the_rules
op_type = each_op_same (λ o. type_in (place_of (op_constant o))) (λ o. Some (Pi exp (Pi exp exp))) refl

-- an operator that the signature has is declared at words
pub declared-op : (s : WordSignature) (o : Op) → op_number o < op_count_of s → HasOp (declared s) o
declared-op s o h = declared-below s (op_constant o) (op_constant-below s o h) ∙ op_type o

-- so is that of a number
pub declared-op_in : (s : WordSignature) (n : ℕ) (o : Op) → op_in s n ≡ Some o → declared s (Num (op_constant o)) ≡ Some (Pi exp (Pi exp exp))
declared-op_in s n o e =
    let h = cond_is (nat_lt n (op_count_of s)) (op_of n) o e in
    declared-op s o (omega (arith, op_number_is n o h.1, ltb-true n (op_count_of s) h.0))

-- a signature has the operators of its profile
pub has-declared : (s : WordSignature) (o : Op) → has_op (operators_of s) o ≡ true → HasOp (declared s) o
has-declared s o h = declared-op s o (ltb-true (op_number o) (op_count_of s) h)

-- and no others
pub declared-has : (s : WordSignature) (o : Op) → HasOp (declared s) o → has_op (operators_of s) o ≡ true
declared-has s o h = op_number-below s o (declared-number s (op_constant o) (Pi exp (Pi exp exp)) h).0

-- the first signature those of the first profile
pub first-declared : (o : Op) → has_op One o ≡ true → HasOp (declared Sigma1) o
first-declared = has-declared Sigma1

-- which has no others
pub declared-first : (o : Op) → HasOp (declared Sigma1) o → has_op One o ≡ true
declared-first = declared-has Sigma1
