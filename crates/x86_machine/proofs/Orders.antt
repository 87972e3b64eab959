-- What the flags of a compare say.
use Rattle.std.proofs.Common.{◌≡◌, ℕ, suc, ◌+◌, ◌-◌, ◌^◌, ◌<◌, ◌≤◌, Bool, true, false, ltb, leb, eqb, ◌||◌, ℤ, pos, negsuc, ◌-ℤ◌, refl, ap, sym, ◌∙◌}
use Rattle.std.proofs.Common.{arith, inl, inr}
use Rattle.std.specs.Int.Bits.{and_self}
use Rattle.std.proofs.lemmas.Bool.{cases_lt, cases_eq, cases_order, lt-ltb, le-ltb, le-leb, lt-leb, eq-eqb, ne_eqb}
use Rattle.std.proofs.lemmas.Int.{ints, to_z_pos}
use Rattle.std.specs.Int.{w64}
use borrow.Author.Differences.{up, down}
use Rattle.word_ops.specs.declared.Rel.TheVariants.{Slt, Sle}
use Rattle.word_ops.specs.Words.{signed, test_of}
use Rattle.x86_words.specs.declared.operators.AluOp.TheVariants.{And, Cmp}
use Rattle.x86_words.specs.declared.operators.X86Cond.TheVariants.{Equal, Sign, Less, LessOrEqual}
use Rattle.x86_machine.specs.Flags.{alu_word, alu_flags, is_high, is_outside, differ, cond_holds, AfterCmp, AfterTest, AfterSubOne}

low : (a : ℕ) → a < 2 ^ 63 → signed a ≡ pos a
low a h = to_z_pos w64 a h

high : (a : ℕ) → 2 ^ 63 ≤ a → signed a ≡ negsuc (2 ^ 64 - suc a)
high a h = rw (le-ltb a (2 ^ 63) h) refl

in-range : (z : ℤ) → up z < 2 ^ 63 + down z → down z ≤ 2 ^ 63 + up z → is_outside z ≡ false
in-range (pos n) h k = lt-leb (2 ^ 63) n (omega (arith, h))
in-range (negsuc n) h k = lt-leb (2 ^ 63) n (omega (arith, k))

above : (z : ℤ) → 2 ^ 63 + down z ≤ up z → is_outside z ≡ true
above (pos n) h = le-leb (2 ^ 63) n (omega (arith, h))
above (negsuc n) h = absurd (omega (arith, h))

below : (z : ℤ) → 2 ^ 63 + up z < down z → is_outside z ≡ true
below (pos n) h = absurd (omega (arith, h))
below (negsuc n) h = le-leb (2 ^ 63) n (omega (arith, h))

abbrev Says : ℕ → ℕ → Type 0
Says a b = differ (is_high (alu_word Cmp a b)) (is_outside (signed a -ℤ signed b)) ≡ test_of Slt a b

both_low : (a b : ℕ) → a < 2 ^ 63 → b < 2 ^ 63 → Says a b
both_low a b p q =
    let out : is_outside (pos a -ℤ pos b) ≡ false = in-range (pos a -ℤ pos b) (omega (arith, ints, p)) (omega (arith, ints, q)) in
    elim (cases_lt a b) [
      | inl h ↦ rw (low a p, low b q, out, le-leb (2 ^ 63) (alu_word Cmp a b) (omega (arith, p, q, h)), lt-ltb a b h) refl
      | inr h ↦ rw (low a p, low b q, out, lt-leb (2 ^ 63) (alu_word Cmp a b) (omega (arith, p, q, h)), le-ltb a b h) refl
    ]

both_high : (a b : ℕ) → 2 ^ 63 ≤ a → 2 ^ 63 ≤ b → a < 2 ^ 64 → b < 2 ^ 64 → Says a b
both_high a b p q r s =
    let x = negsuc (2 ^ 64 - suc a) in
    let y = negsuc (2 ^ 64 - suc b) in
    let out : is_outside (x -ℤ y) ≡ false = in-range (x -ℤ y) (omega (arith, ints, p, q, r, s)) (omega (arith, ints, p, q, r, s)) in
    elim (cases_lt a b) [
      | inl h ↦ rw (
        high a p,
        high b q,
        out,
        le-leb (2 ^ 63) (alu_word Cmp a b) (omega (arith, p, q, r, s, h)),
        lt-ltb (2 ^ 64 - suc b)
            (2 ^ 64 - suc a) (omega (arith, r, s, h)),
      ) refl
      | inr h ↦ rw (
        high a p,
        high b q,
        out,
        lt-leb (2 ^ 63) (alu_word Cmp a b) (omega (arith, p, q, r, s, h)),
        le-ltb (2 ^ 64 - suc b)
            (2 ^ 64 - suc a) (omega (arith, r, s, h)),
      ) refl
    ]

-- the first isn't negative, the second is
second_high : (a b : ℕ) → a < 2 ^ 63 → 2 ^ 63 ≤ b → b < 2 ^ 64 → Says a b
second_high a b p q s =
    let y = negsuc (2 ^ 64 - suc b) in
    elim (cases_lt (a + (2 ^ 64 - b)) (2 ^ 63)) [
      | inl h ↦ rw (
        low a p,
        high b q,
        in-range (pos a -ℤ y) (omega (arith, ints, p, q, s, h)) (omega (arith, ints, p, q, s, h)),
        lt-leb (2 ^ 63)
            (alu_word Cmp a b) (omega (arith, p, q, s, h)),
      ) refl
      | inr h ↦ rw (
        low a p,
        high b q,
        above (pos a -ℤ y) (omega (arith, ints, p, q, s, h)),
        le-leb (2 ^ 63) (alu_word Cmp a b)
            (omega (arith, p, q, s, h)),
      ) refl
    ]

-- the first is negative, the second isn't
first_high : (a b : ℕ) → 2 ^ 63 ≤ a → b < 2 ^ 63 → a < 2 ^ 64 → Says a b
first_high a b p q r =
    let x = negsuc (2 ^ 64 - suc a) in
    elim (cases_lt (a - b) (2 ^ 63)) [
      | inl h ↦ rw (
        high a p,
        low b q,
        below (x -ℤ pos b) (omega (arith, ints, p, q, r, h)),
        lt-leb (2 ^ 63) (alu_word Cmp a b)
            (omega (arith, p, q, r, h)),
      ) refl
      | inr h ↦ rw (
        high a p,
        low b q,
        in-range (x -ℤ pos b) (omega (arith, ints, p, q, r, h)) (omega (arith, ints, p, q, r, h)),
        le-leb (2 ^ 63)
            (alu_word Cmp a b) (omega (arith, p, q, r, h)),
      ) refl
    ]

or_comm : (x y : Bool) → (x || y) ≡ (y || x)
or_comm true true = refl
or_comm true false = refl
or_comm false true = refl
or_comm false false = refl

less-says : (a b : ℕ) → a < 2 ^ 64 → b < 2 ^ 64 → Says a b
less-says a b r s = elim (cases_lt a (2 ^ 63)) [
  | inl p ↦ elim (cases_lt b (2 ^ 63)) [ inl q ↦ both_low a b p q | inr q ↦ second_high a b p q s ]
  | inr p ↦ elim (cases_lt b (2 ^ 63)) [ inl q ↦ first_high a b p q r | inr q ↦ both_high a b p q r s ]
]

-- ---- the conditions

zero-says : (a b : ℕ) → a < 2 ^ 64 → b < 2 ^ 64 → eqb (alu_word Cmp a b) 0 ≡ eqb a b
zero-says a b p q = elim (cases_eq a b) [
  | inl e ↦ rw (eq-eqb a b e, eq-eqb (alu_word Cmp a b) 0 (omega (arith, p, q, e))) refl
  | inr n ↦ rw (ne_eqb a b n, ne_eqb (alu_word Cmp a b) 0 (λ z. n (omega (arith, p, q, z)))) refl
]

-- equal or less is less or equal
or_less : (a b x y : ℕ) → (a ≡ b → x ≡ y) → (x ≡ y → a ≡ b) → (eqb a b || ltb x y) ≡ leb x y
or_less a b x y to from = elim (cases_order x y) [
  | inl e ↦ rw (eq-eqb a b (from e), le-leb x y (omega (arith, e))) refl
  | inr o ↦ elim o [
    | inl h ↦ rw (ne_eqb a b (λ e. omega (arith, h, to e)), lt-ltb x y h, le-leb x y (omega (arith, h))) refl
    | inr h ↦ rw (ne_eqb a b (λ e. omega (arith, h, to e)), le-ltb x y (omega (arith, h)), lt-leb x y h) refl
  ]
]

or_signed : (a b : ℕ) → a < 2 ^ 64 → b < 2 ^ 64 → (eqb a b || test_of Slt a b) ≡ test_of Sle a b
or_signed a b r s = elim (cases_lt a (2 ^ 63)) [
  | inl p ↦ elim (cases_lt b (2 ^ 63)) [
    | inl q ↦ rw (low a p, low b q) (or_less a b a b (λ e. e) (λ e. e))
    | inr q ↦ rw (low a p, high b q, ne_eqb a b (λ e. omega (arith, p, q, e))) refl
  ]
  | inr p ↦ elim (cases_lt b (2 ^ 63)) [
    | inl q ↦ rw (high a p, low b q, ne_eqb a b (λ e. omega (arith, p, q, e))) refl
    | inr q ↦ rw (high a p, high b q) (or_less a b (2 ^ 64 - suc b) (2 ^ 64 - suc a) (λ e. omega (arith, e)) (λ e. omega (arith, r, s, e)))
  ]
]

pub after_cmp : (a b : ℕ) → a < 2 ^ 64 → b < 2 ^ 64 → AfterCmp a b
after_cmp a b p q = record {
  equal = zero-says a b p q;
  below = refl;
  below_or_equal = ap (λ z. ltb a b || z) (zero-says a b p q) ∙ or_comm (ltb a b) (eqb a b) ∙ or_less a b a b (λ e. e) (λ e. e);
  less = less-says a b p q;
  less_or_equal = ap (λ z. z || differ (is_high (alu_word Cmp a b)) (is_outside (signed a -ℤ signed b))) (zero-says a b p q) ∙ ap (λ z. eqb a b || z)
      (less-says a b p q) ∙ or_signed a b p q;
}

-- ---- after a test, and after one is taken

no_overflow : (a : ℕ) → a < 2 ^ 64 → is_outside (signed a -ℤ signed 0) ≡ false
no_overflow a r = elim (cases_lt a (2 ^ 63)) [
  | inl p ↦ rw (low a p) (in-range (pos a -ℤ pos 0) (omega (arith, ints, p)) (omega (arith, ints, p)))
  | inr p ↦
      let x = negsuc (2 ^ 64 - suc a) in
      rw (high a p) (in-range (x -ℤ pos 0) (omega (arith, ints, p, r)) (omega (arith, ints, p, r)))
]

-- `test a,a` gives the flags of `cmp a,0`
test-cmp : (a : ℕ) → a < 2 ^ 64 → alu_flags And a a ≡ alu_flags Cmp a 0
test-cmp a r =
    let same : alu_word Cmp a 0 ≡ a = omega (arith, r) in
    rw (and_self a, same, le-ltb a 0 (omega arith), no_overflow a r) refl

differ_false : (b : Bool) → differ b false ≡ b
differ_false true = refl
differ_false false = refl

-- without overflow, less is negative
sign-less : (a : ℕ) → a < 2 ^ 64 → cond_holds Sign (alu_flags Cmp a 0) ≡ cond_holds Less (alu_flags Cmp a 0)
sign-less a r = rw (no_overflow a r) (sym (differ_false (is_high (alu_word Cmp a 0))))

pub after_test : (a : ℕ) → a < 2 ^ 64 → AfterTest a
after_test a r =
    let cmp : AfterCmp a 0 = after_cmp a 0 r (omega arith) in
    let same = test-cmp a r in
    record {
      equal = ap (cond_holds Equal) same ∙ cmp.equal;
      sign = ap (cond_holds Sign) same ∙ sign-less a r ∙ cmp.less;
      less_or_equal = ap (cond_holds LessOrEqual) same ∙ cmp.less_or_equal;
      low = refl;
    }

pub after_sub_one : (f : ℕ) → f < 2 ^ 64 → AfterSubOne f
after_sub_one f r = record {
  word = λ p. omega (arith, p, r);
  below = elim (cases_eq f 0) [
    | inl e ↦ rw (lt-ltb f 1 (omega (arith, e)), eq-eqb f 0 e) refl
    | inr n ↦ rw (le-ltb f 1 (omega (arith, n)), ne_eqb f 0 n) refl
  ];
}
