-- Fields of four bytes: where they stand in bytes, and the bytes that they are.
use Rattle.std.proofs.Common.{◌≡◌, ℕ, suc, ◌+◌, ◌*◌, ◌-◌, ◌/◌, ◌%◌, ◌^◌, ◌<◌, ◌≤◌, Bool, true, false, cond, ◌||◌, ltb, eqb, List, [], ◌∷◌, ◌++◌, length, take, drop, Result, Ok, Err, refl, sym, ap, subst, ◌∙◌, append_assoc, take-append-drop, take_at, drop_at, arith, ◌⊎◌, inl, inr, drop-drop, eq-eqb}
use Rattle.std.specs.Int.{w32, from_le_bytes, to_le_bytes}
use Rattle.std.specs.List.{slice_range}
use Rattle.std.proofs.lemmas.List.Folds.{drop_split}
use Rattle.std.proofs.Math.Seq.{take-add}
use Rattle.std.proofs.lemmas.Bool.{cases_lt, ltb-false, le-ltb, eqb-true}
use Rattle.std.proofs.lemmas.List.{length-append, length-take, length-drop, get_or-drop, get_or-take, get_or_past}
use Rattle.std.proofs.lemmas.Nat.{le_bytes_4, from_le_bytes-to_le_bytes_4}
use Rattle.proof_container.specs.declared.fault.Flaw.{Flaw}
use Rattle.term_table.specs.Bytes.{IsBytes}
use Rattle.proof_container.specs.Encoding.{field_bytes, word_fields}
use Rattle.term_table.specs.Steps.{◌>>=◌}
use Rattle.proof_container.specs.Decoding.{Fault, field_at, exact_at, between_at, raw_at, word_at}

-- ---- steps of a reader that did not fail

-- the value of the first step
pub bind_ok : {A B : Type 0} (r : Result A Fault) (f : A → Result B Fault) (y : B) → (r >>= f) ≡ Ok y → (x : A) × (r ≡ Ok x) × (f x ≡ Ok y)
bind_ok (Ok x) f y e = (x, refl, e)
bind_ok (Err d) f y e = absurd cc

-- a test that is to be false
pub guard_ok : {A : Type 0} (b : Bool) (d : Fault) (r : Result A Fault) (y : A) → cond b (Err d) r ≡ Ok y → (b ≡ false) × (r ≡ Ok y)
guard_ok true d r y e = absurd cc
guard_ok false d r y e = (refl, e)

-- a test that is to be true
pub test_ok : {A : Type 0} (b : Bool) (d : Fault) (r : Result A Fault) (y : A) → cond b r (Err d) ≡ Ok y → (b ≡ true) × (r ≡ Ok y)
test_ok true d r y e = (refl, e)
test_ok false d r y e = absurd cc

-- a choice between two readers
pub either_ok : {A : Type 0} (b : Bool) (r s : Result A Fault) (y : A) → cond b r s ≡ Ok y → ((b ≡ true) × (r ≡ Ok y)) ⊎ ((b ≡ false) × (s ≡ Ok y))
either_ok true r s y e = inl (refl, e)
either_ok false r s y e = inr (refl, e)

pub neither : (a b : Bool) → (a || b) ≡ false → (a ≡ false) × (b ≡ false)
neither true b e = absurd cc
neither false b e = (refl, e)

-- an answer, as reading gives it
abbrev pub done : {A : Type 0} → A → Result A Fault
done x = Ok x

pub ok_is : {A : Type 0} (x y : A) → done x ≡ done y → x ≡ y
ok_is x y e = cc

-- ---- bytes

-- each element is a byte

pub IsBytes-drop : (n : ℕ) (bytes : List ℕ) → IsBytes bytes → IsBytes (drop n bytes)
IsBytes-drop n bytes h i = rw get_or-drop (h (n + i))

pub IsBytes-take : (n : ℕ) (bytes : List ℕ) → IsBytes bytes → IsBytes (take n bytes)
IsBytes-take n bytes h i =
    elim (cases_lt i n) [
      | inl lt ↦ rw (get_or-take n bytes i 0 lt) (h i)
      | inr le ↦ rw (get_or_past (take n bytes) i 0 (omega (arith, length-take n bytes))) (omega arith)
    ]

-- ---- one field

from_le_bytes-take : (bytes : List ℕ) → from_le_bytes w32 (take 4 bytes) ≡ from_le_bytes w32 bytes
from_le_bytes-take [] = refl
from_le_bytes-take (a ∷ []) = refl
from_le_bytes-take (a ∷ b ∷ []) = refl
from_le_bytes-take (a ∷ b ∷ c ∷ []) = refl
from_le_bytes-take (a ∷ b ∷ c ∷ d ∷ rest) = refl

from_le_bytes-small : (bytes : List ℕ) → IsBytes bytes → from_le_bytes w32 bytes < 2 ^ 32
from_le_bytes-small bytes fits = omega (arith, fits 0, fits 1, fits 2, fits 3)

-- the bytes hold this number as their field i
pub record IsField (bytes : List ℕ) (i f : ℕ) : Type 0 where
  pub within : 4 * i + 4 ≤ length bytes
  pub encoded : take 4 (drop (4 * i) bytes) ≡ to_le_bytes w32 f
  pub small : f < 2 ^ 32

pub field_takes : (bytes : List ℕ) (i f : ℕ) → IsBytes bytes → field_at bytes i ≡ Ok f → IsField bytes i f
field_takes bytes i f fits e =
    let g = guard_ok (ltb (length bytes) (4 * i + 4)) _ _ f e in
    let within : 4 * i + 4 ≤ length bytes = ltb-false _ _ g.0 in
    let front : List ℕ = take 4 (drop (4 * i) bytes) in
    let front_fits : IsBytes front = IsBytes-take 4 (drop (4 * i) bytes) (IsBytes-drop (4 * i) bytes fits) in
    let long : length front ≡ 4 = omega (arith, length-take 4 (drop (4 * i) bytes), length-drop (4 * i) bytes) in
    let is : f ≡ from_le_bytes w32 front = sym (from_le_bytes-take (drop (4 * i) bytes) ∙ ok_is (from_le_bytes w32 (drop (4 * i) bytes)) f g.1) in
    record {
      within = within;
      encoded = sym (le_bytes_4 front f long front_fits is);
      small = rw is (from_le_bytes-small front front_fits);
    }

from_le_bytes-front : (f : ℕ) (rest : List ℕ) → f < 2 ^ 32 → from_le_bytes w32 (to_le_bytes w32 f ++ rest) ≡ f
from_le_bytes-front f rest small = from_le_bytes-to_le_bytes_4 f small

pub field_again : (bytes : List ℕ) (i f : ℕ) (rest : List ℕ) → drop (4 * i) bytes ≡ to_le_bytes w32 f ++ rest → f < 2 ^ 32 → field_at bytes i ≡ Ok f
field_again bytes i f rest e small =
    let long : length (drop (4 * i) bytes) ≡ 4 + length rest = ap length e ∙ length-append (to_le_bytes w32 f) rest in
    let within : ltb (length bytes) (4 * i + 4) ≡ false = le-ltb _ _ (omega (arith, length-drop (4 * i) bytes)) in
    rw (within, e, from_le_bytes-front f rest small) refl

pub exact_takes : (bytes : List ℕ) (i n m : ℕ) (flaw : Flaw) → exact_at bytes i n flaw ≡ Ok m → field_at bytes i ≡ Ok n
exact_takes bytes i n m flaw e =
    let a = bind_ok (field_at bytes i) _ m e in
    let g = test_ok (eqb a.0 n) _ _ m a.2 in
    a.1 ∙ ap Ok (eqb-true a.0 n g.0)

pub exact_again : (bytes : List ℕ) (i n : ℕ) (flaw : Flaw) → field_at bytes i ≡ Ok n → exact_at bytes i n flaw ≡ Ok n
exact_again bytes i n flaw e = let same : eqb n n ≡ true = eq-eqb n n refl in rw (e, same) refl

pub between_takes : (bytes : List ℕ) (i low high n : ℕ) (flaw : Flaw)
    → between_at bytes i low high flaw ≡ Ok n → (field_at bytes i ≡ Ok n) × (low ≤ n) × (n ≤ high)
between_takes bytes i low high n flaw e =
    let a = bind_ok (field_at bytes i) _ n e in
    let g = guard_ok (ltb a.0 low || ltb high a.0) _ _ n a.2 in
    let both = neither (ltb a.0 low) (ltb high a.0) g.0 in
    subst (λ (k : ℕ). (field_at bytes i ≡ Ok k) × (low ≤ k) × (k ≤ high)) (ok_is a.0 n g.1)
    (a.1, ltb-false _ _ both.0, ltb-false _ _ both.1)

pub between_again : (bytes : List ℕ) (i low high n : ℕ) (flaw : Flaw) → field_at bytes i ≡ Ok n
    → low ≤ n → n ≤ high → between_at bytes i low high flaw ≡ Ok n
between_again bytes i low high n flaw e above below =
    let not_below : ltb n low ≡ false = le-ltb n low above in
    let not_above : ltb high n ≡ false = le-ltb high n below in
    rw (e, not_below, not_above) refl

-- ---- fields one behind the other

-- these fields stand in the bytes from field i on
abbrev pub Stands : List ℕ → ℕ → List ℕ → Type 0
Stands bytes i [] = Unit {0}
Stands bytes i (f ∷ fs) = (field_at bytes i ≡ Ok f) × Stands bytes (suc i) fs

-- numbers that fit a field
abbrev pub AreFields : List ℕ → Type 0
AreFields [] = Unit {0}
AreFields (f ∷ fs) = (f < 2 ^ 32) × AreFields fs

pub Stands-append : (bytes : List ℕ) (i j : ℕ) (fs gs : List ℕ) → j ≡ i + length fs → Stands bytes i fs → Stands bytes j gs → Stands bytes i (fs ++ gs)
Stands-append bytes i j [] gs e p q = let here : j ≡ i = omega (arith, e) in subst (λ (k : ℕ). Stands bytes k gs) here q
Stands-append bytes i j (f ∷ fs) gs e p q = let further : j ≡ suc i + length fs = omega (arith, e) in (p.0, Stands-append bytes (suc i) j fs gs further p.1 q)

pub Stands-split : (bytes : List ℕ) (i j : ℕ) (fs gs : List ℕ) → j ≡ i + length fs → Stands bytes i (fs ++ gs) → Stands bytes i fs × Stands bytes j gs
Stands-split bytes i j [] gs e p = let here : i ≡ j = omega (arith, e) in (tt, subst (λ (k : ℕ). Stands bytes k gs) here p)
Stands-split bytes i j (f ∷ fs) gs e p =
    let further : j ≡ suc i + length fs = omega (arith, e) in
    let both = Stands-split bytes (suc i) j fs gs further p.1 in
    ((p.0, both.0), both.1)

-- the same at an equal number
pub Stands-there : (bytes : List ℕ) (i j : ℕ) (fs : List ℕ) → i ≡ j → Stands bytes i fs → Stands bytes j fs
Stands-there bytes i j fs e p = subst (λ (k : ℕ). Stands bytes k fs) e p

pub field_there : (bytes : List ℕ) (i j f : ℕ) → i ≡ j → field_at bytes i ≡ Ok f → field_at bytes j ≡ Ok f
field_there bytes i j f e p = subst (λ (k : ℕ). field_at bytes k ≡ Ok f) e p

pub AreFields-append : (fs gs : List ℕ) → AreFields fs → AreFields gs → AreFields (fs ++ gs)
AreFields-append [] gs p q = q
AreFields-append (f ∷ fs) gs p q = (p.0, AreFields-append fs gs p.1 q)

pub length-field_bytes : (fs : List ℕ) → length (field_bytes fs) ≡ 4 * length fs
length-field_bytes [] = refl
length-field_bytes (f ∷ fs) =
    let first : length (to_le_bytes w32 f ++ field_bytes fs) ≡ length (to_le_bytes w32 f) + length (field_bytes fs) = length-append (to_le_bytes w32 f) (field_bytes fs) in
    omega (arith, first, length-field_bytes fs)

-- fields that stand there are fields, and are encoded there
pub record AreSpelled (bytes : List ℕ) (i : ℕ) (fs : List ℕ) : Type 0 where
  pub small : AreFields fs
  pub encoded : take (4 * length fs) (drop (4 * i) bytes) ≡ field_bytes fs

pub Stands-takes : (bytes : List ℕ) (i : ℕ) (fs : List ℕ) → IsBytes bytes → Stands bytes i fs → AreSpelled bytes i fs
Stands-takes bytes i [] fits p = record { small = tt; encoded = refl }
Stands-takes bytes i (f ∷ fs) fits p =
    let first : IsField bytes i f = field_takes bytes i f fits p.0 in
    let others : AreSpelled bytes (suc i) fs = Stands-takes bytes (suc i) fs fits p.1 in
    let count : 4 * length (f ∷ fs) ≡ 4 + 4 * length fs = omega arith in
    let next : drop 4 (drop (4 * i) bytes) ≡ drop (4 * suc i) bytes = drop-drop 4 (4 * i) bytes ∙ ap (λ (k : ℕ). drop k bytes) (omega arith) in
    let rest : take (4 * length fs) (drop 4 (drop (4 * i) bytes)) ≡ field_bytes fs = ap (take (4 * length fs)) next ∙ others.encoded in
    let apart : take (4 + 4 * length fs) (drop (4 * i) bytes) ≡ take 4 (drop (4 * i) bytes) ++ take (4 * length fs) (drop 4 (drop (4 * i) bytes)) = take-add 4 (4 * length fs) (drop (4 * i) bytes) in
    record {
      small = (first.small, others.small);
      encoded = ap (λ (k : ℕ). take k (drop (4 * i) bytes)) count ∙ apart ∙ ap (λ (x : List ℕ). x ++ take (4 * length fs) (drop 4 (drop (4 * i) bytes))) first.encoded ∙ ap (λ (x : List ℕ). to_le_bytes w32 f ++ x) rest;
    }

-- fields that are encoded there stand there
pub Stands-again : (bytes : List ℕ) (i : ℕ) (fs rest : List ℕ) → drop (4 * i) bytes ≡ field_bytes fs ++ rest → AreFields fs → Stands bytes i fs
Stands-again bytes i [] rest e small = tt
Stands-again bytes i (f ∷ fs) rest e small =
    let apart : field_bytes (f ∷ fs) ++ rest ≡ to_le_bytes w32 f ++ (field_bytes fs ++ rest) = append_assoc (to_le_bytes w32 f) (field_bytes fs) rest in
    let here : drop (4 * i) bytes ≡ to_le_bytes w32 f ++ (field_bytes fs ++ rest) = e ∙ apart in
    let next : drop (4 * suc i) bytes ≡ drop 4 (drop (4 * i) bytes) = ap (λ (k : ℕ). drop k bytes) (omega arith) ∙ sym (drop-drop 4 (4 * i) bytes) in
    let behind : drop (4 * suc i) bytes ≡ field_bytes fs ++ rest = next ∙ ap (drop 4) here in
    (field_again bytes i f (field_bytes fs ++ rest) here small.0, Stands-again bytes (suc i) fs rest behind small.1)

-- ---- pieces of bytes that are some fields long

-- the piece stands in the bytes from field i on, up to field j
abbrev pub IsPiece : List ℕ → ℕ → List ℕ → ℕ → Type 0
IsPiece bytes i piece j = drop (4 * i) bytes ≡ piece ++ drop (4 * j) bytes

-- a piece, and the next one
pub piece_then : (bytes : List ℕ) (i j k l : ℕ) (piece next : List ℕ) → j ≡ k
    → IsPiece bytes i piece j → IsPiece bytes k next l → IsPiece bytes i (piece ++ next) l
piece_then bytes i j k l piece next e p q =
    let here : IsPiece bytes j next l = subst (λ (n : ℕ). IsPiece bytes n next l) (sym e) q in
    p ∙ ap (λ (x : List ℕ). piece ++ x) here ∙ sym (append_assoc piece next (drop (4 * l) bytes))

pub fields_piece : (bytes : List ℕ) (i : ℕ) (fs : List ℕ) → IsBytes bytes → Stands bytes i fs
    → IsPiece bytes i (field_bytes fs) (i + length fs)
fields_piece bytes i fs fits p =
    let whole : drop (4 * i) bytes ≡ take (4 * length fs) (drop (4 * i) bytes) ++ drop
    (4 * length fs) (drop (4 * i) bytes) =
    sym (take-append-drop (4 * length fs) (drop (4 * i) bytes)) in
    let behind : drop (4 * length fs) (drop (4 * i) bytes) ≡ drop (4 * (i + length fs)) bytes =
    drop-drop (4 * length fs) (4 * i) bytes ∙ ap (λ (k : ℕ). drop k bytes) (omega arith) in
    whole
    ∙ ap (λ (x : List ℕ). x ++ drop (4 * length fs) (drop (4 * i) bytes))
    (Stands-takes bytes i fs fits p).encoded
    ∙ ap (λ (x : List ℕ). field_bytes fs ++ x) behind

-- what stands behind a piece that is n fields long
pub behind_piece : (bytes : List ℕ) (i n : ℕ) (piece rest : List ℕ)
    → drop (4 * i) bytes ≡ piece ++ rest → length piece ≡ 4 * n → drop (4 * (i + n)) bytes ≡ rest
behind_piece bytes i n piece rest e long =
    let further : drop (4 * (i + n)) bytes ≡ drop (4 * n) (drop (4 * i) bytes) =
    ap (λ (k : ℕ). drop k bytes) (omega arith) ∙ sym (drop-drop (4 * n) (4 * i) bytes) in
    further ∙ ap (drop (4 * n)) e ∙ drop_at piece rest (4 * n) long

-- fields that were read as they stand
pub record IsRaw (bytes : List ℕ) (i n : ℕ) (raw : List ℕ) : Type 0 where
  pub long : length raw ≡ 4 * n
  pub fits : IsBytes raw
  pub stands : IsPiece bytes i raw (i + n)

pub raw_takes : (bytes : List ℕ) (i n : ℕ) (raw : List ℕ) → IsBytes bytes
    → raw_at bytes i n ≡ Ok raw → IsRaw bytes i n raw
unfolding raw_at
raw_takes bytes i n raw fits e =
    let slice : List ℕ = slice_range bytes (4 * i) (4 * (i + n)) in
    let g = guard_ok (ltb (length bytes) (4 * (i + n))) _ _ raw e in
    let within : 4 * (i + n) ≤ length bytes = ltb-false _ _ g.0 in
    let made : IsRaw bytes i n slice = record {
      long = omega (
        arith,
        length-take (4 * (i + n) - 4 * i) (drop (4 * i) bytes),
        length-drop (4 * i)
            bytes,
      );
      fits = IsBytes-take (4 * (i + n) - 4 * i) (drop (4 * i) bytes)
          (IsBytes-drop (4 * i) bytes fits);
      stands = drop_split bytes (4 * i) (4 * (i + n)) (omega arith);
    } in
    subst (λ (x : List ℕ). IsRaw bytes i n x) (ok_is slice raw g.1) made

pub raw_again : (bytes : List ℕ) (i n : ℕ) (raw rest : List ℕ) → drop (4 * i) bytes ≡ raw ++ rest
    → length raw ≡ 4 * n → 1 ≤ n → raw_at bytes i n ≡ Ok raw
unfolding raw_at
raw_again bytes i n raw rest e long some =
    let all : length (drop (4 * i) bytes) ≡ length raw + length rest =
    ap length e ∙ length-append raw rest in
    let within : ltb (length bytes) (4 * (i + n)) ≡ false =
    le-ltb _ _ (omega (arith, length-drop (4 * i) bytes)) in
    let there : take (4 * (i + n) - 4 * i) (drop (4 * i) bytes) ≡ raw =
    ap (take (4 * (i + n) - 4 * i)) e ∙ take_at raw rest (4 * (i + n) - 4 * i) (omega arith) in
    rw (within, there) refl

-- ---- words

low_half : (low high : ℕ) → low < 2 ^ 32 → (low + 4294967296 * high) % 2 ^ 32 ≡ low
low_half low high small = omega arith

high_half : (low high : ℕ) → low < 2 ^ 32 → (low + 4294967296 * high) / 2 ^ 32 ≡ high
high_half low high small = omega arith

pub word_takes : (bytes : List ℕ) (i w : ℕ) → IsBytes bytes → word_at bytes i ≡ Ok w → Stands bytes i (word_fields w) × (w < 2 ^ 64)
word_takes bytes i w fits e =
    let a = bind_ok (field_at bytes i) _ w e in
    let b = bind_ok (field_at bytes (i + 1)) _ w a.2 in
    let is : a.0 + 4294967296 * b.0 ≡ w = ok_is (a.0 + 4294967296 * b.0) w b.2 in
    let low : a.0 < 2 ^ 32 = (field_takes bytes i a.0 fits a.1).small in
    let high : b.0 < 2 ^ 32 = (field_takes bytes (i + 1) b.0 fits b.1).small in
    let first : field_at bytes i ≡ Ok ((a.0 + 4294967296 * b.0) % 2 ^ 32) = a.1 ∙ ap Ok (sym (low_half a.0 b.0 low)) in
    let second : field_at bytes (suc i) ≡ Ok ((a.0 + 4294967296 * b.0) / 2 ^ 32) = field_there bytes (i + 1) (suc i) b.0 (omega arith) b.1 ∙ ap Ok (sym (high_half a.0 b.0 low)) in
    subst (λ (v : ℕ). Stands bytes i (word_fields v) × (v < 2 ^ 64)) is ((first, (second, tt)), omega arith)

pub word_again : (bytes : List ℕ) (i w : ℕ) → Stands bytes i (word_fields w) → word_at bytes i ≡ Ok w
word_again bytes i w p =
    let second : field_at bytes (i + 1) ≡ Ok (w / 2 ^ 32) = field_there bytes (suc i) (i + 1) (w / 2 ^ 32) (omega arith) p.1.0 in
    let whole : w % 2 ^ 32 + 4294967296 * (w / 2 ^ 32) ≡ w = omega arith in
    rw (p.0, second, whole) refl

pub word_small : (w : ℕ) → w < 2 ^ 64 → AreFields (word_fields w)
word_small w small = (omega arith, (omega arith, tt))
