-- What a load makes of A.
use Rattle.std.proofs.Common.{◌≡◌, ℕ, zero, suc, ◌+◌, ◌*◌, ◌/◌, ◌%◌, ◌^◌, ◌<◌, ◌≤◌, Bool, true, false, cond, eqb, inl, inr, List, [], ◌∷◌, length, slice_index, refl, sym, ap, ◌∙◌, subst, arith}
use Rattle.std.specs.Prelude.{pos}
use Rattle.std.specs.Int.{cast_unsigned, w64}
use Rattle.std.proofs.lemmas.Bool.{cases_Bool, eqb-true, eqb-false}
use Rattle.word_ops.specs.Words.{word_of}
use Rattle.word_ops.specs.Memory.{Memory, read}
use Rattle.word_ops.specs.Rights.{allowed}
use Rattle.word_ops.specs.declared.Op.TheVariants.{Add, Band, Sll, Srl}
use Rattle.alpha_words.specs.declared.insn.Insn.TheVariants.{Ldq}
use Rattle.bpf_words.specs.Values.{big_endian}
use Rattle.bpf_code.specs.Blocks.{byte_code, bytes_code, quad_reg, load_code}
use Rattle.bpf_words.specs.Reading.{AreBytes}
use Rattle.bpf_code.proofs.Straight.{effects, effects-append, effects-length, may-append, listing, listed, MayRun}
use Rattle.bpf_code.proofs.Numbers.{eight, byte-is, shifted-is, first-is}

-- the quadword of eight bytes
abbrev pub quad : List ℕ → ℕ → ℕ
quad packet d = eight (λ i. slice_index packet (8 * d + i))

-- the address of a quadword behind x
abbrev pub quad_address : ℕ → ℕ → ℕ
quad_address x d = (x + cast_unsigned w64 (pos (8 * d))) % 2 ^ 64

-- the first eight quadwords of the packet stand behind x, and may be loaded
pub record HasPacket (packet : List ℕ) (m : Memory) (reads : List (ℕ × ℕ)) (x : ℕ) : Type 0 where
  pub at : (d : ℕ) → d < 8 → read m (quad_address x d) ≡ quad packet d
  pub may : (d : ℕ) → d < 8 → allowed reads (quad_address x d) ≡ true

-- ---- a byte

abbrev shifted : ℕ → ℕ → ℕ
shifted zero a = word_of Add 0 0
shifted (suc n) a = word_of Sll a 8

byte_of : (m : Memory) (b : Bool) (n at : ℕ) (f : ℕ → ℕ)
    → slice_index (effects m (byte_code n (cond b 2 3) at) (listing 31 f 0)) 1 ≡ word_of Add (shifted n (f 1))
    (word_of Band (word_of Srl (cond b (f 2) (f 3)) (8 * at)) 255)
byte_of m true zero at f = refl
byte_of m true (suc n) at f = refl
byte_of m false zero at f = refl
byte_of m false (suc n) at f = refl

byte_keeps : (m : Memory) (b : Bool) (n at : ℕ) (f : ℕ → ℕ) →
    (slice_index (effects m (byte_code n (cond b 2 3) at) (listing 31 f 0)) 2 ≡ f 2) ×
    (slice_index (effects m (byte_code n (cond b 2 3) at) (listing 31 f 0)) 3 ≡ f 3) ×
    (slice_index (effects m (byte_code n (cond b 2 3) at) (listing 31 f 0)) 16 ≡ f 16)
byte_keeps m true zero at f = (refl, refl, refl)
byte_keeps m true (suc n) at f = (refl, refl, refl)
byte_keeps m false zero at f = (refl, refl, refl)
byte_keeps m false (suc n) at f = (refl, refl, refl)

byte_may : (m : Memory) (reads : List (ℕ × ℕ)) (n q at : ℕ) (regs : List ℕ) → MayRun m reads (byte_code n q at) regs
byte_may m reads zero q at regs = (tt, (tt, (tt, (tt, tt))))
byte_may m reads (suc n) q at regs = (tt, (tt, (tt, (tt, tt))))

-- ---- bytes one after the other

-- 256 so many times
abbrev limit : ℕ → ℕ
limit zero = 1
limit (suc n) = 256 * limit n

big-below : (packet : List ℕ) (k n : ℕ) → AreBytes packet → big_endian packet k n < limit n
big-below packet k zero h = omega arith
big-below packet k (suc n) h = let i = big-below packet k n h in let b = h (k + n) in omega (arith, i, b)

limit-most : (n : ℕ) → n ≤ 3 → limit n ≤ 2 ^ 24
limit-most zero h = omega arith
limit-most (suc zero) h = omega arith
limit-most (suc (suc zero)) h = omega arith
limit-most (suc (suc (suc zero))) h = omega arith
limit-most (suc (suc (suc (suc n)))) h = absurd (omega (arith, h))

pub big-small : (packet : List ℕ) (k n : ℕ) → n ≤ 3 → AreBytes packet → big_endian packet k (suc n) < 2 ^ 32
big-small packet k n few h = let i = big-below packet k n h in let b = h (k + n) in let l = limit-most n few in omega (arith, i, b, l)

-- nothing before the first byte, then the number so far
abbrev IsSoFar : List ℕ → ℕ → ℕ → ℕ → Type 0
IsSoFar packet k zero a = Unit {0}
IsSoFar packet k (suc n) a = a ≡ big_endian packet k (suc n)

-- registers after n bytes of a load
record Loaded (packet : List ℕ) (k last n x : ℕ) (regs : List ℕ) : Type 0 where
  count : length regs ≡ 31
  a : IsSoFar packet k n (slice_index regs 1)
  two : slice_index regs 2 ≡ quad packet (k / 8)
  three : slice_index regs 3 ≡ quad packet ((k + last) / 8)
  base : slice_index regs 16 ≡ x

module _ (packet : List ℕ) (k last x : ℕ) (m : Memory) (bytes : AreBytes packet) (few : last ≤ 3) where
  quad_reg-is : (n : ℕ) → n ≤ last → (f : ℕ → ℕ) → f 2 ≡ quad packet (k / 8) → f 3 ≡ quad packet ((k + last) / 8)
      → cond (eqb ((k + n) / 8) (k / 8)) (f 2) (f 3) ≡ quad packet ((k + n) / 8)
  quad_reg-is n le f two three =
      elim (cases_Bool (eqb ((k + n) / 8) (k / 8))) [
        | inl e ↦ ap (λ b. cond b (f 2) (f 3)) e ∙ two ∙ ap (quad packet) (sym (eqb-true ((k + n) / 8) (k / 8) e))
        | inr e ↦ ap (λ b. cond b (f 2) (f 3)) e ∙ three ∙ ap (quad packet) (let apart = eqb-false ((k + n) / 8) (k / 8) e in past n le apart)
      ]
    where
      past : (n : ℕ) → n ≤ last → ((k + n) / 8 ≡ k / 8 → ⊥) → (k + last) / 8 ≡ (k + n) / 8
      past n le apart = omega (arith, le, few, apart)

  number-is : (n a : ℕ) → n ≤ 3 → IsSoFar packet k n a → word_of Add (shifted n a) (slice_index packet (k + n)) ≡ big_endian packet k (suc n)
  number-is zero a le so = first-is (slice_index packet (k + 0)) (bytes (k + 0)) ∙ omega arith
  number-is (suc n) a le so =
      let i = big-below packet k (suc n) bytes in
      let l = limit-most (suc n) le in
      ap (λ a. word_of Add (word_of Sll a 8) (slice_index packet (k + suc n))) so
      ∙ shifted-is (big_endian packet k (suc n)) (slice_index packet (k + suc n)) (omega (arith, i, l)) (bytes (k + suc n))

  byte-step : (n : ℕ) (regs : List ℕ) → n ≤ last → Loaded packet k last n x regs
      → Loaded packet k last (suc n) x (effects m (byte_code n (quad_reg k n) ((k + n) % 8)) regs)
  byte-step n regs le h =
      let f : ℕ → ℕ = slice_index regs in
      let b : Bool = eqb ((k + n) / 8) (k / 8) in
      let at : ℕ = (k + n) % 8 in
      let is : regs ≡ listing 31 f 0 = listed regs h.count in
      let keeps = byte_keeps m b n at f in
      let back : (r : ℕ) → slice_index (effects m (byte_code n (quad_reg k n) at) regs) r ≡ slice_index
      (effects m (byte_code n (quad_reg k n) at) (listing 31 f 0)) r = λ r. ap (λ l. slice_index (effects m (byte_code n (quad_reg k n) at) l) r) is in
      let there : word_of Band (word_of Srl (quad packet ((k + n) / 8)) (8 * at)) 255 ≡ slice_index packet (k + n) =
      byte-is (λ i. slice_index packet (8 * ((k + n) / 8) + i)) (λ i. bytes (8 * ((k + n) / 8) + i)) at (omega arith)
      ∙ ap (slice_index packet) (omega arith) in
      record {
        count = effects-length m (byte_code n (quad_reg k n) at) regs ∙ h.count;
        a = back 1 ∙ byte_of m b n at f ∙ ap (λ q. word_of Add (shifted n (f 1)) (word_of Band (word_of Srl q (8 * at)) 255))
            (quad_reg-is n le f h.two h.three)
            ∙ ap (word_of Add (shifted n (f 1))) there ∙ number-is n (f 1) (omega (arith, le, few)) h.a;
        two = back 2 ∙ keeps.0 ∙ h.two;
        three = back 3 ∙ keeps.1 ∙ h.three;
        base = back 16 ∙ keeps.2 ∙ h.base;
      }

  bytes-load : (n : ℕ) (regs : List ℕ) → n ≤ suc last → Loaded packet k last 0 x regs → Loaded packet k last n x (effects m (bytes_code k n) regs)
  bytes-load zero regs le h = h
  bytes-load (suc n) regs le h =
      subst (Loaded packet k last (suc n) x) (sym (effects-append m (bytes_code k n) (byte_code n (quad_reg k n) ((k + n) % 8)) regs))
      (byte-step n (effects m (bytes_code k n) regs) (omega (arith, le)) (bytes-load n regs (omega (arith, le)) h))

bytes-may : (m : Memory) (reads : List (ℕ × ℕ)) (k n : ℕ) (regs : List ℕ) → MayRun m reads (bytes_code k n) regs
bytes-may m reads k zero regs = tt
bytes-may m reads k (suc n) regs = may-append m reads (bytes_code k n) (byte_code n (quad_reg k n) ((k + n) % 8)) regs (bytes-may m reads k n regs)
    (byte_may m reads n (quad_reg k n) ((k + n) % 8) (effects m (bytes_code k n) regs))

-- ---- a load

-- what a load leaves
pub record IsLoaded (packet : List ℕ) (m : Memory) (reads : List (ℕ × ℕ)) (k n : ℕ) (regs : List ℕ) : Type 0 where
  pub may : MayRun m reads (load_code k n) regs
  pub a : slice_index (effects m (load_code k n) regs) 1 ≡ big_endian packet k (suc n)
  pub base : slice_index (effects m (load_code k n) regs) 16 ≡ slice_index regs 16

-- registers behind the two loads of quadwords
abbrev quads_loaded : Memory → ℕ → ℕ → (ℕ → ℕ) → List ℕ
quads_loaded m d e f = effects m (Ldq 2 16 (pos (8 * d)) ∷ Ldq 3 16 (pos (8 * e)) ∷ []) (listing 31 f 0)

module _ (packet : List ℕ) (m : Memory) (reads : List (ℕ × ℕ)) (k n : ℕ) (bytes : AreBytes packet) (few : n ≤ 3) (inside : k + suc n ≤ 64) where
  load-listed : (f : ℕ → ℕ) → HasPacket packet m reads (f 16) → IsLoaded packet m reads k n (listing 31 f 0)
  load-listed f has =
      let first : k / 8 < 8 = omega (arith, inside) in
      let second : (k + n) / 8 < 8 = omega (arith, inside) in
      let behind = quads_loaded m (k / 8) ((k + n) / 8) f in
      let start : Loaded packet k n 0 (f 16) behind = record {
        count = refl;
        a = tt;
        two = has.at (k / 8) first;
        three = has.at ((k + n) / 8) second;
        base = refl;
      } in
      let end = bytes-load packet k n (f 16) m bytes few (suc n) behind (omega arith) start in
      record {
        may = (has.may (k / 8) first, (has.may ((k + n) / 8) second, bytes-may m reads k (suc n) behind));
        a = end.a;
        base = end.base;
      }

  pub load-is : (regs : List ℕ) → length regs ≡ 31 → HasPacket packet m reads (slice_index regs 16) → IsLoaded packet m reads k n regs
  load-is regs count has = subst (IsLoaded packet m reads k n) (sym (listed regs count)) (load-listed (slice_index regs) has)
