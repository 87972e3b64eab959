-- Where instructions stand in the text: lists of instructions, their bytes, and what is in front of a block.
use Rattle.std.proofs.Common.{◌≡◌, ℕ, zero, suc, ◌+◌, ◌<◌, ◌≤◌, Bool, List, [], ◌∷◌, ◌++◌, length, slice_get, refl, sym, ap, ◌∙◌, subst, arith}
use Rattle.std.proofs.Common.{inl, inr, cond, length-append}
use Rattle.std.specs.List.{flat_map}
use Rattle.std.proofs.lemmas.Bool.{cases_eq}
use Rattle.std.proofs.lemmas.List.{append_assoc, append-nil}
use Rattle.std.proofs.lemmas.Grind.{flat_map-append}
use Rattle.alpha_words.specs.declared.insn.Insn.{Insn}
use Rattle.x86_words.specs.declared.insn.X86Insn.{X86Insn}
use Rattle.x86_words.specs.Encoding.{bytes_of, length_of, IsX86Insn}
use Rattle.x86_words.proofs.Fronts.{length-bytes_of}
use Rattle.x86_machine.specs.Machine.{StandsAtOffset}
use Rattle.native_steps.specs.Places.{Places}
use Rattle.native_steps.specs.Straight.{total_length}
use Rattle.native_code.specs.declared.insn.NativeInsn.{NativeInsn}
use Rattle.native_code.specs.declared.insn.NativeInsn.TheVariants.{Plain, Go, GoIf}
use Rattle.native_code.specs.Heads.{is_loop_head}
use Rattle.native_code.specs.Lives.{Lean}
use Rattle.native_code.specs.Blocks.{plain, block_at}
use Rattle.native_code.specs.Layout.{native_length, code_length, padding, placed, placed_from, front_code, whole_code, offset_of, native_text}

-- ---- lengths

abbrev pub all_bytes : List X86Insn → List ℕ
all_bytes l = flat_map bytes_of l

pub bytes-length : (l : List X86Insn) → length (all_bytes l) ≡ total_length l
bytes-length [] = refl
bytes-length (i ∷ rest) =
    let h = bytes-length rest in
    let one = length-bytes_of i in
    let both = length-append (bytes_of i) (all_bytes rest) in
    omega (arith, h, one, both)

pub length-append-code : (l m : List NativeInsn) → code_length (l ++ m) ≡ code_length l + code_length m
length-append-code [] m = omega arith
length-append-code (i ∷ rest) m = let h = length-append-code rest m in omega (arith, h)

pub plain-length : (l : List X86Insn) → code_length (plain l) ≡ total_length l
plain-length [] = refl
plain-length (i ∷ rest) = let h = plain-length rest in omega (arith, h)

module _ (offset : ℕ → ℕ) where
  one-length : (at : ℕ) (i : NativeInsn) → length_of (placed offset at i) ≡ native_length i
  one-length at (Plain i) = refl
  one-length at (Go k) = refl
  one-length at (GoIf c k) = refl

  pub placed-length : (at : ℕ) (l : List NativeInsn) → total_length (placed_from offset at l) ≡ code_length l
  placed-length at [] = refl
  placed-length at (i ∷ rest) =
      let h = placed-length (at + native_length i) rest in
      let one = one-length at i in
      omega (arith, h, one)

  pub placed-append : (at : ℕ) (l m : List NativeInsn) →
      placed_from offset at (l ++ m) ≡ placed_from offset at l ++ placed_from offset (at + code_length l) m
  placed-append at [] m = let e : at ≡ at + 0 = omega arith in ap (λ n. placed_from offset n m) e
  placed-append at (i ∷ rest) m =
      let e : at + native_length i + code_length rest ≡ at + (native_length i + code_length rest) = omega arith in
      let h = placed-append (at + native_length i) rest m in
      ap (λ l. placed offset at i ∷ l) (h ∙ ap (λ n. placed_from offset (at + native_length i) rest ++ placed_from offset n m) e)

  -- what jumps nowhere is as it is
  pub placed-plain : (at : ℕ) (l : List X86Insn) → placed_from offset at (plain l) ≡ l
  placed-plain at [] = refl
  placed-plain at (i ∷ rest) = ap (λ l. i ∷ l) (placed-plain (at + length_of i) rest)

-- ---- instructions in a text

-- the instructions stand one after the other from an offset on
pub record Lies (text : List ℕ) (at : ℕ) (l : List X86Insn) : Type 0 where
  pub before : List ℕ
  pub after : List ℕ
  pub place : length before ≡ at
  pub whole : text ≡ before ++ (all_bytes l ++ after)

pub lies-as : (text : List ℕ) (at : ℕ) (l m : List X86Insn) → l ≡ m → Lies text at l → Lies text at m
lies-as text at l m e h = subst (Lies text at) e h

pub lies-front : (text : List ℕ) (at : ℕ) (l m : List X86Insn) → Lies text at (l ++ m) → Lies text at l
lies-front text at l m h =
    let apart : all_bytes (l ++ m) ++ h.after ≡ all_bytes l ++ (all_bytes m ++ h.after) =
    ap (λ b. b ++ h.after) (flat_map-append bytes_of l m) ∙ append_assoc (all_bytes l) (all_bytes m) h.after in
    record { before = h.before; after = all_bytes m ++ h.after; place = h.place; whole = h.whole ∙ ap (λ b. h.before ++ b) apart }

pub lies-back : (text : List ℕ) (at : ℕ) (l m : List X86Insn) → Lies text at (l ++ m) → Lies text (at + total_length l) m
lies-back text at l m h =
    let apart : all_bytes (l ++ m) ++ h.after ≡ all_bytes l ++ (all_bytes m ++ h.after) =
    ap (λ b. b ++ h.after) (flat_map-append bytes_of l m) ∙ append_assoc (all_bytes l) (all_bytes m) h.after in
    let count : length (h.before ++ all_bytes l) ≡ at + total_length l =
    let a = length-append h.before (all_bytes l) in
    let b = bytes-length l in
    let c = h.place in
    omega (arith, a, b, c) in
    record {
      before = h.before ++ all_bytes l;
      after = h.after;
      place = count;
      whole = h.whole ∙ ap (λ b. h.before ++ b) apart ∙ sym (append_assoc h.before (all_bytes l) (all_bytes m ++ h.after));
    }

-- the first of them stands there
pub first-stands : (text : List ℕ) (at : ℕ) (i : X86Insn) (rest : List X86Insn) → IsX86Insn i → Lies text at (i ∷ rest) → StandsAtOffset text at i
first-stands text at i rest is h =
    let behind : List ℕ = all_bytes rest ++ h.after in
    let apart : all_bytes (i ∷ rest) ++ h.after ≡ bytes_of i ++ behind = append_assoc (bytes_of i) (all_bytes rest) h.after in
    record {
      before = h.before;
      after = bytes_of i ++ behind;
      place = h.place;
      whole = h.whole ∙ ap (λ b. h.before ++ b) apart;
      begins = record { front = bytes_of i; rest = behind; encodes = record { insn = is; own = refl }; whole = refl };
    }

-- ---- blocks in native code

module _ (p : Places) (lean : Lean) (metered : Bool) (code : List Insn) where
  abbrev offset : ℕ → ℕ
  offset = offset_of p lean metered code

  abbrev pub block : ℕ → List NativeInsn
  block k = block_at p lean metered code k (slice_get code k)

  abbrev pub front : ℕ → List NativeInsn
  front = front_code p lean metered code

  -- the padding from an offset to the block of an index, if that is a loop head
  abbrev pub pad : ℕ → ℕ → List NativeInsn
  pad k at = cond (is_loop_head code k) (padding k at) []

  -- where the block of an index ends
  abbrev pub end_of : ℕ → ℕ
  end_of k = code_length (front k ++ block k)

  -- the padding behind it
  abbrev pub gap : ℕ → List NativeInsn
  gap k = pad (suc k) (end_of k)

  pub end-is : (k : ℕ) → end_of k ≡ offset k + code_length (block k)
  end-is k = length-append-code (front k) (block k)

  -- a block in what stands in front of another
  pub record IsWithin (k n : ℕ) : Type 0 where
    pub rest : List NativeInsn
    pub whole : front n ≡ front k ++ (block k ++ (gap k ++ rest))

  within : (n k : ℕ) → k < n → IsWithin k n
  within zero k h = absurd (omega (arith, h))
  within (suc m) k h = elim (cases_eq k m) [
    | inl e ↦
        let last : front (suc m) ≡ front m ++ (block m ++ (gap m ++ [])) =
        append_assoc (front m) (block m) (gap m) ∙ ap (λ l. front m ++ (block m ++ l)) (sym (append-nil (gap m))) in
        subst (λ j. IsWithin j (suc m)) (sym e) (record { rest = []; whole = last })
    | inr n ↦
        let w = within m k (omega (arith, h, n)) in
        let next : List NativeInsn = block m ++ gap m in
        record {
          rest = w.rest ++ next;
          whole =
              append_assoc (front m) (block m) (gap m) ∙ ap (λ l. l ++ next) w.whole ∙ append_assoc (front k) (block k ++ (gap k ++ w.rest)) next
              ∙ ap (λ l. front k ++ l) (append_assoc (block k) (gap k ++ w.rest) next ∙ ap (λ l. block k ++ l) (append_assoc (gap k) w.rest next));
        }
  ]

  -- where the next block begins
  pub offset-next : (k : ℕ) → offset (suc k) ≡ offset k + code_length (block k) + code_length (gap k)
  offset-next k = length-append-code (front k ++ block k) (gap k) ∙ ap (λ n. n + code_length (gap k)) (end-is k)

  abbrev text : List ℕ
  text = native_text p lean metered code

  -- what stands in front of a list stands before it
  pub part-lies : (before part rest : List NativeInsn) (at : ℕ) → whole_code p lean metered code ≡ before ++ (part ++ rest) → code_length before ≡ at →
      Lies text at (placed_from offset at part)
  part-lies before part rest at e place =
      let insns : List NativeInsn → List X86Insn = placed_from offset 0 in
      let zero_up : 0 + code_length before ≡ at = omega (arith, place) in
      let behind : List X86Insn = placed_from offset (at + code_length part) rest in
      let split : insns (whole_code p lean metered code) ≡ insns before ++ (placed_from offset at part ++ behind) =
      ap insns e ∙ placed-append offset 0 before (part ++ rest)
      ∙ ap (λ n. insns before ++ placed_from offset n (part ++ rest)) zero_up
      ∙ ap (λ l. insns before ++ l) (placed-append offset at part rest) in
      let all : Lies text 0 (insns before ++ (placed_from offset at part ++ behind)) =
      record { before = []; after = []; place = refl; whole = ap all_bytes split ∙ sym (append-nil _) } in
      let at_part : 0 + total_length (insns before) ≡ at = let n = placed-length offset 0 before in omega (arith, n, place) in
      lies-front text at (placed_from offset at part) behind
      (subst (λ n. Lies text n (placed_from offset at part ++ behind)) at_part
      (lies-back text 0 (insns before) (placed_from offset at part ++ behind) all))

  -- each block stands at its offset
  pub block-lies : (k : ℕ) → k ≤ length code → Lies text (offset k) (placed_from offset (offset k) (block k))
  block-lies k h =
      let w = within (suc (length code)) k (omega (arith, h)) in
      part-lies (front k) (block k) (gap k ++ w.rest) (offset k) w.whole refl

  -- and the padding at its end
  pub gap-lies : (k : ℕ) → k ≤ length code → Lies text (end_of k) (placed_from offset (end_of k) (gap k))
  gap-lies k h =
      let w = within (suc (length code)) k (omega (arith, h)) in
      part-lies (front k ++ block k) (gap k) w.rest (end_of k) (w.whole ∙ sym (append_assoc (front k) (block k) (gap k ++ w.rest))) refl

  -- the entry stands at the beginning
  pub entry-lies : (rest : List NativeInsn) (entry : List X86Insn) → whole_code p lean metered code ≡ plain entry ++ rest → Lies text 0 entry
  entry-lies rest entry e = lies-as text 0 (placed_from offset 0 (plain entry)) entry (placed-plain offset 0 entry) (part-lies [] (plain entry) rest 0 e refl)
