-- What is printed beside code can stand in comments.
use Rattle.std.proofs.Common.{◌≡◌, ℕ, zero, suc, ◌+◌, ◌*◌, ◌/◌, ◌%◌, ◌^◌, ◌<◌, ◌≤◌, Bool}
use Rattle.std.proofs.Common.{true, false, cond, List, [], ◌∷◌, ◌++◌, length, length-append, map, get_or, Option}
use Rattle.std.proofs.Common.{Some, None, refl, ap, arith}
use Rattle.std.specs.Prelude.{codes, decimal, slice_get, slice_index, ◌==◌, option_and_then}
use Rattle.std.specs.Str.{bytes_eq}
use Rattle.std.specs.List.{AllByRecursion, list_all, range_with_len}
use Rattle.std.specs.Int.{w32, byte_at, bytes_high_first, to_be_bytes}
use Rattle.std.proofs.lemmas.Bool.{and_parts, and_from}
use Rattle.hex.specs.Hex.{lower_digits, encode_with, encode_lower}
use Rattle.hex.proofs.HexLemmas.{length-encode_with}
use Rattle.term_table.specs.Bytes.{IsBytes}
use Rattle.term_table.specs.Tree.{Tree}
use Rattle.term_table.specs.Measures.{height_of, weight_of, capped}
use Rattle.lf_signature.specs.Constants.{places_of}
use Rattle.lf_signature.specs.declared.editions.WordSignature.{WordSignature}
use Rattle.alpha_cfg.specs.CodeBytes.{code_word_at}
use Rattle.asm_text.specs.Statements.{is_printable, are_printable}
use Rattle.proof_container.specs.declared.container.Head.{Head}
use Rattle.proof_container.specs.declared.container.Head.TheVariants.{Number, Digest}
use Rattle.proof_container.specs.Versions.{IsHead, IsBoundOf, AreLemmasOf, signature_of}
use Rattle.proof_container.specs.Contents.{Contents, roots}
use Rattle.proof_container.specs.Postorder.{entries}
use Rattle.proof_container.specs.Encoding.{IsContents}
use Rattle.asm_print.specs.Laws.{IsComment, AreSpellableExtras}
use Rattle.asm_print.proofs.Characters.{printable-append, clean_printable, decimal_clean, decimal_short}
use Rattle.view_entries.specs.SourceLines.{source_place}
use Rattle.view_container.specs.Words.{indexed_word, word_comment, word_hint}
use Rattle.view_container.specs.Notes.{named_policy, version_note, bound_notes, counts_note, measures_text, proof_note, lemma_notes, notes_of}
use Rattle.view_container.specs.Sources.{extras_of}
use Rattle.view_container.specs.Beside.{BesideView, common_front, first_other, difference_notes, notes_beside}
use Rattle.view_container.specs.Laws.{AreLineNumbers}

-- ---- parts of comments

-- printable, and at most so long
record IsPart (n : ℕ) (w : List ℕ) : Type 0 where
  printable : are_printable w ≡ true
  short : length w ≤ n

joined : (m n : ℕ) (a b : List ℕ) → IsPart m a → IsPart n b → IsPart (m + n) (a ++ b)
joined m n a b h g = record {
  printable = printable-append a b h.printable g.printable;
  short = omega (arith, length-append a b, h.short, g.short);
}

-- a text as it stands
said : (k : ℕ) (w : List ℕ) → length w ≡ k → are_printable w ≡ true → IsPart k w
said k w n h = record { printable = h; short = omega (arith, n) }

number : (n : ℕ) → n < 2 ^ 64 → IsPart 20 (decimal n)
number n h =
    record { printable = clean_printable (decimal n) (decimal_clean n h); short = decimal_short n h }

comment : (n : ℕ) (w : List ℕ) → n ≤ 512 → IsPart n w → IsComment w
comment n w le h = record { printable = h.printable; short = omega (arith, h.short) }

-- ---- hexadecimal digits

passes-at : (p : ℕ → Bool) (xs : List ℕ) (k : ℕ) → list_all p xs ≡ true → k < length xs
    → p (get_or xs k 0) ≡ true
passes-at p [] k h lt = absurd (omega arith)
passes-at p (x ∷ xs) zero h lt = (and_parts (p x) (list_all p xs) h).0
passes-at p (x ∷ xs) (suc k) h lt =
    passes-at p xs k (and_parts (p x) (list_all p xs) h).1 (omega arith)

digit : (k : ℕ) → k < 16 → is_printable (slice_index lower_digits k) ≡ true
digit k h =
    let sixteen : length lower_digits ≡ 16 = refl in
    passes-at is_printable lower_digits k refl (omega (arith, sixteen))

digits : (bytes : List ℕ) → IsBytes bytes → are_printable (encode_with lower_digits bytes) ≡ true
unfolding encode_with
digits [] h = refl
digits (b ∷ rest) h =
    let byte : b < 256 = h 0 in
    and_from _ _ (digit (b / 16) (omega arith))
    (and_from _ _ (digit (b % 16) (omega arith)) (digits rest (λ i. h (suc i))))

hex_part : (n : ℕ) (bytes : List ℕ) → IsBytes bytes → 2 * length bytes ≡ n
    → IsPart n (encode_lower bytes)
hex_part n bytes h e = record {
  printable = digits bytes h;
  short = omega (arith, length-encode_with lower_digits bytes, e);
}

byte-small : (k n : ℕ) → byte_at k n < 256
byte-small zero n = omega arith
byte-small (suc k) n = omega arith

bytes-high : (k n : ℕ) → IsBytes (bytes_high_first k n)
bytes-high zero n i = omega arith
bytes-high (suc k) n zero = byte-small k n
bytes-high (suc k) n (suc i) = bytes-high k n i

length-high : (k n : ℕ) → length (bytes_high_first k n) ≡ k
length-high zero n = refl
length-high (suc k) n = ap suc (length-high k n)

word_hex : (w : ℕ) → IsPart 8 (encode_lower (to_be_bytes w32 w))
word_hex w = hex_part 8 (to_be_bytes w32 w) (bytes-high 4 w) (omega (arith, length-high 4 w))

-- ---- comments of words

line : (o : Option ℕ) → ((n : ℕ) → o ≡ Some n → n < 2 ^ 32) → IsPart 26 (source_place o)
line None h = record { printable = refl; short = omega arith }
line (Some n) h =
    let small : n < 2 ^ 32 = h n refl in
    joined 6 20 (codes " line ") (decimal n) (said 6 (codes " line ") refl refl)
    (number n (omega arith))

word_is : (code lines : List ℕ) (i : ℕ) → i < 2 ^ 64 → AreLineNumbers lines
    → IsComment (word_comment code lines i)
word_is code lines i h numbers =
    let hex = encode_lower (to_be_bytes w32 (code_word_at code i)) in
    let blank : List ℕ = 32 ∷ [] in
    let word = joined 20 9 (decimal i) (32 ∷ hex) (number i h)
    (joined 1 8 blank hex (said 1 blank refl refl) (word_hex (code_word_at code i))) in
    comment 55 _ (omega arith)
    (joined 29 26 (indexed_word code i) (source_place (slice_get lines i)) word
    (line (slice_get lines i) (numbers i)))

-- ---- lists

each : {X : Type 0} (P : X → Type 0) (f : ℕ → X) (a n : ℕ) → ((i : ℕ) → i < a + n → P (f i))
    → AllByRecursion P (map f (range_with_len a n))
each P f a zero h = tt
each P f a (suc n) h =
    (h a (omega arith), each P f (a + 1) n (λ i lt. h i (omega arith)))

both : {X : Type 0} (P : X → Type 0) (xs ys : List X) → AllByRecursion P xs → AllByRecursion P ys
    → AllByRecursion P (xs ++ ys)
both P [] ys h g = g
both P (x ∷ xs) ys h g = (h.0, both P xs ys h.1 g)

-- ---- notes

policy : (v : ℕ) (head : Head) → IsHead v head → IsPart 71 (named_policy head)
policy v (Number n) h =
    let small : n < 2 ^ 32 = h.1 in
    let text = joined 14 20 (codes "policy number ") (decimal n)
    (said 14 (codes "policy number ") refl refl) (number n (omega arith)) in
    record { printable = text.printable; short = omega (arith, text.short) }
policy v (Digest d) h =
    joined 7 64 (codes "policy ") (encode_lower d) (said 7 (codes "policy ") refl refl)
    (hex_part 64 d h.2 (omega (arith, h.1)))

bounds : (v : ℕ) (bound : Option ℕ) → IsBoundOf v bound
    → AllByRecursion IsComment (bound_notes bound)
bounds v None h = tt
bounds v (Some n) h =
    let most : n ≤ 1000000000 = h.2 in (
      comment 26 _ (omega arith)
          (joined 6 20 (codes "bound ") (decimal n) (said 6 (codes "bound ") refl refl)
          (number n (omega arith))),
      tt,
    )

measures : (s : WordSignature) (t : Tree) → IsPart 56 (measures_text s t)
measures s t =
    let weight : capped (weight_of (places_of s) t) < 2 ^ 64 = omega arith in
    let height : capped (height_of t) < 2 ^ 64 = omega arith in
    joined 7 49 (codes "weight ") _ (said 7 (codes "weight ") refl refl)
    (joined 20 29 (decimal (capped (weight_of (places_of s) t))) _
    (number (capped (weight_of (places_of s) t)) weight)
    (joined 9 20 (codes ", height ") (decimal (capped (height_of t)))
    (said 9 (codes ", height ") refl refl) (number (capped (height_of t)) height)))

proofs : (s : WordSignature) (proof : Option Tree) → IsComment (proof_note s proof)
proofs s None = comment 8 (codes "no proof") (omega arith) (said 8 (codes "no proof") refl refl)
proofs s (Some t) =
    comment 63 _ (omega arith)
    (joined 7 56 (codes "proof: ") (measures_text s t) (said 7 (codes "proof: ") refl refl)
    (measures s t))

lemmas : (s : WordSignature) (k : ℕ) (ls : List (Tree × Tree)) → k + length ls < 2 ^ 64
    → AllByRecursion IsComment (lemma_notes s k ls)
lemmas s k [] h = tt
lemmas s k (l ∷ ls) h = (
  comment 84 _ (omega arith)
      (joined 6 78 (codes "lemma ") _ (said 6 (codes "lemma ") refl refl)
      (joined 20 58 (decimal k) _ (number k (omega arith))
      (joined 2 56 (codes ": ") (measures_text s l.1) (said 2 (codes ": ") refl refl)
      (measures s l.1)))),
  lemmas s (suc k) ls (omega arith),
)

few_lemmas : (v : ℕ) (ls : List (Tree × Tree)) → AreLemmasOf v ls → length ls ≤ 256
few_lemmas v [] h = omega arith
few_lemmas v (l ∷ ls) h = h.1

version : (c : Contents) → IsContents c → IsComment (version_note c)
version c h =
    let low : c.version ≤ 4 = h.version.1 in
    comment 101 _ (omega arith)
    (joined 8 93 (codes "version ") _ (said 8 (codes "version ") refl refl)
    (joined 20 73 (decimal c.version) _ (number c.version (omega arith))
    (joined 2 71 (codes ", ") (named_policy c.head) (said 2 (codes ", ") refl refl)
    (policy c.version c.head h.head))))

counts : (c : Contents) → IsContents c → IsComment (counts_note c)
counts c h =
    let invs : length c.invs ≤ 256 = h.invs in
    let all : length (entries (roots c)) ≤ 262144 = h.entries in
    comment 61 _ (omega arith)
    (joined 20 41 (decimal (length c.invs)) _ (number (length c.invs) (omega arith))
    (joined 13 28 (codes " invariants, ") _ (said 13 (codes " invariants, ") refl refl)
    (joined 20 8 (decimal (length (entries (roots c)))) (codes " entries")
    (number (length (entries (roots c))) (omega arith)) (said 8 (codes " entries") refl refl))))

notes : (c : Contents) → IsContents c → AllByRecursion IsComment (notes_of c)
notes c h =
    let s = signature_of c.version in (
      version c h,
      both IsComment (bound_notes c.bound) _ (bounds c.version c.bound h.bound) (
        counts c h,
        (
          proofs s c.proof,
          lemmas s 0 c.lemmas
              (omega (arith, few_lemmas c.version c.lemmas h.lemmas)),
        ),
      ),
    )

-- ---- a source beside

common-within : (code other : List ℕ) → common_front code other ≤ length code
common-within [] other = omega arith
common-within (b ∷ code) [] = omega arith
common-within (b ∷ code) (d ∷ other) = go (b == d) (common-within code other) where
  go : (t : Bool) → common_front code other ≤ length code
      → cond t (suc (common_front code other)) 0 ≤ suc (length code)
  go true rest = omega (arith, rest)
  go false rest = omega arith

difference : (lines : List ℕ) (i : ℕ) → i < 2 ^ 64 → AreLineNumbers lines
    → AllByRecursion IsComment (difference_notes lines (Some i))
difference lines i h numbers = (
  comment 72 _ (omega arith)
      (joined 26 46 (codes "SOURCE differs from index ") _
      (said 26 (codes "SOURCE differs from index ") refl refl)
      (joined 20 26 (decimal i) (source_place (slice_get lines i)) (number i h)
      (line (slice_get lines i) (numbers i)))),
  tt,
)

-- what is noted of a source can stand in comments
beside_notes : (code : List ℕ) (beside : BesideView) → length code ≤ 4096
    → AreLineNumbers beside.lines → AllByRecursion IsComment (notes_beside code beside)
beside_notes code beside short numbers = of_code beside.code where
  of_test : (other : List ℕ) (t : Bool) → AllByRecursion IsComment
      (difference_notes beside.lines (cond t None (Some (common_front code other / 4))))
  of_test other true = tt
  of_test other false =
      let within = common-within code other in
      difference beside.lines (common_front code other / 4) (omega (arith, within, short)) numbers

  of_code : (o : Option (List ℕ)) → AllByRecursion IsComment
      (difference_notes beside.lines (option_and_then (first_other code) o))
  of_code None = tt
  of_code (Some other) = of_test other (bytes_eq code other)

-- ---- all

pub spellable_extras : (c : Contents) (beside : BesideView) → IsContents c
    → AreLineNumbers beside.lines → AreSpellableExtras (extras_of c beside)
spellable_extras c beside h numbers =
    let words : length c.code / 4 ≤ 1024 = omega (arith, h.short) in record {
      comments = each IsComment (word_comment c.code beside.lines) 0 (length c.code / 4)
          (λ i lt. word_is c.code beside.lines i (omega arith) numbers);
      hints = each (λ n. n ≤ 16383) (word_hint c.code) 0 (length c.code / 4) (λ i lt. omega arith);
      notes = both IsComment (notes_of c) (notes_beside c.code beside) (notes c h)
          (beside_notes c.code beside (omega (arith, h.short)) numbers);
    }
