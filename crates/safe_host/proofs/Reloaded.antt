-- The words of an arena into which bytes are put, and of which only the words around them are cleared.
use Rattle.std.proofs.Common.{◌≡◌, ◌≢◌, ℕ, ◌+◌, ◌-◌, ◌*◌, ◌/◌, ◌<◌, ◌≤◌, List, length, slice_index, slice_set, refl, sym, ◌∙◌, ap, arith, inl, inr, length-set}
use Rattle.std.proofs.lemmas.Bool.{cases_lt, lt-ltb, le-ltb}
use Rattle.std.proofs.lemmas.List.{get_or-set_same, get_or-set_other}
use Rattle.reference_machine.specs.Arena.{quadword, placed_word, placed_words, IsZeroFrom}
use Rattle.reference_machine.proofs.ArenaWords.{is_arena_words}
use Rattle.reference_machine.proofs.Filling.{quadword-past}

-- each word but those past the whole quadwords is what it has to be, and those past them are 0
pub record HasWhole (place : ℕ) (bytes words : List ℕ) : Type 0 where
  pub before : (p : ℕ) → p < place → slice_index words p ≡ 0
  pub whole : (p : ℕ) → place ≤ p → p < place + length bytes / 8 → slice_index words p ≡ quadword bytes (p - place)
  pub past : IsZeroFrom (place + length bytes / 8) words

-- the words after two clearings and the copy
pub has-whole : (place end : ℕ) (bytes old one two put : List ℕ) → IsZeroFrom end old
    → ((p : ℕ) → 0 ≤ p → p < place → slice_index one p ≡ 0)
    → ((p : ℕ) → place ≤ p → slice_index one p ≡ slice_index old p)
    → ((p : ℕ) → place + length bytes / 8 ≤ p → p < end → slice_index two p ≡ 0)
    → ((p : ℕ) → p < place + length bytes / 8 → slice_index two p ≡ slice_index one p)
    → ((p : ℕ) → end ≤ p → slice_index two p ≡ slice_index one p)
    → ((p : ℕ) → place ≤ p → p < place + length bytes / 8 → slice_index put p ≡ quadword bytes (p - place))
    → ((p : ℕ) → p < place → slice_index put p ≡ slice_index two p)
    → ((p : ℕ) → place + length bytes / 8 ≤ p → slice_index put p ≡ slice_index two p)
    → HasWhole place bytes put
has-whole place end bytes old one two put zero one-at one-after two-at two-before two-after put-at put-before put-after =
    record {
      before = λ p lt. put-before p lt ∙ two-before p (omega (arith, lt)) ∙ one-at p (omega arith) lt;
      whole = put-at;
      past = λ p from. put-after p from ∙ elim (cases_lt p end) [
        | inl within ↦ two-at p from within
        | inr past ↦ two-after p past ∙ one-after p (omega (arith, from)) ∙ zero p past
      ];
    }

-- no byte is left
pub reloaded-whole : (place : ℕ) (bytes words : List ℕ) → length words ≡ 8194 → HasWhole place bytes words
    → length bytes ≤ 8 * (length bytes / 8) → words ≡ placed_words place bytes
reloaded-whole place bytes words len has none = is_arena_words (placed_word place bytes) words len (λ p lt.
    elim (cases_lt p place) [
      | inl before ↦ has.before p before ∙ sym (rw (lt-ltb p place before) refl)
      | inr from ↦ elim (cases_lt p (place + length bytes / 8)) [
        | inl within ↦ has.whole p from within ∙ sym (rw (le-ltb p place from) refl)
        | inr past ↦ has.past p past ∙ sym (rw (le-ltb p place from, quadword-past bytes (p - place) (omega (arith, none, past))) refl)
      ]
    ])

-- the last bytes go into a word of their own
pub reloaded-last : (place : ℕ) (bytes words : List ℕ) (word : ℕ) → length words ≡ 8194 → HasWhole place bytes words
    → place + length bytes / 8 < 8194 → word ≡ quadword bytes (length bytes / 8)
    → slice_set words (place + length bytes / 8) word ≡ placed_words place bytes
reloaded-last place bytes words word len has fits is =
    let n = place + length bytes / 8 in
    let other : (p : ℕ) → p ≢ n → slice_index (slice_set words n word) p ≡ slice_index words p = λ p no. get_or-set_other words n p word 0 no in
    is_arena_words (placed_word place bytes) (slice_set words n word) (length-set words n word ∙ len) (λ p lt.
    elim (cases_lt p place) [
      | inl before ↦ other p (λ e. absurd (omega (arith, before, e))) ∙ has.before p before ∙ sym (rw (lt-ltb p place before) refl)
      | inr from ↦ elim (cases_lt p n) [
        | inl within ↦ other p (λ e. absurd (omega (arith, within, e))) ∙ has.whole p from within ∙ sym (rw (le-ltb p place from) refl)
        | inr past ↦ elim (cases_lt n p) [
          | inl behind ↦
              other p (λ e. absurd (omega (arith, behind, e))) ∙ has.past p past
              ∙ sym (rw (le-ltb p place from, quadword-past bytes (p - place) (omega (arith, behind))) refl)
          | inr not ↦
              let here : p ≡ n = omega (arith, not, past) in
              let k : n - place ≡ length bytes / 8 = omega arith in
              rw (here) (get_or-set_same words n word 0 (omega (arith, fits, len)) ∙ is
              ∙ sym (rw (le-ltb n place (omega arith), k) refl))
        ]
      ]
    ])
