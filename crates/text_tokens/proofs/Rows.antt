-- Registers and digits from a place on.
use Rattle.std.proofs.Common.{◌≡◌, ℕ, suc, ◌+◌, ◌^◌, ◌<◌, ◌≤◌, Bool, true, false, cond, List, [], ◌∷◌, length, get_or, take, drop, Some, None, refl, sym, ap, ◌∙◌, arith, ltb}
use Rattle.std.specs.Prelude.{◌&&◌}
use Rattle.std.specs.Str.Parse.{digits_value}
use Rattle.std.specs.Char.{digit_value}
use Rattle.std.proofs.lemmas.List.{drop_more, drop_all, take_all}
use Rattle.std.proofs.lemmas.Bool.{cond-true, lt-ltb, ltb-false}
use Rattle.text_tokens.specs.declared.registers.Row.{Row}
use Rattle.text_tokens.specs.Registers.{is_named, register_in}
use Rattle.text_tokens.specs.Numbers.{are_digits, numeral}
use Rattle.text_tokens.specs.Inside.Rows.{rows_view, if_word}

-- ---- registers

row_step : (rows : List Row) (i : ℕ) (d : Row) (w : List ℕ) (t : Bool) → i < length rows → is_named ((get_or rows i d).0.now, (get_or rows i d).1.now) w ≡ t →
    register_in (rows_view (drop i rows)) i w ≡ cond t (Some i) (register_in (rows_view (drop (i + 1) rows)) (i + 1) w)
row_step rows i d w t h n =
    ap (λ l. register_in (rows_view l) i w) (drop_more rows i d h)
    ∙ ap (λ b. cond b (Some i) (register_in (rows_view (drop (i + 1) rows)) (suc i) w)) n
    ∙ (let z : suc i ≡ i + 1 = omega arith in ap (λ j. cond t (Some i) (register_in (rows_view (drop (i + 1) rows)) j w)) z)

pub rows_here : (rows : List Row) (i : ℕ) (d : Row) (w : List ℕ) → i < length rows → is_named ((get_or rows i d).0.now, (get_or rows i d).1.now) w ≡ true → register_in (rows_view (drop i rows)) i w ≡ Some i
rows_here rows i d w h n = row_step rows i d w true h n

pub rows_more : (rows : List Row) (i : ℕ) (d : Row) (w : List ℕ) → i < length rows → is_named ((get_or rows i d).0.now, (get_or rows i d).1.now) w ≡ false → register_in (rows_view (drop (i + 1) rows)) (i + 1) w ≡ register_in (rows_view (drop i rows)) i w
rows_more rows i d w h n = sym (row_step rows i d w false h n)

pub rows_past : (rows : List Row) (i : ℕ) (w : List ℕ) → length rows ≤ i → register_in (rows_view (drop i rows)) i w ≡ None
rows_past rows i w h = ap (λ l. register_in (rows_view l) i w) (drop_all i rows h)

-- ---- digits

pub digits_more : (radix : ℕ) (ds : List ℕ) (i : ℕ) → i < length ds → digit_value (get_or ds i 0) < radix → are_digits radix (drop (i + 1) ds) ≡ are_digits radix (drop i ds)
digits_more radix ds i h e = sym (ap (are_digits radix) (drop_more ds i 0 h) ∙ ap (λ t. t && are_digits radix (drop (i + 1) ds)) (lt-ltb _ radix e))

pub digits_past : (radix : ℕ) (ds : List ℕ) (i : ℕ) → length ds ≤ i → are_digits radix (drop i ds) ≡ true
digits_past radix ds i h = ap (are_digits radix) (drop_all i ds h)

pub value_all : (radix : ℕ) (ds : List ℕ) (i : ℕ) → length ds ≤ i → digits_value radix (take i ds) ≡ digits_value radix ds
value_all radix ds i h = ap (digits_value radix) (take_all i ds h)

pub numeral_some : (radix : ℕ) (ds : List ℕ) → 0 < length ds → are_digits radix ds ≡ true → numeral radix ds ≡ Some (digits_value radix ds)
numeral_some radix [] l e = absurd (omega arith)
numeral_some radix (c ∷ cs) l e = cond-true (are_digits radix (c ∷ cs)) (Some (digits_value radix (c ∷ cs))) None e

no_word_by : (n : ℕ) (t : Bool) → ltb n (2 ^ 64) ≡ t → None ≡ cond t (Some n) None → 2 ^ 64 ≤ n
no_word_by n true e h = cc
no_word_by n false e h = ltb-false n (2 ^ 64) e

pub no_word : (n : ℕ) → None ≡ if_word n → 2 ^ 64 ≤ n
no_word n h = no_word_by n (ltb n (2 ^ 64)) refl h
