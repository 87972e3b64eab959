-- Lines and words, cut off a text.
use Rattle.std.proofs.Common.{◌≡◌, ℕ, zero, suc, ◌<◌, ◌≤◌, Bool, true, false, cond, List, []}
use Rattle.std.proofs.Common.{◌∷◌, length, get_or, take, drop, refl, sym, ap, ◌∙◌, subst}
use Rattle.std.proofs.Common.{arith}
use Rattle.std.specs.Prelude.{◌==◌}
use Rattle.std.proofs.lemmas.Bool.{false≢true, eqb-true}
use Rattle.std.proofs.lemmas.List.{take_all, drop_all}
use Rattle.agent_script.specs.Lines.{before_first, script_lines, parts_words, begins_parted}
use Rattle.agent_script.specs.Lines.{line_words}
use Rattle.agent_script.specs.Inside.Words.{HasNoEnd, HasNoBlank, IsBlank}

-- ---- lines

-- no LF in front
pub no_end_front : (b : ℕ) (bs : List ℕ) → (b == 10) ≡ false
    → script_lines (b ∷ bs) ≡ before_first b (script_lines bs)
no_end_front b bs h =
    ap (λ (t : Bool). cond t ([] ∷ script_lines bs) (before_first b (script_lines bs))) h

-- a text without an end is one line
pub one_line : (text : List ℕ) → HasNoEnd text → 0 < length text → script_lines text ≡ text ∷ []
one_line [] h s = absurd (omega (arith, s))
one_line (b ∷ []) h s = no_end_front b [] h.0
one_line (b ∷ c ∷ bs) h s = no_end_front b (c ∷ bs) h.0
    ∙ ap (before_first b) (one_line (c ∷ bs) h.1 (omega arith))

-- a line with its end
pub ended_line : (text : List ℕ) (n : ℕ) → n < length text → HasNoEnd (take n text)
    → get_or text n 0 ≡ 10
    → script_lines text ≡ take n text ∷ script_lines (drop (suc n) text)
ended_line [] n less h e = absurd (omega (arith, less))
ended_line (b ∷ bs) zero less h e = ap (λ c. script_lines (c ∷ bs)) e
ended_line (b ∷ bs) (suc n) less h e = no_end_front b bs h.0
    ∙ ap (before_first b) (ended_line bs n (omega (arith, less)) h.1 e)

-- the last line, without an end
pub last_line : (text : List ℕ) (n : ℕ) → 0 < length text → length text ≤ n
    → HasNoEnd (take n text) → script_lines text ≡ text ∷ script_lines (drop n text)
last_line text n s h l =
    one_line text (subst (λ x. HasNoEnd x) (take_all n text h) l) s
    ∙ ap (λ x. text ∷ script_lines x) (sym (drop_all n text h))

-- nothing has no lines
pub no_lines_in : (text : List ℕ) → (length text == 0) ≡ true → script_lines text ≡ []
no_lines_in [] e = refl
no_lines_in (b ∷ bs) e = let none : length (b ∷ bs) ≡ 0 = eqb-true (length (b ∷ bs)) 0 e in
    absurd (omega (arith, none))

-- ---- words

-- no blank in front
pub no_blank_front : (b : ℕ) (bs : List ℕ) → parts_words b ≡ false
    → line_words (b ∷ bs) ≡ before_first b (line_words bs)
no_blank_front b bs h =
    ap (λ (t : Bool). cond t (cond (begins_parted bs) (line_words bs) ([] ∷ line_words bs))
    (before_first b (line_words bs))) h

-- a blank in front, and whether one goes on behind it
pub blank_front : (b : ℕ) (bs : List ℕ) (goes : Bool) → parts_words b ≡ true → begins_parted bs ≡ goes
    → line_words (b ∷ bs) ≡ cond goes (line_words bs) ([] ∷ line_words bs)
blank_front b bs goes h e =
    ap (λ (t : Bool). cond t (cond (begins_parted bs) (line_words bs) ([] ∷ line_words bs))
    (before_first b (line_words bs))) h
    ∙ ap (λ (t : Bool). cond t (line_words bs) ([] ∷ line_words bs)) e

-- a text without a blank is one word
pub bare_word : (word : List ℕ) → HasNoBlank word → line_words word ≡ word ∷ []
bare_word [] h = refl
bare_word (b ∷ bs) h = no_blank_front b bs h.0 ∙ ap (before_first b) (bare_word bs h.1)

pub one_word : (word : List ℕ) (n : ℕ) → length word ≤ n → HasNoBlank (take n word)
    → line_words word ≡ word ∷ []
one_word word n l h = bare_word word (subst (λ x. HasNoBlank x) (take_all n word l) h)

-- blanks in front of what isn't one
blanks_cut : (b : ℕ) (more : List ℕ) (j : ℕ) → parts_words b ≡ true → IsBlank (take j more)
    → begins_parted (drop j more) ≡ false
    → line_words (b ∷ more) ≡ [] ∷ line_words (drop j more)
blanks_cut b more zero h hs e = blank_front b more false h e
blanks_cut b [] (suc j) h hs e = blank_front b [] false h refl
blanks_cut b (c ∷ more) (suc j) h hs e = blank_front b (c ∷ more) true h hs.0
    ∙ blanks_cut c more j hs.0 hs.1 e

-- what stands behind so many blanks is none
stops_at : (text : List ℕ) (k : ℕ) → (k < length text → parts_words (get_or text k 0) ≡ false)
    → begins_parted (drop k text) ≡ false
stops_at [] zero e = refl
stops_at [] (suc k) e = refl
stops_at (c ∷ text) zero e = e (omega arith)
stops_at (c ∷ text) (suc k) e = stops_at text k (λ l. e (omega (arith, l)))

after_blanks : (b : ℕ) (more : List ℕ) (k : ℕ) → parts_words b ≡ true → IsBlank (take k (b ∷ more))
    → (k < length (b ∷ more) → parts_words (get_or (b ∷ more) k 0) ≡ false)
    → line_words (b ∷ more) ≡ [] ∷ line_words (drop k (b ∷ more))
after_blanks b more zero h hs e = absurd (false≢true (sym (e (omega arith)) ∙ h))
after_blanks b more (suc j) h hs e =
    blanks_cut b more j h hs.1 (stops_at more j (λ l. e (omega (arith, l))))

-- a word, and the blanks behind it
pub word_cut : (line : List ℕ) (n k : ℕ) → n < length line → HasNoBlank (take n line)
    → parts_words (get_or line n 0) ≡ true
    → IsBlank (take k (drop n line))
    → (k < length (drop n line) → parts_words (get_or (drop n line) k 0) ≡ false)
    → line_words line ≡ take n line ∷ line_words (drop k (drop n line))
word_cut [] n k less word parts blank stops = absurd (omega (arith, less))
word_cut (b ∷ bs) zero k less word parts blank stops = after_blanks b bs k parts blank stops
word_cut (b ∷ bs) (suc n) k less word parts blank stops =
    no_blank_front b bs word.0
    ∙ ap (before_first b) (word_cut bs n k (omega (arith, less)) word.1 parts blank stops)
