-- The lines of a text and the words of a line, by what they are.
use Rattle.std.proofs.Common.{◌≡◌, ℕ, inl, inr, Bool, true, false, cond, List, [], ◌∷◌}
use Rattle.std.proofs.Common.{◌++◌, refl, sym, ap, ◌∙◌, arith}
use Rattle.std.specs.Prelude.{◌==◌}
use Rattle.std.proofs.lemmas.Bool.{false≢true, eqb-true}
use Rattle.agent_script.specs.Lines.{before_first, script_lines, parts_words, begins_parted}
use Rattle.agent_script.specs.Lines.{line_words}
use Rattle.agent_script.specs.Inside.Words.{HasNoEnd, HasNoBlank, IsBlank}
use Rattle.agent_script.specs.Texts.{AreLfLines, IsGap, AreWords}
use Rattle.agent_script.proofs.Cuts.{no_end_front, one_line, no_blank_front, blank_front, bare_word}

-- ---- lines

-- a byte in front of the first line
line-more : (b : ℕ) (bs : List ℕ) (lines : List (List ℕ)) → (b == 10) ≡ false
    → AreLfLines bs lines → AreLfLines (b ∷ bs) (before_first b lines)
line-more b bs [] h none = ((h, tt), inl (refl, ap (λ l. b ∷ l) none, omega arith))
line-more b bs (line ∷ lines) h (plain, inl (last, is, some)) =
    ((h, plain), inl (last, ap (λ l. b ∷ l) is, omega arith))
line-more b bs (line ∷ lines) h (plain, inr (rest, is, at)) =
    ((h, plain), inr (rest, ap (λ l. b ∷ l) is, at))

lines-by : (b : ℕ) (bs : List ℕ) (t : Bool) → (b == 10) ≡ t → AreLfLines bs (script_lines bs)
    → AreLfLines (b ∷ bs) (cond t ([] ∷ script_lines bs) (before_first b (script_lines bs)))
lines-by b bs true e at = (tt, inr (bs, ap (λ c. c ∷ bs) (eqb-true b 10 e), at))
lines-by b bs false e at = line-more b bs (script_lines bs) e at

-- the lines of a text are its lines
pub are-lines : (text : List ℕ) → AreLfLines text (script_lines text)
are-lines [] = refl
are-lines (b ∷ bs) = lines-by b bs (b == 10) refl (are-lines bs)

line-front : (line rest : List ℕ) → HasNoEnd line
    → script_lines (line ++ 10 ∷ rest) ≡ line ∷ script_lines rest
line-front [] rest h = refl
line-front (b ∷ bs) rest h =
    no_end_front b (bs ++ 10 ∷ rest) h.0 ∙ ap (before_first b) (line-front bs rest h.1)

-- and it has no others
pub lines-only : (lines : List (List ℕ)) (text : List ℕ) → AreLfLines text lines
    → script_lines text ≡ lines
lines-only [] text none = ap script_lines none
lines-only (line ∷ lines) text (plain, inl (last, is, some)) =
    ap script_lines is ∙ one_line line plain some ∙ ap (λ l. line ∷ l) (sym last)
lines-only (line ∷ lines) text (plain, inr (rest, is, at)) =
    ap script_lines is ∙ line-front line rest plain ∙ ap (λ l. line ∷ l) (lines-only lines rest at)

-- ---- words

-- a byte in front of the first word
word-more : (b : ℕ) (bs : List ℕ) (words : List (List ℕ)) → parts_words b ≡ false
    → AreWords bs words → AreWords (b ∷ bs) (before_first b words)
word-more b bs [] h none = absurd none
word-more b bs (word ∷ words) h (plain, inl (last, is)) =
    ((h, plain), inl (last, ap (λ l. b ∷ l) is))
word-more b bs (word ∷ words) h (plain, inr (gap, rest, is, parts, stops, at)) =
    ((h, plain), inr (gap, rest, ap (λ l. b ∷ l) is, parts, stops, at))

-- the last blank in front
gap-first : (b : ℕ) (bs : List ℕ) (words : List (List ℕ)) → parts_words b ≡ true
    → begins_parted bs ≡ false → AreWords bs words → AreWords (b ∷ bs) ([] ∷ words)
gap-first b bs words h stops at =
    (tt, inr (b ∷ [], bs, refl, (omega arith, (h, tt)), stops, at))

-- a blank in front of another
gap-more : (b : ℕ) (bs : List ℕ) (words : List (List ℕ)) → parts_words b ≡ true
    → begins_parted bs ≡ true → AreWords bs words → AreWords (b ∷ bs) words
gap-more b bs [] h goes none = absurd none
gap-more b bs ([] ∷ words) h goes (plain, inl (last, is)) =
    absurd (false≢true (sym (ap begins_parted is) ∙ goes))
gap-more b bs ([] ∷ words) h goes (plain, inr (gap, rest, is, parts, stops, at)) =
    (tt, inr (b ∷ gap, rest, ap (λ l. b ∷ l) is, (omega arith, (h, parts.1)), stops, at))
gap-more b bs ((d ∷ ds) ∷ words) h goes (plain, inl (last, is)) =
    absurd (false≢true (sym plain.0 ∙ sym (ap begins_parted is) ∙ goes))
gap-more b bs ((d ∷ ds) ∷ words) h goes (plain, inr (gap, rest, is, parts, stops, at)) =
    absurd (false≢true (sym plain.0 ∙ sym (ap begins_parted is) ∙ goes))

words-by : (b : ℕ) (bs : List ℕ) (t goes : Bool) → parts_words b ≡ t → begins_parted bs ≡ goes
    → AreWords bs (line_words bs)
    → AreWords (b ∷ bs) (cond t (cond goes (line_words bs) ([] ∷ line_words bs))
    (before_first b (line_words bs)))
words-by b bs true true e g at = gap-more b bs (line_words bs) e g at
words-by b bs true false e g at = gap-first b bs (line_words bs) e g at
words-by b bs false goes e g at = word-more b bs (line_words bs) e at

-- the words of a line are its words
pub are-words : (line : List ℕ) → AreWords line (line_words line)
are-words [] = (tt, inl (refl, refl))
are-words (b ∷ bs) = words-by b bs (parts_words b) (begins_parted bs) refl refl (are-words bs)

gap-cut : (c : ℕ) (gap rest : List ℕ) → parts_words c ≡ true → IsBlank gap
    → begins_parted rest ≡ false → line_words (c ∷ (gap ++ rest)) ≡ [] ∷ line_words rest
gap-cut c [] rest h hs stops = blank_front c rest false h stops
gap-cut c (d ∷ gap) rest h hs stops =
    blank_front c (d ∷ (gap ++ rest)) true h hs.0 ∙ gap-cut d gap rest hs.0 hs.1 stops

word-front : (word gap rest : List ℕ) → HasNoBlank word → IsGap gap → begins_parted rest ≡ false
    → line_words (word ++ (gap ++ rest)) ≡ word ∷ line_words rest
word-front [] [] rest h parts stops = absurd (omega (arith, parts.0))
word-front [] (c ∷ gap) rest h parts stops = gap-cut c gap rest parts.1.0 parts.1.1 stops
word-front (b ∷ bs) gap rest h parts stops =
    no_blank_front b (bs ++ (gap ++ rest)) h.0
    ∙ ap (before_first b) (word-front bs gap rest h.1 parts stops)

-- and it has no others
pub words-only : (words : List (List ℕ)) (line : List ℕ) → AreWords line words
    → line_words line ≡ words
words-only [] line none = absurd none
words-only (word ∷ words) line (plain, inl (last, is)) =
    ap line_words is ∙ bare_word word plain ∙ ap (λ l. word ∷ l) (sym last)
words-only (word ∷ words) line (plain, inr (gap, rest, is, parts, stops, at)) =
    ap line_words is ∙ word-front word gap rest plain parts stops
    ∙ ap (λ l. word ∷ l) (words-only words rest at)
