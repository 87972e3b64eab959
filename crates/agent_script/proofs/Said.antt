-- What the words of a line say, and what is wrong with those that say nothing.
use Rattle.std.proofs.Common.{◌≡◌, ℕ, ◌≤◌, inl, inr, Bool, true, false, cond, ◌&&◌}
use Rattle.std.proofs.Common.{List, [], ◌∷◌, length, Option, Some, None, Result, Ok, Err, refl}
use Rattle.std.proofs.Common.{sym, ap, ◌∙◌, subst, arith}
use Rattle.std.specs.Prelude.{◌==◌, not, nat_le, codes}
use Rattle.std.specs.Str.{bytes_eq, is_utf8}
use Rattle.std.proofs.lemmas.Bool.{false≢true, and_parts, and_from, leb-true, le-leb, cond-true}
use Rattle.std.proofs.lemmas.Bool.{ne_eqb, false_from_ne_true}
use Rattle.std.proofs.lemmas.Str.{IsUtf8-from_is_utf8}
use Rattle.text_tokens.specs.Numbers.{numeral}
use Rattle.text_tokens.proofs.Known.{same_bytes, bytes_same, numeral_is, is_numeral}
use Rattle.agent_script.specs.declared.script.TheConstants.{MAX_TURN}
use Rattle.agent_script.specs.declared.statement.TheConstants.{MAX_DIGITS}
use Rattle.agent_script.specs.declared.fault.ScriptFlaw.{ScriptFlaw}
use Rattle.agent_script.specs.declared.fault.ScriptFlaw.TheVariants as flaws
use Rattle.agent_script.specs.Lines.{line_words}
use Rattle.agent_script.specs.Statements.{LoadView, load_named, ScriptLine, load, turn}
use Rattle.agent_script.specs.Statements.{short_number, in_turn_range, turn_read, is_script_name}
use Rattle.agent_script.specs.Statements.{load_operands, turn_operands, statement_of}
use Rattle.agent_script.specs.Scripts.{ScriptView}
use Rattle.agent_script.specs.Texts.{AreWords, IsName, IsShortNumber, WordsSay, LineSays, IsWrong}
use Rattle.agent_script.proofs.Sayings.{short-is, right-name, right-names, load-line, turn-line}
use Rattle.agent_script.proofs.Sayings.{other-line}
use Rattle.agent_script.proofs.Spelling.{are-words, words-only}

-- ---- numbers

short-by : (word : List ℕ) (n : ℕ) (t : Bool) → nat_le (length word) MAX_DIGITS ≡ t
    → cond t (numeral 10 word) None ≡ Some n → IsShortNumber word n
short-by word n true l e =
    let p = numeral_is 10 n word e in (p.0, leb-true (length word) MAX_DIGITS l, p.1)
short-by word n false l e = absurd cc

short-says : (word : List ℕ) (n : ℕ) → short_number word ≡ Some n → IsShortNumber word n
short-says word n e = short-by word n (nat_le (length word) MAX_DIGITS) refl e

says-short : (word : List ℕ) (n : ℕ) → IsShortNumber word n → short_number word ≡ Some n
says-short word n h = sym (short-is word (Some n) h.1 (is_numeral 10 n word h.0 h.2))

range-by : (n b : ℕ) (t : Bool) → (nat_le 1 n && nat_le n MAX_TURN) ≡ t
    → cond t (Some n) None ≡ Some b → (n ≡ b) × (1 ≤ b) × (b ≤ MAX_TURN)
range-by n b true t e =
    let p = and_parts (nat_le 1 n) (nat_le n MAX_TURN) t in
    let same : n ≡ b = cc in (
      same,
      subst (λ m. 1 ≤ m) same (leb-true 1 n p.0),
      subst (λ m. m ≤ MAX_TURN) same (leb-true n MAX_TURN p.1),
    )
range-by n b false t e = absurd cc

range-says : (o : Option ℕ) (b : ℕ) → in_turn_range o ≡ Some b
    → (o ≡ Some b) × (1 ≤ b) × (b ≤ MAX_TURN)
range-says None b e = absurd cc
range-says (Some n) b e =
    let p = range-by n b (nat_le 1 n && nat_le n MAX_TURN) refl e in (ap Some p.0, p.1, p.2)

says-range : (b : ℕ) → 1 ≤ b → b ≤ MAX_TURN → in_turn_range (Some b) ≡ Some b
says-range b low high =
    cond-true (nat_le 1 b && nat_le b MAX_TURN) (Some b) None
    (and_from (nat_le 1 b) (nat_le b MAX_TURN) (le-leb 1 b low) (le-leb b MAX_TURN high))

-- ---- names

name-says : (word : List ℕ) → is_script_name word ≡ true → IsName word
name-says [] e = absurd (false≢true e)
name-says (b ∷ bs) e =
    let p = and_parts (not (length (b ∷ bs) == 0)) (is_utf8 (b ∷ bs)) e in
    (omega arith, IsUtf8-from_is_utf8 (b ∷ bs) p.1)

says-name : (word : List ℕ) → IsName word → is_script_name word ≡ true
says-name word h =
    right-name word
    (ne_eqb (length word) 0 (λ e. let none : length word ≡ 0 = e in omega (arith, none, h.0))) h.1

-- ---- what is said

loads-by : (policy file packets : List ℕ) (said : ScriptLine) (t : Bool)
    → (is_script_name policy && is_script_name file && is_script_name packets) ≡ t
    → cond t (Ok (load (load_named policy file packets))) (Err flaws.Form) ≡ Ok said
    → WordsSay (codes "load" ∷ policy ∷ file ∷ packets ∷ []) said
loads-by policy file packets said true t e =
    let p = and_parts (is_script_name policy && is_script_name file) (is_script_name packets) t in
    let q = and_parts (is_script_name policy) (is_script_name file) p.0 in
    let same : load (load_named policy file packets) ≡ said = cc in
    subst (λ s. WordsSay (codes "load" ∷ policy ∷ file ∷ packets ∷ []) s) same
    (refl, name-says policy q.0, name-says file q.1, name-says packets p.1)
loads-by policy file packets said false t e = absurd cc

loads-say : (rest : List (List ℕ)) (said : ScriptLine) → load_operands rest ≡ Ok said
    → WordsSay (codes "load" ∷ rest) said
loads-say [] said e = absurd cc
loads-say (policy ∷ []) said e = absurd cc
loads-say (policy ∷ file ∷ []) said e = absurd cc
loads-say (policy ∷ file ∷ packets ∷ []) said e =
    loads-by policy file packets said (is_script_name policy && is_script_name file && is_script_name packets) refl e
loads-say (policy ∷ file ∷ packets ∷ more ∷ rest) said e = absurd cc

turns-by : (a n : List ℕ) (said : ScriptLine) (x y : Option ℕ) → short_number a ≡ x
    → in_turn_range (short_number n) ≡ y → turn_read x y ≡ Ok said
    → WordsSay (codes "turn" ∷ a ∷ n ∷ []) said
turns-by a n said None y ex ey e = absurd cc
turns-by a n said (Some agent) None ex ey e = absurd cc
turns-by a n said (Some agent) (Some budget) ex ey e =
    let r = range-says (short_number n) budget ey in
    let same : turn agent budget ≡ said = cc in
    subst (λ s. WordsSay (codes "turn" ∷ a ∷ n ∷ []) s) same
    (a, n, refl, short-says a agent ex, short-says n budget r.0, r.1, r.2)

turns-say : (rest : List (List ℕ)) (said : ScriptLine) → turn_operands rest ≡ Ok said
    → WordsSay (codes "turn" ∷ rest) said
turns-say [] said e = absurd cc
turns-say (a ∷ []) said e = absurd cc
turns-say (a ∷ n ∷ []) said e =
    turns-by a n said (short_number a) (in_turn_range (short_number n)) refl refl e
turns-say (a ∷ n ∷ more ∷ rest) said e = absurd cc

says-by : (word : List ℕ) (rest : List (List ℕ)) (said : ScriptLine) (t u : Bool)
    → bytes_eq word (codes "load") ≡ t → bytes_eq word (codes "turn") ≡ u
    → cond t (load_operands rest) (cond u (turn_operands rest) (Err flaws.Word)) ≡ Ok said
    → WordsSay (word ∷ rest) said
says-by word rest said true u t h e =
    subst (λ w. WordsSay (w ∷ rest) said) (sym (same_bytes word (codes "load") t))
    (loads-say rest said e)
says-by word rest said false true t h e =
    subst (λ w. WordsSay (w ∷ rest) said) (sym (same_bytes word (codes "turn") h))
    (turns-say rest said e)
says-by word rest said false false t h e = absurd cc

-- what words are read as they say
pub words-say : (words : List (List ℕ)) (said : ScriptLine) → statement_of words ≡ Ok said
    → WordsSay words said
unfolding statement_of
words-say [] said e = absurd cc
words-say (word ∷ rest) said e =
    says-by word rest said (bytes_eq word (codes "load")) (bytes_eq word (codes "turn")) refl refl e

-- and what they say is read
pub says-words : (words : List (List ℕ)) (said : ScriptLine) → WordsSay words said
    → statement_of words ≡ Ok said
says-words words (load one) h =
    load-line words (one.policy ∷ one.file ∷ one.packets ∷ []) (codes "load") h.0
    (bytes_same (codes "load") (codes "load") refl)
    ∙ right-names one.policy one.file one.packets one.policy one.file one.packets
    (says-name one.policy h.1) (says-name one.file h.2) (says-name one.packets h.3) refl refl refl
says-words words (turn agent budget) (a, n, is, first, second, low, high) =
    turn-line words (a ∷ n ∷ []) (codes "turn") is refl
    (bytes_same (codes "turn") (codes "turn") refl)
    ∙ ap (λ x. turn_read x (in_turn_range (short_number n))) (says-short a agent first)
    ∙ ap (λ y. turn_read (Some agent) (in_turn_range y)) (says-short n budget second)
    ∙ ap (turn_read (Some agent)) (says-range budget low high)

-- the same of a line
pub line-says : (line : List ℕ) (said : ScriptLine) → statement_of (line_words line) ≡ Ok said
    → LineSays line said
line-says line said e = (line_words line, are-words line, words-say (line_words line) said e)

pub says-line : (line : List ℕ) (said : ScriptLine) → LineSays line said
    → statement_of (line_words line) ≡ Ok said
says-line line said (words, at, says) =
    ap statement_of (words-only words line at) ∙ says-words words said says

-- ---- what is wrong

-- operands that say nothing don't have the form
abbrev IsFormed : Result ScriptLine ScriptFlaw → Type 0
IsFormed (Ok said) = Unit {0}
IsFormed (Err flaw) = flaw ≡ flaws.Form

formed-if : (t : Bool) (one : LoadView) → IsFormed (cond t (Ok (load one)) (Err flaws.Form))
formed-if true one = tt
formed-if false one = refl

formed-loads : (rest : List (List ℕ)) → IsFormed (load_operands rest)
formed-loads [] = refl
formed-loads (policy ∷ []) = refl
formed-loads (policy ∷ file ∷ []) = refl
formed-loads (policy ∷ file ∷ packets ∷ []) =
    formed-if (is_script_name policy && is_script_name file && is_script_name packets) (load_named policy file packets)
formed-loads (policy ∷ file ∷ packets ∷ more ∷ rest) = refl

formed-read : (x y : Option ℕ) → IsFormed (turn_read x y)
formed-read None y = refl
formed-read (Some agent) None = refl
formed-read (Some agent) (Some budget) = tt

formed-turns : (rest : List (List ℕ)) → IsFormed (turn_operands rest)
formed-turns [] = refl
formed-turns (a ∷ []) = refl
formed-turns (a ∷ n ∷ []) = formed-read (short_number a) (in_turn_range (short_number n))
formed-turns (a ∷ n ∷ more ∷ rest) = refl

flaw-of : (made : Result ScriptLine ScriptFlaw) (flaw : ScriptFlaw) → IsFormed made
    → made ≡ Err flaw → flaws.Form ≡ flaw
flaw-of made flaw h e = sym (subst IsFormed e h)

form-of : (made : Result ScriptLine ScriptFlaw) → IsFormed made
    → ((said : ScriptLine) → made ≡ Ok said → ⊥) → made ≡ Err flaws.Form
form-of (Ok said) h none = absurd (none said refl)
form-of (Err flaw) h none = ap Err h

module _ (script : ScriptView) (line word : List ℕ) (rest : List (List ℕ))
    (at : AreWords line (word ∷ rest)) where
  wrong-by : (flaw : ScriptFlaw) (t u : Bool) → statement_of (word ∷ rest) ≡ Err flaw
      → bytes_eq word (codes "load") ≡ t → bytes_eq word (codes "turn") ≡ u
      → cond t (load_operands rest) (cond u (turn_operands rest) (Err flaws.Word)) ≡ Err flaw
      → IsWrong script line flaw
  wrong-by flaw true u whole t h e =
      subst (IsWrong script line) (flaw-of (load_operands rest) flaw (formed-loads rest) e) (
        word,
        rest,
        at,
        inl (same_bytes word (codes "load") t),
        λ said says. let both : Ok said ≡ Err flaw = sym (says-words (word ∷ rest) said says)
            ∙ whole in absurd (cc),
      )
  wrong-by flaw false true whole t h e =
      subst (IsWrong script line) (flaw-of (turn_operands rest) flaw (formed-turns rest) e) (
        word,
        rest,
        at,
        inr (same_bytes word (codes "turn") h),
        λ said says. let both : Ok said ≡ Err flaw = sym (says-words (word ∷ rest) said says)
            ∙ whole in absurd (cc),
      )
  wrong-by flaw false false whole t h e =
      let same : flaws.Word ≡ flaw = cc in
      subst (IsWrong script line) same (
        word,
        rest,
        at,
        λ is. false≢true (sym t ∙ bytes_same word (codes "load") is),
        λ is. false≢true (sym h ∙ bytes_same word (codes "turn") is),
      )

  wrong-words : (flaw : ScriptFlaw) → statement_of (word ∷ rest) ≡ Err flaw
      → IsWrong script line flaw
  unfolding statement_of
  wrong-words flaw e =
      wrong-by flaw (bytes_eq word (codes "load")) (bytes_eq word (codes "turn")) e refl refl e

wrong-at : (script : ScriptView) (line : List ℕ) (words : List (List ℕ)) → AreWords line words
    → (flaw : ScriptFlaw) → statement_of words ≡ Err flaw → IsWrong script line flaw
wrong-at script line [] at flaw e = absurd at
wrong-at script line (word ∷ rest) at flaw e = wrong-words script line word rest at flaw e

-- a line that is read as nothing
pub line-wrong : (script : ScriptView) (line : List ℕ) (flaw : ScriptFlaw)
    → statement_of (line_words line) ≡ Err flaw → IsWrong script line flaw
line-wrong script line flaw e = wrong-at script line (line_words line) (are-words line) flaw e

not-word : (word literal : List ℕ) → (word ≡ literal → ⊥) → bytes_eq word literal ≡ false
not-word word literal h =
    false_from_ne_true (bytes_eq word literal) (λ e. h (same_bytes word literal e))

-- a line whose first word is neither
pub wrong-word : (script : ScriptView) (line : List ℕ) → IsWrong script line flaws.Word
    → statement_of (line_words line) ≡ Err flaws.Word
wrong-word script line (word, rest, at, no-load, no-turn) =
    other-line (line_words line) rest word (words-only (word ∷ rest) line at)
    (not-word word (codes "load") no-load) (not-word word (codes "turn") no-turn)

-- a line that hasn't the form
pub wrong-form : (script : ScriptView) (line : List ℕ) → IsWrong script line flaws.Form
    → statement_of (line_words line) ≡ Err flaws.Form
wrong-form script line (word, rest, at, inl is, none) =
    let read : statement_of (line_words line) ≡ load_operands rest =
    load-line (line_words line) rest word (words-only (word ∷ rest) line at)
    (bytes_same word (codes "load") is) in
    read ∙ form-of (load_operands rest) (formed-loads rest) (λ said e.
    none said (subst (λ w. WordsSay (w ∷ rest) said) (sym is) (loads-say rest said e)))
wrong-form script line (word, rest, at, inr is, none) =
    let read : statement_of (line_words line) ≡ turn_operands rest =
    turn-line (line_words line) rest word (words-only (word ∷ rest) line at)
    (subst (λ w. bytes_eq w (codes "load") ≡ false) (sym is) refl)
    (bytes_same word (codes "turn") is) in
    read ∙ form-of (turn_operands rest) (formed-turns rest) (λ said e.
    none said (subst (λ w. WordsSay (w ∷ rest) said) (sym is) (turns-say rest said e)))
