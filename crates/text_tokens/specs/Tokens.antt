-- The tokens of a text: marks, which are single bytes, and lexemes, with any blanks between. What a byte does is said by a class function c; each kind of text has its own, and its own marks M.
use Rattle.std.specs.Prelude.{◌≡◌, ℕ, suc, ◌<◌, Bool, true, false, List, [], ◌∷◌, ◌++◌, length, map, drop, ◌+◌, Option, Some, None}
use Rattle.std.specs.List.{AllByRecursion}
use Rattle.text_tokens.specs.declared.tokens.Class.{Class}
use Rattle.text_tokens.specs.declared.tokens.Class.TheVariants as C
use Rattle.text_tokens.specs.declared.tokens.Token as code
use Rattle.text_tokens.specs.declared.tokens.Token.TheVariants as T

-- a mark, or as many ordinary bytes as stand together
pub data Token (M : Type 0) : Type 0 where
  Mark : M → Token M
  Lexeme : List ℕ → Token M

-- a token as it stands in memory, without the place of its lexeme
abbrev pub token_view : {M : Type 0} → code.Token M → Token M
token_view (T.Mark m) = Mark m
token_view (T.Lexeme w) = Lexeme w.now

-- whether the byte is a blank
abbrev pub is_blank : {M : Type 0} → Class M → Bool
is_blank C.Blank = true
is_blank (C.Mark m) = false
is_blank C.Ordinary = false

-- whether the byte stands in lexemes
abbrev pub is_ordinary : {M : Type 0} → Class M → Bool
is_ordinary C.Blank = false
is_ordinary (C.Mark m) = false
is_ordinary C.Ordinary = true

-- whether a lexeme goes on in this text
abbrev pub goes_on : {M : Type 0} → (ℕ → Class M) → List ℕ → Bool
goes_on c [] = false
goes_on c (b ∷ bs) = is_ordinary (c b)

-- one or more ordinary bytes
pub record IsLexeme {M : Type 0} (c : ℕ → Class M) (w : List ℕ) : Type 0 where
  pub some : 0 < length w
  pub whole : AllByRecursion (λ b. c b ≡ C.Ordinary) w

-- the text consists of these tokens; a lexeme is as long as it can be
pub data Consists {M : Type 0} (c : ℕ → Class M) : List ℕ → List (Token M) → Type 0 where
  nothing : Consists c [] []
  blank : {b : ℕ} {bs : List ℕ} {ts : List (Token M)} → c b ≡ C.Blank → Consists c bs ts → Consists c (b ∷ bs) ts
  mark : {b : ℕ} {m : M} {bs : List ℕ} {ts : List (Token M)} → c b ≡ C.Mark m → Consists c bs ts → Consists c (b ∷ bs) (Mark m ∷ ts)
  lexeme : {w bs : List ℕ} {ts : List (Token M)} → IsLexeme c w → goes_on c bs ≡ false → Consists c bs ts → Consists c (w ++ bs) (Lexeme w ∷ ts)

-- ---- the same as a function, each token with its position

-- a token and its position
abbrev pub Placed : Type 0 → Type 0
Placed M = ℕ × Token M

-- a byte in front of a lexeme that begins behind it
abbrev pub lengthened : {M : Type 0} → ℕ → ℕ → List (Placed M) → List (Placed M)
lengthened p b [] = (p, Lexeme (b ∷ [])) ∷ []
lengthened p b ((q, Lexeme w) ∷ ts) = (p, Lexeme (b ∷ w)) ∷ ts
lengthened p b ((q, Mark m) ∷ ts) = (p, Lexeme (b ∷ [])) ∷ (q, Mark m) ∷ ts

-- an ordinary byte in front of other tokens; on says whether a lexeme goes on behind it
abbrev pub with_ordinary : {M : Type 0} → Bool → ℕ → ℕ → List (Placed M) → List (Placed M)
with_ordinary true p b ts = lengthened p b ts
with_ordinary false p b ts = (p, Lexeme (b ∷ [])) ∷ ts

-- a byte of this class in front of other tokens
abbrev pub with_byte : {M : Type 0} → Class M → Bool → ℕ → ℕ → List (Placed M) → List (Placed M)
with_byte C.Blank on p b ts = ts
with_byte (C.Mark m) on p b ts = (p, Mark m) ∷ ts
with_byte C.Ordinary on p b ts = with_ordinary on p b ts

-- the tokens of a text that begins at position p
abbrev pub tokens_at : {M : Type 0} → (ℕ → Class M) → ℕ → List ℕ → List (Placed M)
tokens_at c p [] = []
tokens_at c p (b ∷ bs) = with_byte (c b) (goes_on c bs) p b (tokens_at c (suc p) bs)

-- the tokens without their positions
abbrev pub tokens_of : {M : Type 0} → (ℕ → Class M) → List ℕ → List (Token M)
tokens_of c text = map (λ t. t.1) (tokens_at c 0 text)

-- how many bytes a token has
abbrev pub token_length : {M : Type 0} → Token M → ℕ
token_length (Mark m) = 1
token_length (Lexeme w) = length w

-- the first of these tokens, and the text behind it
abbrev pub front_by : {M : Type 0} → List ℕ → List (Placed M) → Option (Token M × List ℕ)
front_by text [] = None
front_by text ((p, t) ∷ ts) = Some (t, drop (p + token_length t) text)

-- the first token, and the text behind it
unfoldable pub front_token : {M : Type 0} → (ℕ → Class M) → List ℕ → Option (Token M × List ℕ)
front_token c text = front_by text (tokens_at c 0 text)
