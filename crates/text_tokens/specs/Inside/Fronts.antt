-- The lexeme at the front of a text.
use Rattle.std.specs.Prelude.{ℕ, if◌then◌else◌, List, [], ◌∷◌}
use Rattle.text_tokens.specs.declared.tokens.Class.{Class}
use Rattle.text_tokens.specs.Tokens.{is_ordinary}

-- the ordinary bytes that a text begins with
abbrev pub lexeme_front : {M : Type 0} → (ℕ → Class M) → List ℕ → List ℕ
lexeme_front c [] = []
lexeme_front c (b ∷ bs) = if is_ordinary (c b) then b ∷ lexeme_front c bs else []

-- what stands behind it
abbrev pub lexeme_rest : {M : Type 0} → (ℕ → Class M) → List ℕ → List ℕ
lexeme_rest c [] = []
lexeme_rest c (b ∷ bs) = if is_ordinary (c b) then lexeme_rest c bs else b ∷ bs
