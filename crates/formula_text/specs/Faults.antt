-- What the position of a fault means, with no word of how a text is parsed.
use Rattle.std.specs.Prelude.{◌≡◌, ℕ, ◌⊎◌, Bool, List, [], ◌∷◌, ◌++◌, length, map}
use Rattle.word_ops.specs.declared.Profile.{Profile}
use Rattle.formula_tree.specs.Formulas.{Form}
use Rattle.text_tokens.specs.declared.parens.Paren.{Paren}
use Rattle.text_tokens.specs.Tokens.{Token, Placed, tokens_at}
use Rattle.text_tokens.specs.Parens.{paren_class}
use Rattle.formula_text.specs.Grammar.{SpellsForm}

-- tokens without their positions
abbrev pub bare : List (Placed Paren) → List (Token Paren)
bare ts = map (λ t. t.1) ts

module _ (profile : Profile) (left : Bool) where
  -- some formula's tokens begin so
  abbrev pub BeginsForm : List (Token Paren) → Type 0
  BeginsForm ts =
      (f : Form) × (more : List (Token Paren)) × SpellsForm profile left f [] (ts ++ more)

  -- no formula's tokens begin so
  abbrev pub BeginsNoForm : List (Token Paren) → Type 0
  BeginsNoForm ts =
      (f : Form) (more : List (Token Paren)) → SpellsForm profile left f [] (ts ++ more) → ⊥

  -- Some formula begins with the tokens before p, and none with the token at p too, whatever follows; or p is the end of the text, which begins a formula and is none.
  abbrev pub IsFaultPosition : List ℕ → ℕ → Type 0
  IsFaultPosition text p =
      ((front rest : List (Placed Paren)) × (t : Token Paren) × (tokens_at paren_class 0 text ≡ front ++ ((p, t) ∷ rest)) × BeginsForm (bare front) × BeginsNoForm (bare front ++ (t ∷ [])))
      ⊎ ((p ≡ length text) × BeginsForm (bare (tokens_at paren_class 0 text)) × ((f : Form) → SpellsForm profile left f [] (bare (tokens_at paren_class 0 text)) → ⊥))
