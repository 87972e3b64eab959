-- Parts that no keyword has.
use Rattle.std.proofs.Common.{◌≡◌, ℕ, ◌+◌, ◌<◌, true, false, List, [], ◌∷◌, ◌++◌, length, map, None, refl, sym, arith, ap, ◌∙◌}
use Rattle.std.specs.Prelude.{◌==◌}
use Rattle.std.proofs.lemmas.Bool.{true≢false}
use Rattle.std.proofs.lemmas.List.{length-map, length-append}
use Rattle.formula_tree.specs.Formulas.{Exp, Form}
use Rattle.formula_text.specs.declared.keywords.Keyword.{Keyword}
use Rattle.formula_text.specs.declared.keywords.Keyword.TheVariants as K
use Rattle.formula_text.specs.declared.parts.Phrase as D
use Rattle.formula_text.specs.Parsing.{Phrase, AForm, AnExp, AMem, group_phrase}
use Rattle.formula_text.specs.Inside.Views.{phrase_view}

pub form_of_three : (h : Keyword) (A : Form) (y z : Phrase) → None ≡ group_phrase h (AForm A ∷ y ∷ z ∷ [])
form_of_three K.And A (AForm B) z = refl
form_of_three K.Or A (AForm B) z = refl
form_of_three K.Imp A (AForm B) z = refl
form_of_three h A y z = refl

pub exp_of_three : (h : Keyword) (a : Exp) (y z : Phrase) → None ≡ group_phrase h (AnExp a ∷ y ∷ z ∷ [])
exp_of_three (K.Rel p) a (AnExp b) z = refl
exp_of_three (K.Oper o) a (AnExp b) z = refl
exp_of_three h a y z = refl

many : (h : Keyword) (xs : List Phrase) → 3 < length xs → None ≡ group_phrase h xs
many (K.Rel p) (AnExp a ∷ AnExp b ∷ []) l = absurd (omega (arith, l))
many K.Rd (AnExp a ∷ []) l = absurd (omega (arith, l))
many K.Wr (AnExp a ∷ []) l = absurd (omega (arith, l))
many K.And (AForm A ∷ AForm B ∷ []) l = absurd (omega (arith, l))
many K.Or (AForm A ∷ AForm B ∷ []) l = absurd (omega (arith, l))
many K.Imp (AForm A ∷ AForm B ∷ []) l = absurd (omega (arith, l))
many K.All (AForm A ∷ []) l = absurd (omega (arith, l))
many K.Allm (AForm A ∷ []) l = absurd (omega (arith, l))
many (K.Oper o) (AnExp a ∷ AnExp b ∷ []) l = absurd (omega (arith, l))
many K.Sel (AMem m ∷ AnExp a ∷ []) l = absurd (omega (arith, l))
many K.Upd (AMem m ∷ AnExp a ∷ AnExp v ∷ []) l = absurd (omega (arith, l))
many h xs l = refl

some_left : (n : ℕ) (ws : List D.Phrase) → n ≡ length ws → (n == 0) ≡ false → 0 < length ws
some_left n [] e f = let g : true ≡ false = ap (λ (k : ℕ). k == 0) (sym e) ∙ f in absurd (true≢false g)
some_left n (w ∷ ws) e f = omega arith

-- more than three parts
pub of_more : (h : Keyword) (xs ys zs ws : List D.Phrase) (x y z : D.Phrase) (n : ℕ)
    → xs ≡ ys ++ z ∷ [] → ys ≡ zs ++ y ∷ [] → zs ≡ ws ++ x ∷ [] → n ≡ length ws → (n == 0) ≡ false
    → None ≡ group_phrase h (map phrase_view xs)
of_more h xs ys zs ws x y z n e f g i j =
    let l = some_left n ws i j in
    let a : length xs ≡ length ys + 1 = ap length e ∙ length-append ys (z ∷ []) in
    let b : length ys ≡ length zs + 1 = ap length f ∙ length-append zs (y ∷ []) in
    let c : length zs ≡ length ws + 1 = ap length g ∙ length-append ws (x ∷ []) in
    many h (map phrase_view xs) (omega (arith, l, a, b, c, length-map xs phrase_view))
