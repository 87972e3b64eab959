-- A text from a position on.
use Rattle.std.proofs.Common.{◌≡◌, ℕ, suc, ◌+◌, ◌<◌, ◌≤◌, Bool, true, false, cond, List, [], ◌∷◌, length, get_or, take, drop, refl, sym, ap, ◌∙◌, subst, arith}
use Rattle.std.proofs.lemmas.List.{drop_more, drop_all, take_at, drop_at, drop-drop}
use Rattle.text_tokens.specs.declared.tokens.Class.{Class}
use Rattle.text_tokens.specs.declared.tokens.Class.TheVariants as C
use Rattle.text_tokens.specs.Tokens.{Lexeme, is_blank, is_ordinary, goes_on, with_byte, tokens_at}
use Rattle.text_tokens.specs.Inside.Fronts.{lexeme_front, lexeme_rest}
use Rattle.text_tokens.proofs.Lexing.{front_rest, one_token}

blank_is : {M : Type 0} (k : Class M) → is_blank k ≡ true → k ≡ C.Blank
blank_is C.Blank e = refl
blank_is (C.Mark m) e = cc
blank_is C.Ordinary e = cc

tokens_here : {M : Type 0} (c : ℕ → Class M) (text : List ℕ) (i : ℕ) (k : Class M) → i < length text → c (get_or text i 0) ≡ k →
    tokens_at c i (drop i text) ≡ with_byte k (goes_on c (drop (i + 1) text)) i (get_or text i 0) (tokens_at c (i + 1) (drop (i + 1) text))
tokens_here c text i k h e =
    ap (tokens_at c i) (drop_more text i 0 h)
    ∙ ap (λ x. with_byte x (goes_on c (drop (i + 1) text)) i (get_or text i 0) (tokens_at c (suc i) (drop (i + 1) text))) e
    ∙ (let z : suc i ≡ i + 1 = omega arith in ap (λ j. with_byte k (goes_on c (drop (i + 1) text)) i (get_or text i 0) (tokens_at c j (drop (i + 1) text))) z)

pub blank_more : {M : Type 0} (c : ℕ → Class M) (text : List ℕ) (i : ℕ) → i < length text → is_blank (c (get_or text i 0)) ≡ true → tokens_at c (i + 1) (drop (i + 1) text) ≡ tokens_at c i (drop i text)
blank_more c text i h e = sym (tokens_here c text i C.Blank h (blank_is (c (get_or text i 0)) e))

front_here : {M : Type 0} (c : ℕ → Class M) (text : List ℕ) (i : ℕ) (t : Bool) → i < length text → is_ordinary (c (get_or text i 0)) ≡ t → lexeme_front c (drop i text) ≡ cond t (get_or text i 0 ∷ lexeme_front c (drop (i + 1) text)) []
front_here c text i t h e = ap (lexeme_front c) (drop_more text i 0 h) ∙ ap (λ b. cond b (get_or text i 0 ∷ lexeme_front c (drop (i + 1) text)) []) e

pub front_more : {M : Type 0} (c : ℕ → Class M) (text : List ℕ) (i : ℕ) → i < length text → is_ordinary (c (get_or text i 0)) ≡ true → length (lexeme_front c (drop i text)) ≡ suc (length (lexeme_front c (drop (i + 1) text)))
front_more c text i h e = ap length (front_here c text i true h e)

pub front_ends : {M : Type 0} (c : ℕ → Class M) (text : List ℕ) (i : ℕ) → i < length text → is_ordinary (c (get_or text i 0)) ≡ false → length (lexeme_front c (drop i text)) ≡ 0
front_ends c text i h e = ap length (front_here c text i false h e)

pub front_past : {M : Type 0} (c : ℕ → Class M) (text : List ℕ) (i : ℕ) → length text ≤ i → length (lexeme_front c (drop i text)) ≡ 0
front_past c text i h = ap (λ l. length (lexeme_front c l)) (drop_all i text h)

pub front_taken : {M : Type 0} (c : ℕ → Class M) (text : List ℕ) → take (length (lexeme_front c text)) text ≡ lexeme_front c text
front_taken c text = subst (λ l. take (length (lexeme_front c text)) l ≡ lexeme_front c text) (front_rest c text) (take_at (lexeme_front c text) (lexeme_rest c text) (length (lexeme_front c text)) refl)

pub rest_dropped : {M : Type 0} (c : ℕ → Class M) (text : List ℕ) → drop (length (lexeme_front c text)) text ≡ lexeme_rest c text
rest_dropped c text = subst (λ l. drop (length (lexeme_front c text)) l ≡ lexeme_rest c text) (front_rest c text) (drop_at (lexeme_front c text) (lexeme_rest c text) (length (lexeme_front c text)) refl)

one_whole : {M : Type 0} (c : ℕ → Class M) (p : ℕ) (t : List ℕ) (b : ℕ) (bs : List ℕ) → t ≡ b ∷ bs → c b ≡ C.Ordinary → tokens_at c p t ≡ (p, Lexeme (lexeme_front c t)) ∷ tokens_at c (p + length (lexeme_front c t)) (lexeme_rest c t)
one_whole c p t b bs e h =
    ap (tokens_at c p) e ∙ one_token c p b bs h
    ∙ (let z : suc p + length (lexeme_front c bs) ≡ p + length (b ∷ lexeme_front c bs) = omega arith in ap (λ j. (p, Lexeme (b ∷ lexeme_front c bs)) ∷ tokens_at c j (lexeme_rest c bs)) z)
    ∙ ap (λ k. (p, Lexeme (cond (is_ordinary k) (b ∷ lexeme_front c bs) [])) ∷ tokens_at c (p + length (cond (is_ordinary k) (b ∷ lexeme_front c bs) [])) (cond (is_ordinary k) (lexeme_rest c bs) (b ∷ bs))) (sym h)
    ∙ ap (λ l. (p, Lexeme (lexeme_front c l)) ∷ tokens_at c (p + length (lexeme_front c l)) (lexeme_rest c l)) (sym e)

-- a lexeme from position i on, n bytes long
pub lexeme_here : {M : Type 0} (c : ℕ → Class M) (text : List ℕ) (i n : ℕ) → i < length text → c (get_or text i 0) ≡ C.Ordinary → n ≡ length (lexeme_front c (drop i text)) →
    tokens_at c i (drop i text) ≡ (i, Lexeme (take n (drop i text))) ∷ tokens_at c (i + n) (drop (i + n) text)
lexeme_here c text i n h e l =
    let t = drop i text in
    one_whole c i t (get_or text i 0) (drop (i + 1) text) (drop_more text i 0 h) e
    ∙ ap (λ w. (i, Lexeme w) ∷ tokens_at c (i + length (lexeme_front c t)) (lexeme_rest c t)) (sym (front_taken c t))
    ∙ ap (λ r. (i, Lexeme (take (length (lexeme_front c t)) t)) ∷ tokens_at c (i + length (lexeme_front c t)) r) (sym (rest_dropped c t) ∙ drop-drop (length (lexeme_front c t)) i text)
    ∙ ap (λ m. (i, Lexeme (take m t)) ∷ tokens_at c (i + m) (drop (i + m) text)) (sym l)

within_by : (b : ℕ) (front bs : List ℕ) (t : Bool) → length front ≤ length bs → length (cond t (b ∷ front) []) ≤ suc (length bs)
within_by b front bs true h = omega arith
within_by b front bs false h = omega arith

pub front_within : {M : Type 0} (c : ℕ → Class M) (text : List ℕ) → length (lexeme_front c text) ≤ length text
front_within c [] = omega arith
front_within c (b ∷ bs) = within_by b (lexeme_front c bs) bs (is_ordinary (c b)) (front_within c bs)

pub front_some : {M : Type 0} (c : ℕ → Class M) (text : List ℕ) (i : ℕ) → i < length text → c (get_or text i 0) ≡ C.Ordinary → 0 < length (lexeme_front c (drop i text))
front_some c text i h e = let f = front_more c text i h (ap is_ordinary e) in omega arith
