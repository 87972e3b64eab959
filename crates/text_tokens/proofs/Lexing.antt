-- The tokens of a text, as a relation and as a function.
use Rattle.std.proofs.Common.{◌≡◌, ℕ, zero, suc, ◌+◌, ◌≤◌, Bool, true, false, cond, List, [], ◌∷◌, ◌++◌, length, map, refl, sym, ap, ◌∙◌, subst, arith}
use Rattle.std.specs.List.{AllByRecursion}
use Rattle.text_tokens.specs.declared.tokens.Class.{Class}
use Rattle.text_tokens.specs.declared.tokens.Class.TheVariants as C
use Rattle.text_tokens.specs.Tokens.{Token, Mark, Lexeme, is_ordinary, goes_on, IsLexeme, Consists, nothing, blank, mark, lexeme, lengthened, with_ordinary, with_byte, tokens_at}
use Rattle.text_tokens.specs.Inside.Fronts.{lexeme_front, lexeme_rest}

front_by : (b : ℕ) (front rest bs : List ℕ) (t : Bool) → front ++ rest ≡ bs → cond t (b ∷ front) [] ++ cond t rest (b ∷ bs) ≡ b ∷ bs
front_by b front rest bs false e = refl
front_by b front rest bs true e = ap (λ l. b ∷ l) e

pub front_rest : {M : Type 0} (c : ℕ → Class M) (bs : List ℕ) → lexeme_front c bs ++ lexeme_rest c bs ≡ bs
front_rest c [] = refl
front_rest c (b ∷ bs) = front_by b (lexeme_front c bs) (lexeme_rest c bs) bs (is_ordinary (c b)) (front_rest c bs)

ordinary : {M : Type 0} (k : Class M) → is_ordinary k ≡ true → k ≡ C.Ordinary
ordinary C.Blank e = cc
ordinary (C.Mark m) e = cc
ordinary C.Ordinary e = refl

all_by : {M : Type 0} (c : ℕ → Class M) (b : ℕ) (front : List ℕ) (t : Bool) → is_ordinary (c b) ≡ t → AllByRecursion (λ x. c x ≡ C.Ordinary) front → AllByRecursion (λ x. c x ≡ C.Ordinary) (cond t (b ∷ front) [])
all_by c b front false e h = tt
all_by c b front true e h = (ordinary (c b) e, h)

pub front_whole : {M : Type 0} (c : ℕ → Class M) (bs : List ℕ) → AllByRecursion (λ x. c x ≡ C.Ordinary) (lexeme_front c bs)
front_whole c [] = tt
front_whole c (b ∷ bs) = all_by c b (lexeme_front c bs) (is_ordinary (c b)) refl (front_whole c bs)

stops_by : {M : Type 0} (c : ℕ → Class M) (b : ℕ) (rest bs : List ℕ) (t : Bool) → is_ordinary (c b) ≡ t → goes_on c rest ≡ false → goes_on c (cond t rest (b ∷ bs)) ≡ false
stops_by c b rest bs false e h = e
stops_by c b rest bs true e h = h

pub rest_stops : {M : Type 0} (c : ℕ → Class M) (bs : List ℕ) → goes_on c (lexeme_rest c bs) ≡ false
rest_stops c [] = refl
rest_stops c (b ∷ bs) = stops_by c b (lexeme_rest c bs) bs (is_ordinary (c b)) refl (rest_stops c bs)

-- ---- a lexeme at the front is one token

begun : {M : Type 0} (c : ℕ → Class M) (p b : ℕ) (bs : List ℕ) → c b ≡ C.Ordinary → tokens_at c p (b ∷ bs) ≡ with_ordinary (goes_on c bs) p b (tokens_at c (suc p) bs)
begun c p b bs e = ap (λ k. with_byte k (goes_on c bs) p b (tokens_at c (suc p) bs)) e

front_of : {M : Type 0} (c : ℕ → Class M) (b : ℕ) (bs : List ℕ) → c b ≡ C.Ordinary → lexeme_front c (b ∷ bs) ≡ b ∷ lexeme_front c bs
front_of c b bs e = ap (λ k. cond (is_ordinary k) (b ∷ lexeme_front c bs) []) e

rest_of : {M : Type 0} (c : ℕ → Class M) (b : ℕ) (bs : List ℕ) → c b ≡ C.Ordinary → lexeme_rest c (b ∷ bs) ≡ lexeme_rest c bs
rest_of c b bs e = ap (λ k. cond (is_ordinary k) (lexeme_rest c bs) (b ∷ bs)) e

no_front : {M : Type 0} (c : ℕ → Class M) (bs : List ℕ) → goes_on c bs ≡ false → lexeme_front c bs ≡ []
no_front c [] e = refl
no_front c (b ∷ bs) e = ap (λ t. cond t (b ∷ lexeme_front c bs) []) e

no_rest : {M : Type 0} (c : ℕ → Class M) (bs : List ℕ) → goes_on c bs ≡ false → lexeme_rest c bs ≡ bs
no_rest c [] e = refl
no_rest c (b ∷ bs) e = ap (λ t. cond t (lexeme_rest c bs) (b ∷ bs)) e

abbrev IsOneToken : {M : Type 0} → (ℕ → Class M) → ℕ → ℕ → List ℕ → Type 0
IsOneToken c p b bs = tokens_at c p (b ∷ bs) ≡ (p, Lexeme (b ∷ lexeme_front c bs)) ∷ tokens_at c (suc p + length (lexeme_front c bs)) (lexeme_rest c bs)

-- a lexeme that ends here
ends_here : {M : Type 0} (c : ℕ → Class M) (p b : ℕ) (bs : List ℕ) → c b ≡ C.Ordinary → goes_on c bs ≡ false → IsOneToken c p b bs
ends_here c p b bs e h =
    begun c p b bs e ∙ ap (λ t. with_ordinary t p b (tokens_at c (suc p) bs)) h
    ∙ rw (no_front c bs h, no_rest c bs h) (ap (λ q. (p, Lexeme (b ∷ [])) ∷ tokens_at c q bs) (omega arith))

-- a lexeme that goes on
goes_further : {M : Type 0} (c : ℕ → Class M) (p b d : ℕ) (bs : List ℕ) → c b ≡ C.Ordinary → c d ≡ C.Ordinary → IsOneToken c (suc p) d bs → IsOneToken c p b (d ∷ bs)
goes_further c p b d bs e f h =
    begun c p b (d ∷ bs) e ∙ ap (λ k. with_ordinary (is_ordinary k) p b (tokens_at c (suc p) (d ∷ bs))) f
    ∙ ap (lengthened p b) h
    ∙ rw (front_of c d bs f, rest_of c d bs f) (ap (λ q. (p, Lexeme (b ∷ d ∷ lexeme_front c bs)) ∷ tokens_at c q (lexeme_rest c bs)) (omega arith))

one_by : {M : Type 0} (c : ℕ → Class M) (p b d : ℕ) (bs : List ℕ) (t : Bool) → c b ≡ C.Ordinary → is_ordinary (c d) ≡ t → ((c d ≡ C.Ordinary) → IsOneToken c (suc p) d bs) → IsOneToken c p b (d ∷ bs)
one_by c p b d bs false e f h = ends_here c p b (d ∷ bs) e f
one_by c p b d bs true e f h = goes_further c p b d bs e (ordinary (c d) f) (h (ordinary (c d) f))

pub one_token : {M : Type 0} (c : ℕ → Class M) (p b : ℕ) (bs : List ℕ) → c b ≡ C.Ordinary → IsOneToken c p b bs
one_token c p b [] e = ends_here c p b [] e refl
one_token c p b (d ∷ bs) e = one_by c p b d bs (is_ordinary (c d)) e refl (λ f. one_token c (suc p) d bs f)

-- ---- the relation and the function

length_rest : (b : ℕ) (rest bs : List ℕ) (t : Bool) → length rest ≤ length bs → length (cond t rest (b ∷ bs)) ≤ suc (length bs)
length_rest b rest bs false h = omega arith
length_rest b rest bs true h = omega arith

pub rest_no_longer : {M : Type 0} (c : ℕ → Class M) (bs : List ℕ) → length (lexeme_rest c bs) ≤ length bs
rest_no_longer c [] = omega arith
rest_no_longer c (b ∷ bs) = length_rest b (lexeme_rest c bs) bs (is_ordinary (c b)) (rest_no_longer c bs)

abbrev IsLexed : {M : Type 0} → (ℕ → Class M) → ℕ → List ℕ → Type 0
IsLexed c p bs = Consists c bs (map (λ t. t.1) (tokens_at c p bs))

class_case : {M : Type 0} (c : ℕ → Class M) (p b : ℕ) (bs : List ℕ) (k : Class M) → c b ≡ k → ((q : ℕ) → IsLexed c q bs) → ((q : ℕ) → IsLexed c q (lexeme_rest c bs)) → IsLexed c p (b ∷ bs)
class_case c p b bs C.Blank e h g = subst (λ k. Consists c (b ∷ bs) (map (λ t. t.1) (with_byte k (goes_on c bs) p b (tokens_at c (suc p) bs)))) (sym e) (blank e (h (suc p)))
class_case c p b bs (C.Mark m) e h g = subst (λ k. Consists c (b ∷ bs) (map (λ t. t.1) (with_byte k (goes_on c bs) p b (tokens_at c (suc p) bs)))) (sym e) (mark e (h (suc p)))
class_case c p b bs C.Ordinary e h g =
    subst (λ ts. Consists c (b ∷ bs) (map (λ t. t.1) ts)) (sym (one_token c p b bs e))
    (subst (λ l. Consists c (b ∷ l) (Lexeme (b ∷ lexeme_front c bs) ∷ map (λ t. t.1) (tokens_at c (suc p + length (lexeme_front c bs)) (lexeme_rest c bs)))) (front_rest c bs)
    (lexeme {w = b ∷ lexeme_front c bs} (record { some = omega arith; whole = (e, front_whole c bs) }) (rest_stops c bs) (g (suc p + length (lexeme_front c bs)))))

lexed_below : {M : Type 0} (c : ℕ → Class M) (n p : ℕ) (bs : List ℕ) → length bs ≤ n → IsLexed c p bs
lexed_below c n p [] h = nothing
lexed_below c zero p (b ∷ bs) h = absurd (omega arith)
lexed_below c (suc n) p (b ∷ bs) h =
    let m = rest_no_longer c bs in
    class_case c p b bs (c b) refl (λ q. lexed_below c n q bs (omega arith)) (λ q. lexed_below c n q (lexeme_rest c bs) (omega arith))

-- a text consists of the tokens that the function gives
pub lexed : {M : Type 0} (c : ℕ → Class M) (p : ℕ) (bs : List ℕ) → Consists c bs (map (λ t. t.1) (tokens_at c p bs))
lexed c p bs = lexed_below c (length bs) p bs (omega arith)

front_append : {M : Type 0} (c : ℕ → Class M) (w bs : List ℕ) → AllByRecursion (λ b. c b ≡ C.Ordinary) w → goes_on c bs ≡ false → lexeme_front c (w ++ bs) ≡ w
front_append c [] bs h g = no_front c bs g
front_append c (b ∷ w) bs h g = front_of c b (w ++ bs) h.0 ∙ ap (λ l. b ∷ l) (front_append c w bs h.1 g)

rest_append : {M : Type 0} (c : ℕ → Class M) (w bs : List ℕ) → AllByRecursion (λ b. c b ≡ C.Ordinary) w → goes_on c bs ≡ false → lexeme_rest c (w ++ bs) ≡ bs
rest_append c [] bs h g = no_rest c bs g
rest_append c (b ∷ w) bs h g = rest_of c b (w ++ bs) h.0 ∙ rest_append c w bs h.1 g

pub lexeme_token : {M : Type 0} (c : ℕ → Class M) (p : ℕ) (w bs : List ℕ) → IsLexeme c w → goes_on c bs ≡ false → tokens_at c p (w ++ bs) ≡ (p, Lexeme w) ∷ tokens_at c (p + length w) bs
lexeme_token c p [] bs h g = absurd (omega (arith, h.some))
lexeme_token c p (b ∷ w) bs h g =
    one_token c p b (w ++ bs) h.whole.0
    ∙ rw (front_append c w bs h.whole.1 g, rest_append c w bs h.whole.1 g) (ap (λ q. (p, Lexeme (b ∷ w)) ∷ tokens_at c q bs) (omega arith))

-- and of no others
pub lexes : {M : Type 0} (c : ℕ → Class M) (p : ℕ) (bs : List ℕ) (ts : List (Token M)) → Consists c bs ts → map (λ t. t.1) (tokens_at c p bs) ≡ ts
lexes c p bs ts nothing = refl
lexes c p bs ts (blank {b = b} {bs = cs} e d) = ap (λ k. map (λ t. t.1) (with_byte k (goes_on c cs) p b (tokens_at c (suc p) cs))) e ∙ lexes c (suc p) cs ts d
lexes c p bs ts (mark {b = b} {m = m} {bs = cs} {ts = us} e d) = ap (λ k. map (λ t. t.1) (with_byte k (goes_on c cs) p b (tokens_at c (suc p) cs))) e ∙ ap (λ l. Mark m ∷ l) (lexes c (suc p) cs us d)
lexes c p bs ts (lexeme {w = w} {bs = cs} {ts = us} h g d) = ap (map (λ t. t.1)) (lexeme_token c p w cs h g) ∙ ap (λ l. Lexeme w ∷ l) (lexes c (p + length w) cs us d)
