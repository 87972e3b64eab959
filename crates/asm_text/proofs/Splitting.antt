-- The first token of a text, and what stands behind it.
use Rattle.std.proofs.Common.{◌≡◌, ◌⊎◌, ⊎_elim, inl, inr, ℕ, suc, ◌+◌, ◌<◌, Bool, true, false, cond, List, [], ◌∷◌, ◌++◌, length, map, drop, Some, None, refl, sym, ap, ◌∙◌, subst, append_assoc, arith, leb}
use Rattle.std.specs.Prelude.{◌==◌, ◌&&◌, ◌||◌, nat_le, codes}
use Rattle.std.specs.List.{AllByRecursion}
use Rattle.std.proofs.lemmas.Bool.{false≢true, cond-false, and_parts, or_cases, eqb-true, leb-true, false_from_ne_true}
use Rattle.std.proofs.lemmas.List.{drop_at}
use Rattle.std.proofs.Common.{length-append}
use Rattle.text_tokens.specs.declared.tokens.Class.{Class}
use Rattle.text_tokens.specs.declared.tokens.Class.TheVariants as C
use Rattle.text_tokens.specs.Tokens.{Token, Mark, Lexeme, goes_on, IsLexeme, Consists, Placed, with_byte, tokens_at, tokens_of, token_length, front_by, front_token}
use Rattle.text_tokens.specs.Inside.Fronts.{lexeme_front, lexeme_rest}
use Rattle.text_tokens.proofs.Lexing.{front_rest, front_whole, rest_stops, one_token, lexed, lexes, lexeme_token}
use Rattle.asm_text.specs.declared.marks.Punct.{Punct}
use Rattle.asm_text.specs.declared.marks.Punct.TheVariants as M
use Rattle.asm_text.specs.Marks.{source_class, AreBlanks}
use Rattle.asm_text.specs.Labels.{is_letter, is_letter_or_digit, are_letters_or_digits, is_label}

-- ---- bytes

differs : (a b : ℕ) → (a < b) ⊎ (b < a) → (a == b) ≡ false
differs a b h = false_from_ne_true (a == b) (λ e. let s = eqb-true a b e in ⊎_elim (λ l. absurd (omega arith)) (λ l. absurd (omega arith)) h)

-- letters, digits and other bytes past the marks
past_marks : (b : ℕ) → 44 < b → (b < 58) ⊎ (58 < b) → source_class b ≡ C.Ordinary
unfolding source_class
past_marks b h g =
    cond-false (b == 32) _ _ (differs b 32 (inr (omega arith))) ∙ cond-false (b == 9) _ _ (differs b 9 (inr (omega arith)))
    ∙ cond-false (b == 44) _ _ (differs b 44 (inr h)) ∙ cond-false (b == 40) _ _ (differs b 40 (inr (omega arith)))
    ∙ cond-false (b == 41) _ _ (differs b 41 (inr (omega arith))) ∙ cond-false (b == 58) _ _ (differs b 58 g)

letter_ordinary : (b : ℕ) → is_letter b ≡ true → source_class b ≡ C.Ordinary
letter_ordinary b e =
    ⊎_elim (λ u. let p = and_parts (leb 65 b) (leb b 90) u in let l = leb-true 65 b p.0 in past_marks b (omega arith) (inr (omega arith)))
    (λ v. ⊎_elim (λ u. let p = and_parts (leb 97 b) (leb b 122) u in let l = leb-true 97 b p.0 in past_marks b (omega arith) (inr (omega arith)))
    (λ u. let s = eqb-true b 95 u in past_marks b (omega arith) (inr (omega arith))) (or_cases (nat_le 97 b && nat_le b 122) (b == 95) v))
    (or_cases (nat_le 65 b && nat_le b 90) ((nat_le 97 b && nat_le b 122) || b == 95) e)

letter_or_digit_ordinary : (b : ℕ) → is_letter_or_digit b ≡ true → source_class b ≡ C.Ordinary
letter_or_digit_ordinary b e =
    ⊎_elim (λ u. letter_ordinary b u)
    (λ u. let p = and_parts (leb 48 b) (leb b 57) u in let l = leb-true 48 b p.0 in let m = leb-true b 57 p.1 in past_marks b (omega arith) (inl (omega arith)))
    (or_cases (is_letter b) (nat_le 48 b && nat_le b 57) e)

letters_ordinary : (bs : List ℕ) → are_letters_or_digits bs ≡ true → AllByRecursion (λ b. source_class b ≡ C.Ordinary) bs
letters_ordinary [] e = tt
letters_ordinary (b ∷ bs) e = let p = and_parts (is_letter_or_digit b) (are_letters_or_digits bs) e in (letter_or_digit_ordinary b p.0, letters_ordinary bs p.1)

pub label_lexeme : (l : List ℕ) → is_label l ≡ true → IsLexeme source_class l
label_lexeme [] e = absurd (false≢true e)
label_lexeme (b ∷ bs) e = let p = and_parts (is_letter b) (are_letters_or_digits bs) e in record { some = omega arith; whole = (letter_ordinary b p.0, letters_ordinary bs p.1) }

chosen : {A : Type 0} (t : Bool) (x y z : A) → cond t x y ≡ z → (P : Type 0) → (t ≡ true → x ≡ z → P) → (t ≡ false → y ≡ z → P) → P
chosen true x y z e P f g = f refl e
chosen false x y z e P f g = g refl e

-- a colon is the byte 58
pub colon_is : (b : ℕ) → source_class b ≡ C.Mark M.Colon → b ≡ 58
unfolding source_class
colon_is b e =
    chosen (b == 32) _ _ _ e (b ≡ 58) (λ t f. cc) (λ t f.
    chosen (b == 9) _ _ _ f (b ≡ 58) (λ t f. cc) (λ t f.
    chosen (b == 44) _ _ _ f (b ≡ 58) (λ t f. cc) (λ t f.
    chosen (b == 40) _ _ _ f (b ≡ 58) (λ t f. cc) (λ t f.
    chosen (b == 41) _ _ _ f (b ≡ 58) (λ t f. cc) (λ t f.
    chosen (b == 58) _ _ _ f (b ≡ 58) (λ t f. eqb-true b 58 t) (λ t f. cc))))))

pub colon_class : source_class 58 ≡ C.Mark M.Colon
unfolding source_class
colon_class = refl

pub inv_lexeme : IsLexeme source_class (codes ".inv")
unfolding source_class
inv_lexeme = record { some = omega arith; whole = (refl, (refl, (refl, (refl, tt)))) }

-- ---- the front

-- the bytes of a token before others
abbrev pub IsBytes : Token Punct → List ℕ → List ℕ → Type 0
IsBytes (Mark m) w rest = (b : ℕ) × (source_class b ≡ C.Mark m) × (w ≡ b ∷ [])
IsBytes (Lexeme l) w rest = (w ≡ l) × IsLexeme source_class l × (goes_on source_class rest ≡ false)

-- the text begins with this token, behind blanks, and goes on so
abbrev pub Begins : List ℕ → Token Punct → List ℕ → Type 0
Begins text t rest = (bs w : List ℕ) × AreBlanks bs × IsBytes t w rest × (text ≡ bs ++ (w ++ rest))

bytes_length : (t : Token Punct) (w rest : List ℕ) → IsBytes t w rest → token_length t ≡ length w
bytes_length (Mark m) w rest h = ap length (sym h.2)
bytes_length (Lexeme l) w rest h = ap length (sym h.0)

abbrev FoundAt : ℕ → List ℕ → ℕ → Token Punct → Type 0
FoundAt q text p t = (bs w rest : List ℕ) × AreBlanks bs × IsBytes t w rest × (text ≡ bs ++ (w ++ rest)) × (p ≡ q + length bs)

head_same : {A : Type 0} (x y : A) (xs ys : List A) → x ∷ xs ≡ y ∷ ys → x ≡ y
head_same x y xs ys e = cc

found_by : (q b : ℕ) (text : List ℕ) (p : ℕ) (t : Token Punct) (ts : List (Placed Punct)) (k : Class Punct) → source_class b ≡ k → tokens_at source_class q (b ∷ text) ≡ (p, t) ∷ ts →
    (tokens_at source_class (suc q) text ≡ (p, t) ∷ ts → FoundAt (suc q) text p t) → FoundAt q (b ∷ text) p t
found_by q b text p t ts C.Blank k e g =
    let f = g (sym (ap (λ x. with_byte x (goes_on source_class text) q b (tokens_at source_class (suc q) text)) k) ∙ e) in
    (b ∷ f.0, f.1, f.2, (k, f.3), f.4, ap (λ l. b ∷ l) f.5, omega (arith, f.6))
found_by q b text p t ts (C.Mark m) k e g =
    let s : (q, Mark m) ≡ (p, t) = head_same _ _ _ _ (sym (ap (λ x. with_byte x (goes_on source_class text) q b (tokens_at source_class (suc q) text)) k) ∙ e) in
    subst (λ y. FoundAt q (b ∷ text) y.0 y.1) s ([], b ∷ [], text, tt, (b, k, refl), refl, omega arith)
found_by q b text p t ts C.Ordinary k e g =
    let s : (q, Lexeme (b ∷ lexeme_front source_class text)) ≡ (p, t) = head_same _ _ _ _ (sym (one_token source_class q b text k) ∙ e) in
    subst (λ y. FoundAt q (b ∷ text) y.0 y.1) s (
      [],
      b ∷ lexeme_front source_class text,
      lexeme_rest source_class text,
      tt,
      (refl, record { some = omega arith; whole = (k, front_whole source_class text) }, rest_stops source_class text),
      ap (λ l. b ∷ l) (sym (front_rest source_class text)),
      omega arith,
    )

found_at : (q : ℕ) (text : List ℕ) (p : ℕ) (t : Token Punct) (ts : List (Placed Punct)) → tokens_at source_class q text ≡ (p, t) ∷ ts → FoundAt q text p t
found_at q [] p t ts e = cc
found_at q (b ∷ text) p t ts e = found_by q b text p t ts (source_class b) refl e (λ f. found_at (suc q) text p t ts f)

drop_two : (bs w rest : List ℕ) (n : ℕ) → n ≡ length bs + length w → drop n (bs ++ (w ++ rest)) ≡ rest
drop_two bs w rest n e = ap (drop n) (sym (append_assoc bs w rest)) ∙ drop_at (bs ++ w) rest n (length-append bs w ∙ sym e)

begins_found : (text : List ℕ) (p : ℕ) (u t : Token Punct) (rest : List ℕ) → FoundAt 0 text p u → ◌≡◌ {A = Token Punct × List ℕ} (u, drop (p + token_length u) text) (t, rest) → Begins text t rest
begins_found text p u t rest f s =
    let d : drop (p + token_length u) text ≡ f.2 = ap (drop (p + token_length u)) f.5 ∙ drop_two f.0 f.1 f.2 (p + token_length u) (omega (arith, f.6, bytes_length u f.1 f.2 f.4)) in
    subst (λ y. Begins text y.0 y.1) {x = (u, f.2)} (ap (λ r. (u, r)) (sym d) ∙ s) (f.0, f.1, f.3, f.4, f.5)

front_by_is : (text : List ℕ) (l : List (Placed Punct)) (t : Token Punct) (rest : List ℕ) → tokens_at source_class 0 text ≡ l → front_by text l ≡ Some (t, rest) → Begins text t rest
front_by_is text [] t rest e h = cc
front_by_is text ((p, u) ∷ ts) t rest e h =
    let s : ◌≡◌ {A = Token Punct × List ℕ} (u, drop (p + token_length u) text) (t, rest) = cc in
    begins_found text p u t rest (found_at 0 text p u ts e) s

-- what is found at the front is there
pub front_is : (text : List ℕ) (t : Token Punct) (rest : List ℕ) → front_token source_class text ≡ Some (t, rest) → Begins text t rest
unfolding front_token
front_is text t rest e = front_by_is text (tokens_at source_class 0 text) t rest refl e

blanks_skipped : (q : ℕ) (bs text : List ℕ) → AreBlanks bs → tokens_at source_class q (bs ++ text) ≡ tokens_at source_class (q + length bs) text
blanks_skipped q [] text h = let z : q ≡ q + 0 = omega arith in ap (λ j. tokens_at source_class j text) z
blanks_skipped q (b ∷ bs) text h =
    ap (λ x. with_byte x (goes_on source_class (bs ++ text)) q b (tokens_at source_class (suc q) (bs ++ text))) h.0
    ∙ blanks_skipped (suc q) bs text h.1
    ∙ (let z : suc q + length bs ≡ q + length (b ∷ bs) = omega arith in ap (λ j. tokens_at source_class j text) z)

token_first : (q : ℕ) (t : Token Punct) (w rest : List ℕ) → IsBytes t w rest → (ts : List (Placed Punct)) × (tokens_at source_class q (w ++ rest) ≡ (q, t) ∷ ts)
token_first q (Mark m) w rest h = (tokens_at source_class (suc q) rest, ap (λ l. tokens_at source_class q (l ++ rest)) h.2 ∙ ap (λ x. with_byte x (goes_on source_class rest) q h.0 (tokens_at source_class (suc q) rest)) h.1)
token_first q (Lexeme l) w rest h = (tokens_at source_class (q + length l) rest, ap (λ x. tokens_at source_class q (x ++ rest)) h.0 ∙ lexeme_token source_class q l rest h.1 h.2)

-- what is at the front is found
pub front_of : (text : List ℕ) (t : Token Punct) (rest : List ℕ) → Begins text t rest → front_token source_class text ≡ Some (t, rest)
unfolding front_token
front_of text t rest h =
    let f = token_first (0 + length h.0) t h.1 rest h.3 in
    let n : 0 + length h.0 + token_length t ≡ length h.0 + length h.1 = omega (arith, bytes_length t h.1 rest h.3) in
    ap (front_by text) (ap (tokens_at source_class 0) h.4 ∙ blanks_skipped 0 h.0 (h.1 ++ rest) h.2 ∙ f.1)
    ∙ ap (λ r. Some (t, r)) (ap (drop (0 + length h.0 + token_length t)) h.4 ∙ drop_two h.0 h.1 rest (0 + length h.0 + token_length t) n)

-- ---- the front and all tokens

bare_none : (l : List (Placed Punct)) → map (λ t. t.1) l ≡ [] → l ≡ []
bare_none [] e = refl
bare_none (x ∷ l) e = cc

pub none_at_front : (text : List ℕ) → Consists source_class text [] → front_token source_class text ≡ None
unfolding front_token
none_at_front text h = ap (front_by text) (bare_none (tokens_at source_class 0 text) (lexes source_class 0 text [] h))

none_by : (text : List ℕ) (l : List (Placed Punct)) → tokens_at source_class 0 text ≡ l → front_by text l ≡ None → Consists source_class text []
none_by text [] e h = subst (λ l. Consists source_class text (map (λ t. t.1) l)) e (lexed source_class 0 text)
none_by text (x ∷ l) e h = cc

pub no_front : (text : List ℕ) → front_token source_class text ≡ None → Consists source_class text []
unfolding front_token
no_front text e = none_by text (tokens_at source_class 0 text) refl e

first_by : (text : List ℕ) (l : List (Placed Punct)) (t : Token Punct) (us : List (Token Punct)) → map (λ x. x.1) l ≡ t ∷ us → (rest : List ℕ) × (front_by text l ≡ Some (t, rest))
first_by text [] t us e = cc
first_by text ((p, u) ∷ l) t us e = let s : u ≡ t = cc in (drop (p + token_length u) text, ap (λ y. Some (y, drop (p + token_length u) text)) s)

-- the first of the tokens is at the front
pub first_token : (text : List ℕ) (t : Token Punct) (us : List (Token Punct)) → tokens_of source_class text ≡ t ∷ us → (rest : List ℕ) × (front_token source_class text ≡ Some (t, rest))
unfolding front_token
first_token text t us e = first_by text (tokens_at source_class 0 text) t us e

bare_same : (p q : ℕ) (text : List ℕ) → map (λ t. t.1) (tokens_at source_class p text) ≡ map (λ t. t.1) (tokens_at source_class q text)
bare_same p q text = lexes source_class p text (map (λ t. t.1) (tokens_at source_class q text)) (lexed source_class q text)

token_before : (q : ℕ) (t : Token Punct) (w rest : List ℕ) → IsBytes t w rest → map (λ x. x.1) (tokens_at source_class q (w ++ rest)) ≡ t ∷ tokens_of source_class rest
token_before q (Mark m) w rest h = ap (λ l. map (λ x. x.1) (tokens_at source_class q (l ++ rest))) h.2 ∙ ap (λ x. map (λ y. y.1) (with_byte x (goes_on source_class rest) q h.0 (tokens_at source_class (suc q) rest))) h.1 ∙ ap (λ l. Mark m ∷ l) (bare_same (suc q) 0 rest)
token_before q (Lexeme l) w rest h = ap (λ x. map (λ y. y.1) (tokens_at source_class q (x ++ rest))) h.0 ∙ ap (map (λ y. y.1)) (lexeme_token source_class q l rest h.1 h.2) ∙ ap (λ y. Lexeme l ∷ y) (bare_same (q + length l) 0 rest)

-- the token at the front is the first, and the others are those behind it
pub tokens_behind : (text : List ℕ) (t : Token Punct) (rest : List ℕ) → Begins text t rest → tokens_of source_class text ≡ t ∷ tokens_of source_class rest
tokens_behind text t rest h =
    ap (λ l. map (λ x. x.1) (tokens_at source_class 0 l)) h.4 ∙ ap (map (λ x. x.1)) (blanks_skipped 0 h.0 (h.1 ++ rest) h.2) ∙ token_before (0 + length h.0) t h.1 rest h.3

-- ---- the call that finds it

pub front_found : (text : List ℕ) (p n : ℕ) (t : Token Punct) (ts : List (Placed Punct)) (rest : List ℕ) → tokens_at source_class 0 text ≡ (p, t) ∷ ts → n ≡ p + token_length t → rest ≡ drop n text → Some (t, rest) ≡ front_token source_class text
unfolding front_token
front_found text p n t ts rest e l d = ap (λ r. Some (t, r)) (d ∙ ap (λ k. drop k text) l) ∙ sym (ap (front_by text) e)

pub rest_found : (text : List ℕ) (t : Token Punct) (rest : List ℕ) → Some (t, rest) ≡ front_token source_class text → tokens_of source_class text ≡ t ∷ tokens_of source_class rest
rest_found text t rest e = tokens_behind text t rest (front_is text t rest (sym e))

pub none_found : (text : List ℕ) → tokens_at source_class 0 text ≡ [] → None ≡ front_token source_class text
unfolding front_token
none_found text e = sym (ap (front_by text) e)
